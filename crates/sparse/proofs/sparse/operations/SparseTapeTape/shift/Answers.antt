use Rattle.std.proofs.Common.{refl, arith}
use Rattle.std.proofs.lemmas.Bool.Decides.{nat_tests}
use Rattle.sparse.proofs.Calls.{shift_edge, shift_backward, shift_left, shift_forward, shift_right}
use Rattle.sparse.proofs.sparse.operations.SparseTapeTape.shift.Goals as goal

pub invariant_of-self : goal.invariant_of-self
invariant_of-self c =
    record { kept = (shift_backward c.args.self.now.kept _ c.reach.ensures c.step.ensures c.in_ok-self.ensures.ok_part c.in-Left.is c.previous.ensures c.if-is_at.ensures c.backward.ensures.after.held).kept }

pub invariant_of-self-else-is_at : goal.invariant_of-self-else-is_at
invariant_of-self-else-is_at c =
    record { kept = (shift_left c.args.self.now.kept _ c.reach.ensures c.step.ensures c.in_ok-self.ensures.ok_part c.in-Left.is c.previous.ensures c.if-is_at.ensures).kept }

pub invariant_of-self-then-is_at-2 : goal.invariant_of-self-then-is_at-2
invariant_of-self-then-is_at-2 c =
    record { kept = (shift_forward c.args.self.now.kept _ c.reach.ensures c.step.ensures c.in_ok-self.ensures.ok_part c.in-Right.is c.next.ensures c.if-is_at-2.ensures c.forward.ensures.after.held).kept }

pub invariant_of-self-else-is_at-2 : goal.invariant_of-self-else-is_at-2
invariant_of-self-else-is_at-2 c =
    record { kept = (shift_right c.args.self.now.kept _ c.reach.ensures c.step.ensures c.in_ok-self.ensures.ok_part c.in-Right.is c.next.ensures c.if-is_at-2.ensures).kept }

pub returns-in_err-self : goal.returns-in_err-self
returns-in_err-self c =
    let s = shift_edge c.args.self.now.kept c.args.direction c.reach.ensures c.step.ensures c.in_err-self.ensures.ok_part in
    record { answer = grind (arith, nat_tests); after = s.after; lent = refl }

pub returns-then-is_at : goal.returns-then-is_at
returns-then-is_at c =
    let s = shift_backward c.args.self.now.kept _ c.reach.ensures c.step.ensures c.in_ok-self.ensures.ok_part c.in-Left.is c.previous.ensures c.if-is_at.ensures c.backward.ensures.after.held in
    record { answer = s.answer; after = s.after; lent = cc }

pub returns-else-is_at : goal.returns-else-is_at
returns-else-is_at c =
    let s = shift_left c.args.self.now.kept _ c.reach.ensures c.step.ensures c.in_ok-self.ensures.ok_part c.in-Left.is c.previous.ensures c.if-is_at.ensures in
    record { answer = s.answer; after = s.after; lent = refl }

pub returns-then-is_at-2 : goal.returns-then-is_at-2
returns-then-is_at-2 c =
    let s = shift_forward c.args.self.now.kept _ c.reach.ensures c.step.ensures c.in_ok-self.ensures.ok_part c.in-Right.is c.next.ensures c.if-is_at-2.ensures c.forward.ensures.after.held in
    record { answer = s.answer; after = s.after; lent = cc }

pub returns-else-is_at-2 : goal.returns-else-is_at-2
returns-else-is_at-2 c =
    let s = shift_right c.args.self.now.kept _ c.reach.ensures c.step.ensures c.in_ok-self.ensures.ok_part c.in-Right.is c.next.ensures c.if-is_at-2.ensures in
    record { answer = s.answer; after = s.after; lent = refl }
