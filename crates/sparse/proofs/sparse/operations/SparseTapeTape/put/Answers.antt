use Rattle.std.proofs.Common.{arith}
use Rattle.std.proofs.lemmas.Bool.Decides.{nat_tests}
use Rattle.sparse.proofs.Calls.{put_delete, put_replace, put_nothing, put_insert}
use Rattle.sparse.proofs.sparse.operations.SparseTapeTape.put.Goals as goal

pub invariant_of-self : goal.invariant_of-self
invariant_of-self c =
    record { kept = (put_delete c.args.self.now.kept c.next.ensures c.in-true-eq0.ensures c.in-true-eq0.is-1 c.delete.ensures.after.held).kept }

pub invariant_of-self-in-true-default : goal.invariant_of-self-in-true-default
invariant_of-self-in-true-default c =
    let p = put_replace c.args.self.now.kept c.next.ensures c.in-true-default.ensures c.in-true-default.is-1.1 (omega arith) c.replace.ensures.after.held in
    record { kept = p.kept }

pub invariant_of-self-in-false-default : goal.invariant_of-self-in-false-default
invariant_of-self-in-false-default c =
    let p = put_insert c.args.self.now.kept c.next.ensures c.in-false-default.ensures c.in-false-default.is-1.1 (omega arith) c.insert.ensures.after.held in
    record { kept = p.kept }

pub returns-in-true-eq0-clause-after : goal.returns-in-true-eq0-clause-after
returns-in-true-eq0-clause-after c =
    (put_delete c.args.self.now.kept c.next.ensures c.in-true-eq0.ensures c.in-true-eq0.is-1 c.delete.ensures.after.held).after

pub returns-in-true-default : goal.returns-in-true-default
returns-in-true-default c =
    let p = put_replace c.args.self.now.kept c.next.ensures c.in-true-default.ensures c.in-true-default.is-1.1 (omega arith) c.replace.ensures.after.held in
    record { answer = p.answer; after = p.after; lent = cc }

pub returns-in-false-eq0-clause-after : goal.returns-in-false-eq0-clause-after
returns-in-false-eq0-clause-after c = (put_nothing c.args.self.now.kept c.next.ensures c.in-false-eq0.ensures c.in-false-eq0.is-1).after

pub returns-in_err-map_err-in-false-default : goal.returns-in_err-map_err-in-false-default
returns-in_err-map_err-in-false-default c =
    let p = put_insert c.args.self.now.kept c.next.ensures c.in-false-default.ensures c.in-false-default.is-1.1 (omega arith) c.insert.ensures.after.held in
    record { answer = grind (arith, nat_tests); after = p.after; lent = cc }

pub returns-in_ok-map_err-in-false-default : goal.returns-in_ok-map_err-in-false-default
returns-in_ok-map_err-in-false-default c =
    let p = put_insert c.args.self.now.kept c.next.ensures c.in-false-default.ensures c.in-false-default.is-1.1 (omega arith) c.insert.ensures.after.held in
    record { answer = grind (arith, nat_tests); after = p.after; lent = cc }
