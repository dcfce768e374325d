use Rattle.std.proofs.Common.{pos, ◌+ℤ◌, sym, subst, arith, w32}
use Rattle.std.proofs.lemmas.Int.{to_z-of_z}
use Rattle.std.proofs.lemmas.Bool.Decides.{nat_tests}
use Rattle.bounded.specs.Held.{held, all}
use Rattle.sparse.specs.Records.{InOrder}
use Rattle.sparse.proofs.Codes.{code_left, code_right}
use Rattle.sparse.proofs.Calls.{looks}
use Rattle.sparse.proofs.sparse.operations.SparseTapeTape.look.Goals as goal

pub returns-in_err-cell : goal.returns-in_err-cell
returns-in_err-cell c =
    let t = c.args.self.now in
    let sees = looks t.size (all (held t.records.now)) (pos t.head +ℤ c.args.distance) in
    let same = to_z-of_z w32 c.args.distance c.ranges.distance in
    grind (arith, nat_tests)

pub find-requires : goal.find-requires
find-requires c = subst InOrder (sym c.before-then-cell-self.ensures) (0, c.args.self.now.head, c.args.self.now.kept.left)

pub find-requires-else-cell-self : goal.find-requires-else-cell-self
find-requires-else-cell-self c = subst InOrder (sym c.after.ensures) (c.args.self.now.head, c.args.self.now.size, c.args.self.now.kept.right)

pub returns-then-cell-self : goal.returns-then-cell-self
returns-then-cell-self c =
    let t = c.args.self.now in
    let l = held t.records.now in
    let sees = looks t.size (all l) (pos t.head +ℤ c.args.distance) in
    let same = to_z-of_z w32 c.args.distance c.ranges.distance in
    let left = code_left t.head t.size c.in_ok-cell.cell l.before l.after t.kept.right c.if-cell-self.true in
    grind (arith, nat_tests)

pub returns-else-cell-self : goal.returns-else-cell-self
returns-else-cell-self c =
    let t = c.args.self.now in
    let l = held t.records.now in
    let sees = looks t.size (all l) (pos t.head +ℤ c.args.distance) in
    let same = to_z-of_z w32 c.args.distance c.ranges.distance in
    let right = code_right 0 t.head c.in_ok-cell.cell l.before l.after t.kept.left c.if-cell-self.false in
    grind (arith, nat_tests)
