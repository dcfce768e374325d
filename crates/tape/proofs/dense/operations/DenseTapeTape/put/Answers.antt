use Rattle.std.proofs.Common.{◌≡◌, ◌<◌, length, get_or, nat_le, refl, arith, length-set, le-leb}
use Rattle.std.proofs.lemmas.Bool.Decides.{nat_tests}
use Rattle.std.proofs.lemmas.List.Recursion.{and_set}
use Rattle.tape.specs.Meaning.{all_codes, nonblank}
use Rattle.tape.proofs.Cells.{blank_room}
use Rattle.tape.proofs.dense.operations.DenseTapeTape.put.Goals as goal

pub invariant_of-self : goal.invariant_of-self
invariant_of-self c =
    let t = c.args.self.now in
    record {
      here = simp length-set (omega arith);
      most = simp length-set (omega arith);
      codes = and_set all_codes (λ k. nat_le k 36) refl (λ _ _. refl) t.cells.now t.head c.args.code (le-leb c.args.code 36 (omega arith)) t.codes;
    }

pub returns : goal.returns
returns c =
    let t = c.args.self.now in
    let room : get_or t.cells.now t.head 0 ≡ 0 → nonblank t.cells.now < length t.cells.now = blank_room t.cells.now t.head t.here in
    grind (arith, nat_tests, room, length-set)
