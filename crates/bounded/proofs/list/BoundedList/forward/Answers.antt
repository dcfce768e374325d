use Rattle.std.proofs.Common.{◌≡◌, List, [], ◌∷◌, drop, Some, refl, arith}
use Rattle.std.proofs.lemmas.Grind.{common_steps}
use Rattle.std.proofs.lemmas.List.{drop-drop}
use Rattle.std.specs.List.{slice_get}
use Rattle.bounded.proofs.list.BoundedList.forward.Goals as goal

first_is : {T : Type 0} (ys : List T) (x : T) → Some x ≡ slice_get ys 0 → ys ≡ x ∷ drop 1 ys
first_is [] x e = cc
first_is (y ∷ ys) x e = cc

pub returns-clause-after : goal.returns-clause-after
returns-clause-after g c =
    let l = c.args.self.now in
    let first = first_is _ _ c.in_ok-next.ensures in
    let further = drop-drop 1 l.back l.records.now in
    record { held = grind (arith, common_steps); lent = refl }
