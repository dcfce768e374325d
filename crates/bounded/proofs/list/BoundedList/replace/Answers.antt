use Rattle.std.proofs.Common.{◌≡◌, List, [], ◌∷◌, drop, set, None, refl}
use Rattle.std.specs.List.{slice_get}
use Rattle.bounded.proofs.list.BoundedList.replace.Goals as goal

none_set : {T : Type 0} (ys : List T) (x : T) → None ≡ slice_get ys 0 → ys ≡ set ys 0 x
none_set [] x e = refl
none_set (y ∷ ys) x e = cc

pub returns-in_err-replaced-clause-after : goal.returns-in_err-replaced-clause-after
returns-in_err-replaced-clause-after g c =
    let l = c.args.self.now in
    let none = none_set (drop l.back l.records.now) c.args.«record» c.in_err-replaced.ensures in
    record { held = cc; lent = refl }
