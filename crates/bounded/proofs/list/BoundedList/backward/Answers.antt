use Rattle.std.proofs.Common.{◌≡◌, ◌-◌, List, [], ◌∷◌, length, take, drop, Some, sym, refl, arith}
use Rattle.std.proofs.lemmas.Grind.{common_steps}
use Rattle.std.proofs.lemmas.List.{drop_more}
use Rattle.std.proofs.lemmas.Option.{slice_get_within, get_or_from_slice_get}
use Rattle.std.specs.List.{slice_get}
use Rattle.bounded.proofs.list.BoundedList.backward.Goals as goal

last_is : {T : Type 0} (ys : List T) (x : T) → Some x ≡ slice_get ys (length ys - 1) → drop (length ys - 1) ys ≡ x ∷ []
last_is ys x e =
    let within = slice_get_within ys (length ys - 1) x (sym e) in
    let more = drop_more ys (length ys - 1) x within in
    let same = get_or_from_slice_get ys (length ys - 1) x x (sym e) in
    grind (arith, common_steps)

pub returns-clause-after : goal.returns-clause-after
returns-clause-after g c =
    let l = c.args.self.now in
    let last = last_is (take l.front l.records.now) c.in_ok-previous.previous c.in_ok-previous.ensures in
    record { held = grind (arith, common_steps); lent = refl }
