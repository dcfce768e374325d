-- Lists of bounded length, and what they mean, with one more at the end.
use Rattle.std.proofs.Common.{◌≡◌, ℕ, cond, leb, List, [], ◌∷◌, ◌++◌, map, length, ap, arith, add-one}
use Rattle.std.proofs.lemmas.List.{length-map, map_push}
use Rattle.std.proofs.lemmas.Bool.Decides.{nat_tests}
use Rattle.bounded.specs.Held.{Held, pushed}
use Rattle.bounded.specs.Inline.{extended}
use Rattle.events.specs.Notes.{kept}

-- one more in a list that lies in a value
pub extended_kept : {A : Type 0} (n : ℕ) (xs : List A) (x : A) → extended n xs (x ∷ []) ≡ kept n xs x
extended_kept n xs x = ap (λ k. cond (leb k n) (xs ++ x ∷ []) xs) (add-one (length xs))

-- what a push makes of a list with its cursor at the end, as the meaning of its records has it
pub push_kept : {A B : Type 0} (f : A → B) (h : Held A) (x : A) → h.after ≡ [] → map f (pushed h x).before ≡ kept h.capacity (map f h.before) (f x)
push_kept f h x e = grind (arith, nat_tests, length-map h.before f, map_push f h.before x)

-- the room stays
pub room_push : {A : Type 0} (h : Held A) (x : A) → (pushed h x).capacity ≡ h.capacity
room_push h x = grind (arith, nat_tests)
