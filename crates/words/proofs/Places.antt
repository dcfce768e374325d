-- The places of a source that is read.
use Rattle.std.proofs.Common.{◌≡◌, ℕ, ◌+◌, ◌<◌, List, ◌∷◌, length, get_or, drop, ap, arith}
use Rattle.std.proofs.lemmas.List.{length-drop, drop_more}
use Rattle.words.specs.declared.reader.Condition.{Condition}
use Rattle.words.specs.declared.reader.Condition.TheVariants.{Between, Inside}

-- where the word that is being read at a place began, or that place
abbrev pub start : Condition → ℕ → ℕ
start Between p = p
start (Inside q) p = q

-- a rest that is not empty begins with the byte at its place, and goes on from the next place
pub begins : (xs : List ℕ) (p b : ℕ) (bs : List ℕ) → drop p xs ≡ b ∷ bs → (p < length xs) × (get_or xs p 0 ≡ b) × (drop (p + 1) xs ≡ bs)
begins xs p b bs e =
    let some : p < length xs = omega (arith, length-drop p xs, ap length e) in
    let rest = drop_more xs p 0 some in
    (some, cc, cc)
