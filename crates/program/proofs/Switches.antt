-- Whether a switch has each column exactly once, by its arms.
use Rattle.std.proofs.Common.{◌≡◌, ℕ, ◌&&◌, ◌||◌, eqb, List, [], ◌∷◌, sym, refl, ap, ◌∙◌, arith}
use Rattle.std.proofs.lemmas.List.Folds.{list_all-append, list_all-map}
use Rattle.std.specs.List.{list_any, list_all}
use Rattle.meaning.specs.Codes.{member, columns}
use Rattle.program.specs.declared.blocks.Arm.{Arm}
use Rattle.program.specs.Store.{all_among}
use Rattle.program.specs.Arms.{codes_of}

-- an arm has the code
pub member_arm : (c : ℕ) (arms : List (Arm ℕ)) → list_any (λ a. eqb c a.code) arms ≡ member c (codes_of arms)
member_arm c [] = refl
member_arm c (a ∷ arms) = ap (λ b. eqb c a.code || b) (member_arm c arms)

-- the code of each arm is a column
pub among_arms : (cols : List ℕ) (arms : List (Arm ℕ)) → list_all (λ a. member a.code cols) arms ≡ all_among (codes_of arms) cols
among_arms cols arms = sym (list_all-map (λ c. member c cols) (λ (a : Arm ℕ). a.code) arms)

-- each column is among these, where each letter is, and blank
pub among_columns : (ls those : List ℕ) → all_among (columns ls) those ≡ all_among ls those && member 0 those
among_columns ls those = list_all-append (λ c. member c those) ls (0 ∷ []) ∙ grind arith
