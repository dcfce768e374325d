-- What the library's searches find among codes.
use Rattle.std.proofs.Common.{◌≡◌, ℕ, cond, eqb, List, [], ◌∷◌, length, Some, None, Option, sym, refl, ap, ◌∙◌, ◌+◌, arith}
use Rattle.std.specs.List.{list_any, position as first_place, position_from}
use Rattle.std.specs.Option.{option_or}
use Rattle.std.proofs.lemmas.Iterator.Adapters.{position_from-zero}
use Rattle.meaning.specs.Codes.{member, position, columns}
use Rattle.alphabet.specs.Columns.{column_at}

-- `contains` tells whether a code is a member
pub contains_member : (c : ℕ) (cs : List ℕ) → list_any (λ x. eqb x c) cs ≡ member c cs
contains_member c [] = refl
contains_member c (x ∷ cs) = grind (arith, contains_member c cs)

-- `position` tells a code's column
column_from : (c i : ℕ) (cols : List ℕ) → position_from (λ x. eqb c x) i cols ≡ cond (member c cols) (Some (i + position c cols)) None
column_from c i [] = refl
column_from c i (x ∷ cols) = grind (arith, column_from c (i + 1) cols)

pub position_column : (c : ℕ) (cols : List ℕ) → first_place (λ x. eqb c x) cols ≡ column_at cols c
position_column c cols = position_from-zero (λ x. eqb c x) cols ∙ column_from c 0 cols ∙ ap (λ k. cond (member c cols) (Some k) None) (omega arith)

-- what a search among letters alone tells of it: blank's column is the one behind them
abbrev pub behind : ℕ → ℕ → Option ℕ
behind c k = cond (eqb c 0) (Some k) None

letter_from : (c i : ℕ) (ls : List ℕ) → position_from (λ x. eqb c x) i (columns ls) ≡ option_or (position_from (λ x. eqb c x) i ls) (behind c (i + length ls))
letter_from c i [] = ap (behind c) (omega arith)
letter_from c i (x ∷ ls) = grind (arith, letter_from c (i + 1) ls)

pub column_letter : (c : ℕ) (ls : List ℕ) → option_or (first_place (λ x. eqb c x) ls) (behind c (length ls)) ≡ column_at (columns ls) c
column_letter c ls =
    ap (λ x. option_or x (behind c (length ls))) (position_from-zero (λ x. eqb c x) ls)
    ∙ ap (λ k. option_or (position_from (λ x. eqb c x) 0 ls) (behind c k)) (omega arith)
    ∙ sym (letter_from c 0 ls)
    ∙ sym (position_from-zero (λ x. eqb c x) (columns ls))
    ∙ position_column c (columns ls)
