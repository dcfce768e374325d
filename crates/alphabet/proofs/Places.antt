-- Letters that stand apart, how many of them there are, and their columns.
use Rattle.std.proofs.Common.{◌≡◌, ℕ, ◌+◌, ◌<◌, ◌≤◌, Bool, true, not, ◌&&◌, ◌||◌, eqb, leb, List, [], ◌∷◌, length, get_or, IfSome, None, sym, ap, ◌∙◌, arith, length-append}
use Rattle.std.specs.List.{list_any}
use Rattle.std.proofs.Math.Bool.{or-false, or_assoc}
use Rattle.std.proofs.lemmas.List.FromFn.{get_or-map-range_with_len}
use Rattle.std.proofs.lemmas.List.{length-take}
use Rattle.std.proofs.lemmas.Bool.{and_parts}
use Rattle.tape.specs.Meaning.{all_codes}
use Rattle.meaning.specs.Codes.{member, different, columns}
use Rattle.meaning.specs.Tables.{Each}
use Rattle.meaning.proofs.Tables.{position_below}
use Rattle.meaning.proofs.Pigeons.{at_most}
use Rattle.alphabet.specs.declared.letters.Alphabet.{Alphabet}
use Rattle.alphabet.specs.Columns.{column_at, column_map}
use Rattle.alphabet.specs.Alphabets.{letters_of}
use Rattle.alphabet.proofs.Members.{contains_member}

-- blank is a column too
member_columns : (ls : List ℕ) (c : ℕ) → member c (columns ls) ≡ member c ls || eqb c 0
member_columns [] c = or-false (eqb c 0)
member_columns (d ∷ ls) c = ap (λ m. eqb c d || m) (member_columns ls c) ∙ sym (or_assoc (eqb c d) (member c ls) (eqb c 0))

-- a letter that stands apart from others
abbrev pub stands_apart : ℕ → List ℕ → Bool
stands_apart c ls = leb c 36 && not (member c (columns ls))

pub apart_by : (c : ℕ) (ls : List ℕ) → stands_apart c ls ≡ (not (eqb c 0) && leb c 36) && not (list_any (λ x. eqb x c) ls)
apart_by c ls = grind (arith, member_columns ls c, contains_member c ls)

-- letters that stand apart from one another
abbrev pub apart : List ℕ → Bool
apart ls = all_codes ls && different (columns ls)

pub apart_codes : (ls : List ℕ) → apart ls ≡ true → all_codes ls ≡ true
apart_codes ls a = (and_parts (all_codes ls) (different (columns ls)) a).0

pub apart_differ : (ls : List ℕ) → apart ls ≡ true → different (columns ls) ≡ true
apart_differ ls a = (and_parts (all_codes ls) (different (columns ls)) a).1

-- there are no more than 36 of them
codes_below : (ls : List ℕ) → all_codes ls ≡ true → Each (λ x. x < 37) (columns ls)
codes_below [] a = (omega arith, tt)
codes_below (c ∷ cs) a = let p = and_parts (leb c 36) (all_codes cs) a in (grind arith, codes_below cs p.1)

pub apart_few : (ls : List ℕ) → apart ls ≡ true → length ls ≤ 36
apart_few ls a = omega (arith, at_most 37 (columns ls) (apart_differ ls a) (codes_below ls (apart_codes ls a)), length-append ls (0 ∷ []))

pub width_is : (ls : List ℕ) → length (columns ls) ≡ length ls + 1
width_is ls = length-append ls (0 ∷ [])

pub letters_most : (a : Alphabet) → length (letters_of a) ≤ 36
letters_most a = let z = a.letters.within in omega (arith, length-take a.letters.count a.letters.items)

-- what the column map tells of a code
pub column_told : (cols : List ℕ) (c : ℕ) → c < 256 → get_or (column_map cols) c None ≡ column_at cols c
column_told cols c l = get_or-map-range_with_len (column_at cols) 0 256 c c None l (omega arith)

-- a column is one of those that there are
pub column_below : (cols : List ℕ) (c : ℕ) → IfSome (column_at cols c) (λ k. k < length cols)
column_below cols c = grind (arith, position_below c cols)
