-- Different symbols among others are no more than these; as many symbols as there are columns, with each among the other, are different.
use Rattle.std.proofs.Common.{arith, ◌≡◌, ℕ, ◌≤◌, true, false, not, ◌||◌, eqb, List, [], ◌∷◌, length, sym, refl, ap, ◌∙◌}
use Rattle.std.specs.List.{AllByRecursion, IsDistinct}
use Rattle.std.specs.Cmp.{both_ways}
use Rattle.std.specs.Set.{is_member}
use Rattle.std.proofs.lemmas.Cmp.{nat_eq_equiv}
use Rattle.std.proofs.lemmas.Bool.{and_parts, and_from, or_parts, not-true}
use Rattle.std.proofs.lemmas.Map.Made.{length-le_from_is_member, length-from_keys, IsDistinct-from_count}
use Rattle.meaning.specs.Codes.{member, different}
use Rattle.program.specs.Store.{all_among}
use Rattle.program.proofs.Rows.{among_member}

-- the library's words for members, and for lists whose items differ
member_is : (c : ℕ) (cs : List ℕ) → is_member eqb cs c ≡ member c cs
member_is c [] = refl
member_is c (d ∷ cs) = ap (λ b. eqb c d || b) (member_is c cs)

absent : (c : ℕ) (cs : List ℕ) → member c cs ≡ false → AllByRecursion (λ d. eqb c d ≡ false) cs
absent c [] m = tt
absent c (d ∷ cs) m = let p = or_parts (eqb c d) (member c cs) m in (p.0, absent c cs p.1)

not_there : (c : ℕ) (cs : List ℕ) → AllByRecursion (λ d. eqb c d ≡ false) cs → member c cs ≡ false
not_there c [] a = refl
not_there c (d ∷ cs) a = grind (arith, not_there c cs)

distinct : (cs : List ℕ) → different cs ≡ true → IsDistinct eqb cs
unfolding IsDistinct
distinct [] d = tt
distinct (c ∷ cs) d = let p = and_parts (not (member c cs)) (different cs) d in (absent c cs (not-true (member c cs) p.0), distinct cs p.1)

all_different : (cs : List ℕ) → IsDistinct eqb cs → different cs ≡ true
unfolding IsDistinct
all_different [] d = refl
all_different (c ∷ cs) d = and_from (not (member c cs)) (different cs) (ap not (not_there c cs d.0)) (all_different cs d.1)

among_is : (cs those : List ℕ) → all_among cs those ≡ true → (c : ℕ) → is_member eqb cs c ≡ true → is_member eqb those c ≡ true
among_is cs those a c m = member_is c those ∙ among_member cs those c a (sym (member_is c cs) ∙ m)

pub fewer_among : (cs those : List ℕ) → different cs ≡ true → all_among cs those ≡ true → length cs ≤ length those
fewer_among cs those d a = length-le_from_is_member nat_eq_equiv cs those (distinct cs d) (among_is cs those a)

pub whole_different : (symbols cols : List ℕ) → different cols ≡ true → all_among cols symbols ≡ true → all_among symbols cols ≡ true → length symbols ≡ length cols → different symbols ≡ true
whole_different symbols cols d a b l =
    let same : (c : ℕ) → is_member eqb cols c ≡ is_member eqb symbols c = λ c. both_ways (is_member eqb cols c) (is_member eqb symbols c) (among_is cols symbols a c) (among_is symbols cols b c) in
    all_different symbols (IsDistinct-from_count nat_eq_equiv symbols (sym (length-from_keys nat_eq_equiv cols symbols (distinct cols d) same) ∙ sym l))
