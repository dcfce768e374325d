-- Different numbers below n are at most n.
use Rattle.std.proofs.Common.{◌≡◌, ℕ, zero, suc, ◌+◌, ◌<◌, ◌≤◌, Bool, true, false, cond, not, ◌||◌, eqb, List, [], ◌∷◌, length, refl, ap, ◌∙◌, arith}
use Rattle.std.proofs.lemmas.Bool.{eqb-true, eqb-false, ne_eqb, and_parts, not-true}
use Rattle.meaning.specs.Codes.{member, different}
use Rattle.meaning.specs.Tables.{Each}

abbrev one_if : Bool → ℕ
one_if b = cond b 1 0

-- how many numbers below n are members
abbrev count : List ℕ → ℕ → ℕ
count xs zero = 0
count xs (suc n) = one_if (member n xs) + count xs n

count_most : (xs : List ℕ) (n : ℕ) → count xs n ≤ n
count_most xs zero = omega arith
count_most xs (suc n) = at (member n xs) (count_most xs n)
  where
    at : (b : Bool) → count xs n ≤ n → one_if b + count xs n ≤ suc n
    at true h = omega arith
    at false h = omega arith

count_above : (x : ℕ) (xs : List ℕ) (n : ℕ) → n ≤ x → count (x ∷ xs) n ≡ count xs n
count_above x xs zero h = refl
count_above x xs (suc n) h =
    ap (λ b. one_if (b || member n xs) + count (x ∷ xs) n) (ne_eqb n x (λ e. omega arith)) ∙ ap (λ c. one_if (member n xs) + c) (count_above x xs n (omega arith))

count_more : (x : ℕ) (xs : List ℕ) (n : ℕ) → member x xs ≡ false → x < n → count (x ∷ xs) n ≡ suc (count xs n)
count_more x xs zero m h = absurd (omega arith)
count_more x xs (suc n) m h = at (eqb n x) refl (count_more x xs n m)
  where
    at : (b : Bool) → eqb n x ≡ b → (x < n → count (x ∷ xs) n ≡ suc (count xs n)) → one_if (b || member n xs) + count (x ∷ xs) n ≡ suc (one_if (member n xs) + count xs n)
    at true e ih =
        let f : one_if (member n xs) ≡ 0 = ap one_if (ap (λ c. member c xs) (eqb-true n x e) ∙ m) in
        let g : count (x ∷ xs) n ≡ count xs n = count_above x xs n (let d = eqb-true n x e in omega arith) in
        omega arith
    at false e ih = let g = ih (let d : n ≡ x → ⊥ = eqb-false n x e in omega arith) in omega arith

pub pigeons : (n : ℕ) (xs : List ℕ) → different xs ≡ true → Each (λ x. x < n) xs → length xs ≤ count xs n
pigeons n [] d h = omega arith
pigeons n (x ∷ xs) d h =
    let p = and_parts (not (member x xs)) (different xs) d in
    let c = count_more x xs n (not-true (member x xs) p.0) h.0 in
    let i = pigeons n xs p.1 h.1 in
    omega arith

pub at_most : (n : ℕ) (xs : List ℕ) → different xs ≡ true → Each (λ x. x < n) xs → length xs ≤ n
at_most n xs d h = omega (arith, pigeons n xs d h, count_most xs n)
