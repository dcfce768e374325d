-- The codes that records stand for: by which record one is found, on which side of the head, and one cell rewritten.
use Rattle.std.proofs.Common.{◌≡◌, ℕ, ◌+◌, ◌<◌, ◌≤◌, true, false, cond, eqb, nat_le, ◌==◌, ◌≢◌, List, [], ◌∷◌, ◌++◌, drop, set, Some, None, Option, sym, refl, ap, ◌∙◌, arith, eqb-true}
use Rattle.std.proofs.lemmas.Bool.Decides.{nat_tests}
use Rattle.std.specs.List.{slice_get, find}
use Rattle.sparse.specs.declared.record.NonblankCell.{NonblankCell}
use Rattle.sparse.specs.Records.{code_at, cells_of, Rising, stands}
use Rattle.sparse.specs.Sound.{rising_low, rising_le, code_below, cells_put}
use Rattle.sparse.proofs.Order.{right_off}

-- the code of a cell by the first record at it or past it
abbrev pub code_by : Option NonblankCell → ℕ → ℕ
code_by None k = 0
code_by (Some r) k = cond (r.cell == k) r.code 0

pub code_by_first : (a b k : ℕ) (rs : List NonblankCell) → Rising a b rs → code_at rs k ≡ code_by (find (λ r. nat_le k r.cell) rs) k
code_by_first a b k [] h = refl
code_by_first a b k (r ∷ rs) h =
    let later = code_by_first (r.cell + 1) b k rs h.3 in
    let past : k < r.cell + 1 → code_at rs k ≡ 0 = code_below (r.cell + 1) b k rs h.3 in
    grind (arith, nat_tests, past)

-- the code at a cell from b on is that of the records right of b
pub code_right : (a b k : ℕ) (xs ys : List NonblankCell) → Rising a b xs → b ≤ k → code_at (xs ++ ys) k ≡ code_at ys k
code_right a b k [] ys h le = refl
code_right a b k (x ∷ xs) ys h le =
    let lt = rising_le (x.cell + 1) b xs h.3 in
    let rest = code_right (x.cell + 1) b k xs ys h.3 le in
    grind (arith, nat_tests)

-- and below b that of the records left of it
pub code_left : (b n k : ℕ) (xs ys : List NonblankCell) → Rising b n ys → k < b → code_at (xs ++ ys) k ≡ code_at xs k
code_left b n k [] ys h lt = code_below b n k ys h lt
code_left b n k (x ∷ xs) ys h lt = ap (λ v. cond (eqb x.cell k) x.code v) (code_left b n k xs ys h lt)

code_same : (k : ℕ) (xs ys zs : List NonblankCell) → code_at ys k ≡ code_at zs k → code_at (xs ++ ys) k ≡ code_at (xs ++ zs) k
code_same k [] ys zs e = e
code_same k (x ∷ xs) ys zs e = ap (λ v. cond (eqb x.cell k) x.code v) (code_same k xs ys zs e)

-- ys becomes zs, where the code at h is c and the others are as they were
pub record Written (h n c : ℕ) (ys zs : List NonblankCell) : Type 0 where
  pub right : Rising h n zs
  pub here : code_at zs h ≡ c
  pub there : (k : ℕ) → k ≢ h → code_at zs k ≡ code_at ys k

pub written_over : (h n c : ℕ) (ys : List NonblankCell) → true ≡ stands (slice_get ys 0) h → Rising h n ys → 0 < c → c ≤ 36 → Written h n c ys (set ys 0 (record { cell = h; code = c }))
written_over h n c [] on hy gt le = cc
written_over h n c (r ∷ qs) on hy gt le =
    let e : r.cell ≡ h = eqb-true r.cell h (sym on) in
    record {
      right = (omega arith, gt, le, rising_low (r.cell + 1) (h + 1) n qs (omega arith) hy.3);
      here = grind (arith, nat_tests);
      there = λ k ne. grind (arith, nat_tests);
    }

pub written_out : (h n : ℕ) (ys : List NonblankCell) → true ≡ stands (slice_get ys 0) h → Rising h n ys → Written h n 0 ys (drop 1 ys)
written_out h n [] on hy = cc
written_out h n (r ∷ qs) on hy =
    let e : r.cell ≡ h = eqb-true r.cell h (sym on) in
    record {
      right = rising_low (r.cell + 1) h n qs (omega arith) hy.3;
      here = code_below (r.cell + 1) n h qs hy.3 (omega arith);
      there = λ k ne. grind (arith, nat_tests);
    }

pub written_in : (h n c : ℕ) (ys : List NonblankCell) → false ≡ stands (slice_get ys 0) h → h < n → Rising h n ys → 0 < c → c ≤ 36 → Written h n c ys (record { cell = h; code = c } ∷ ys)
written_in h n c ys off lt hy gt le =
    record {
      right = (omega arith, gt, le, right_off h n ys off (omega arith) hy);
      here = grind (arith, nat_tests);
      there = λ k ne. grind (arith, nat_tests);
    }

-- no record at the head: blank
pub off_blank : (h n : ℕ) (ys : List NonblankCell) → false ≡ stands (slice_get ys 0) h → h < n → Rising h n ys → code_at ys h ≡ 0
off_blank h n ys off lt hy = code_below (h + 1) n h ys (right_off h n ys off (omega arith) hy) (omega arith)

pub on_nonblank : (h n : ℕ) (ys : List NonblankCell) → true ≡ stands (slice_get ys 0) h → Rising h n ys → 0 < code_at ys h
on_nonblank h n [] on hy = cc
on_nonblank h n (r ∷ qs) on hy = let gt = hy.1 in grind (arith, nat_tests)

-- one cell rewritten
pub cells_written : (h n c : ℕ) (xs ys zs : List NonblankCell) → h < n → Rising 0 h xs → Written h n c ys zs → cells_of n (xs ++ zs) ≡ set (cells_of n (xs ++ ys)) h c
cells_written h n c xs ys zs lt hx w =
    cells_put n (xs ++ ys) (xs ++ zs) h c lt (code_right 0 h h xs zs hx (omega arith) ∙ w.here) (λ k ne. code_same k xs zs ys (w.there k ne))
