-- Lemmas, with nothing to believe: a tape of records keeps what every tape keeps.
use Rattle.std.specs.Prelude.{◌≡◌, ℕ, zero, suc, ◌+◌, ◌<◌, ◌≤◌, true, ◌≢◌, List, [], ◌∷◌, ◌++◌, map, length, slice_index, slice_set, refl}
use Rattle.std.proofs.Common.{sym, ap, ◌∙◌, arith, length-set}
use Rattle.std.specs.List.{range_with_len}
use Rattle.std.proofs.lemmas.Bool.{cases_eq}
use Rattle.std.proofs.lemmas.Bool.Decides.{nat_tests}
use Rattle.std.proofs.lemmas.Grind.{common_steps}
use Rattle.std.proofs.lemmas.List.{length-append}
use Rattle.std.proofs.lemmas.List.FromFn.{length-map-range_with_len, get_or-map-range_with_len, fill_by_all}
use Rattle.bounded.specs.Held.{Held, all, count}
use Rattle.tape.specs.Meaning.{Valid, nonblank, all_codes}
use Rattle.sparse.specs.declared.record.NonblankCell.{NonblankCell}
use Rattle.sparse.specs.Records.{code_at, cells_of, Rising, Kept, of_records}

pub length_cells : (n : ℕ) (rs : List NonblankCell) → length (cells_of n rs) ≡ n
length_cells n rs = length-map-range_with_len (code_at rs) 0 n

pub get_or_cells : (n : ℕ) (rs : List NonblankCell) (k : ℕ) → k < n → slice_index (cells_of n rs) k ≡ code_at rs k
get_or_cells n rs k lt = get_or-map-range_with_len (code_at rs) 0 n k k 0 lt (omega arith)

-- one cell changed
pub cells_put : (n : ℕ) (rs ss : List NonblankCell) (h c : ℕ) → h < n → code_at ss h ≡ c → ((k : ℕ) → k ≢ h → code_at ss k ≡ code_at rs k) → cells_of n ss ≡ slice_set (cells_of n rs) h c
cells_put n rs ss h c lt here there =
    let long = length_cells n rs in
    sym (fill_by_all (code_at ss) (slice_set (cells_of n rs) h c) n 0 (length-set (cells_of n rs) h c ∙ long)
    (λ k kn. let p = cases_eq k h in let was = get_or_cells n rs k kn in grind (arith, common_steps, there k)))

pub rising_le : (a b : ℕ) (rs : List NonblankCell) → Rising a b rs → a ≤ b
rising_le a b [] h = h
rising_le a b (r ∷ rs) h = let rest = rising_le (r.cell + 1) b rs h.3 in omega (arith, h.0)

pub rising_low : (a a' b : ℕ) (rs : List NonblankCell) → a' ≤ a → Rising a b rs → Rising a' b rs
rising_low a a' b [] le h = omega arith
rising_low a a' b (r ∷ rs) le h = (omega (arith, h.0), h.1, h.2, h.3)

pub rising_join : (a b c : ℕ) (xs ys : List NonblankCell) → Rising a b xs → Rising b c ys → Rising a c (xs ++ ys)
rising_join a b c [] ys h k = rising_low b a c ys h k
rising_join a b c (x ∷ xs) ys h k = (h.0, h.1, h.2, rising_join (x.cell + 1) b c xs ys h.3 k)

pub code_below : (a b k : ℕ) (rs : List NonblankCell) → Rising a b rs → k < a → code_at rs k ≡ 0
code_below a b k [] h lt = refl
code_below a b k (r ∷ rs) h lt = let low = h.0 in let rest = code_below (r.cell + 1) b k rs h.3 (omega arith) in grind (arith, nat_tests)

pub code_most : (a b k : ℕ) (rs : List NonblankCell) → Rising a b rs → code_at rs k ≤ 36
code_most a b k [] h = omega arith
code_most a b k (r ∷ rs) h = let most = h.2 in let rest = code_most (r.cell + 1) b k rs h.3 in grind (arith, nat_tests)

nonblank_none : (a n : ℕ) → nonblank (map (code_at []) (range_with_len a n)) ≡ 0
nonblank_none a zero = refl
nonblank_none a (suc n) = nonblank_none (a + 1) n

nonblank_more : (xs : List ℕ) (h c : ℕ) → h < length xs → slice_index xs h ≡ 0 → 0 < c → nonblank (slice_set xs h c) ≡ 1 + nonblank xs
nonblank_more [] h c lt e pos = absurd (omega arith)
nonblank_more (x ∷ xs) zero c lt e pos = grind (arith, nat_tests)
nonblank_more (x ∷ xs) (suc h) c lt e pos = let rest = nonblank_more xs h c (omega arith) e pos in grind (arith, nat_tests)

-- as many nonblank cells as records
pub nonblank_cells : (a n : ℕ) (rs : List NonblankCell) → Rising a n rs → nonblank (cells_of n rs) ≡ length rs
nonblank_cells a n [] h = nonblank_none 0 n
nonblank_cells a n (r ∷ rs) h =
    let le = rising_le (r.cell + 1) n rs h.3 in
    let lt : r.cell < n = omega arith in
    let long = length_cells n rs in
    let blank = code_below (r.cell + 1) n r.cell rs h.3 (omega arith) in
    let one = cells_put n rs (r ∷ rs) r.cell r.code lt (grind (arith, nat_tests)) (λ k ne. grind (arith, nat_tests)) in
    let rest = nonblank_cells (r.cell + 1) n rs h.3 in
    ap nonblank one ∙ nonblank_more (cells_of n rs) r.cell r.code (omega arith) (get_or_cells n rs r.cell lt ∙ blank) h.1 ∙ omega arith

codes_of : (f : ℕ → ℕ) (a n : ℕ) → ((k : ℕ) → f k ≤ 36) → all_codes (map f (range_with_len a n)) ≡ true
codes_of f a zero h = refl
codes_of f a (suc n) h = let first = h a in let rest = codes_of f (a + 1) n h in grind (arith, nat_tests)

pub sound : (n h : ℕ) (l : Held NonblankCell) → Kept n h l → count l ≤ l.capacity → Valid (of_records l.capacity n (all l) h)
sound n h l kept few =
    let long = length_cells n (all l) in
    let rising = rising_join 0 h n l.before l.after kept.left kept.right in
    let within = nonblank_cells 0 n (all l) rising in
    let joined = length-append l.before l.after in
    record { here = omega arith; most = omega arith; limit = omega arith; within = omega arith; codes = codes_of (code_at (all l)) 0 n (λ j. code_most 0 n j (all l) rising) }
