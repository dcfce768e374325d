-- Records left and right of a head: which of them a head that moves passes over.
use Rattle.std.proofs.Common.{◌≡◌, ℕ, ◌+◌, ◌-◌, ◌<◌, ◌≤◌, true, false, ◌≢◌, List, [], ◌∷◌, ◌++◌, length, get_or, take, drop, Some, sym, ap, ◌∙◌, subst, arith, eqb-true}
use borrow.Author.Tests.{eqb-false}
use Rattle.std.proofs.lemmas.Grind.{common_steps}
use Rattle.std.proofs.lemmas.List.{append_assoc, take-append-drop, drop_more, drop_all}
use Rattle.std.proofs.lemmas.Option.{slice_get-get_or}
use Rattle.std.specs.List.{slice_get}
use Rattle.sparse.specs.declared.record.NonblankCell.{NonblankCell}
use Rattle.sparse.specs.Records.{Rising, stands}
use Rattle.sparse.specs.Sound.{rising_low, rising_join}

pub rising_high : (a b c : ℕ) (rs : List NonblankCell) → b ≤ c → Rising a b rs → Rising a c rs
rising_high a b c [] le h = omega arith
rising_high a b c (r ∷ rs) le h = (h.0, h.1, h.2, rising_high (r.cell + 1) b c rs le h.3)

-- the same records in the same order, parted at h
pub record Parted (h n : ℕ) (xs ys us vs : List NonblankCell) : Type 0 where
  pub left : Rising 0 h us
  pub right : Rising h n vs
  pub same : us ++ vs ≡ xs ++ ys

-- the head goes right, from its own record
pub right_on : (h n : ℕ) (xs ys : List NonblankCell) → true ≡ stands (slice_get ys 0) h → Rising 0 h xs → Rising h n ys → Parted (h + 1) n xs ys (xs ++ take 1 ys) (drop 1 ys)
right_on h n xs [] on hx hy = cc
right_on h n xs (r ∷ qs) on hx hy =
    let e : r.cell ≡ h = eqb-true r.cell h (sym on) in
    record {
      left = rising_join 0 h (h + 1) xs (r ∷ []) hx (hy.0, hy.1, hy.2, omega arith);
      right = rising_low (r.cell + 1) (h + 1) n qs (omega arith) hy.3;
      same = append_assoc xs (r ∷ []) qs;
    }

-- and from a blank cell
pub right_off : (h n : ℕ) (ys : List NonblankCell) → false ≡ stands (slice_get ys 0) h → h + 1 ≤ n → Rising h n ys → Rising (h + 1) n ys
right_off h n [] off le hy = le
right_off h n (r ∷ qs) off le hy =
    let ne : r.cell ≢ h = eqb-false r.cell h (sym off) in
    (omega (arith, hy.0), hy.1, hy.2, hy.3)

-- a list that isn't empty, by its last record
record Ended (h : ℕ) (xs us : List NonblankCell) : Type 0 where
  last : NonblankCell
  here : slice_get xs (length xs - 1) ≡ Some last
  end : drop (length xs - 1) xs ≡ last ∷ []
  joined : xs ≡ us ++ (last ∷ [])
  before : Rising 0 last.cell us
  from : Rising last.cell (h + 1) (last ∷ [])

rising_split : (a b : ℕ) (us : List NonblankCell) (x : NonblankCell) → Rising a b (us ++ (x ∷ [])) → Rising a x.cell us × Rising x.cell b (x ∷ [])
rising_split a b [] x h = (h.0, (omega arith, h.1, h.2, h.3))
rising_split a b (u ∷ us) x h = let rest = rising_split (u.cell + 1) b us x h.3 in ((h.0, h.1, h.2, rest.0), rest.1)

ended : (h : ℕ) (xs : List NonblankCell) → 0 < length xs → Rising 0 (h + 1) xs → Ended h xs (take (length xs - 1) xs)
ended h [] lt hx = absurd (omega arith)
ended h (y ∷ zs) lt hx =
    let xs : List NonblankCell = y ∷ zs in
    let x = get_or xs (length xs - 1) y in
    let within : length xs - 1 < length xs = omega arith in
    let past : length xs ≤ length xs - 1 + 1 = omega arith in
    let end : drop (length xs - 1) xs ≡ x ∷ [] = drop_more xs (length xs - 1) y within ∙ ap (λ r. x ∷ r) (drop_all (length xs - 1 + 1) xs past) in
    let joined : xs ≡ take (length xs - 1) xs ++ (x ∷ []) = sym (take-append-drop (length xs - 1) xs) ∙ ap (λ r. take (length xs - 1) xs ++ r) end in
    let parts = rising_split 0 (h + 1) (take (length xs - 1) xs) x (subst (λ l. Rising 0 (h + 1) l) joined hx) in
    record { last = x; here = slice_get-get_or xs (length xs - 1) y within; end = end; joined = joined; before = parts.0; from = parts.1 }

-- the head comes left to h, onto its own record
pub left_on : (h n : ℕ) (xs ys : List NonblankCell) → true ≡ stands (slice_get xs (length xs - 1)) h → Rising 0 (h + 1) xs → Rising (h + 1) n ys → Parted h n xs ys (take (length xs - 1) xs) (drop (length xs - 1) xs ++ ys)
left_on h n [] ys on hx hy = cc
left_on h n (y ∷ zs) ys on hx hy =
    let p = ended h (y ∷ zs) (omega arith) hx in
    let x = p.last in
    let e : x.cell ≡ h = eqb-true x.cell h (ap (λ o. stands o h) (sym p.here) ∙ sym on) in
    record {
      left = subst (λ j. Rising 0 j (take (length (y ∷ zs) - 1) (y ∷ zs))) e p.before;
      right = subst (λ l. Rising h n (l ++ ys)) (sym p.end) (omega arith, p.from.1, p.from.2, rising_low (h + 1) (x.cell + 1) n ys (omega arith) hy);
      same = grind (arith, common_steps);
    }

-- and onto a blank cell
pub left_off : (h : ℕ) (xs : List NonblankCell) → false ≡ stands (slice_get xs (length xs - 1)) h → Rising 0 (h + 1) xs → Rising 0 h xs
left_off h [] off hx = omega arith
left_off h (y ∷ zs) off hx =
    let p = ended h (y ∷ zs) (omega arith) hx in
    let x = p.last in
    let ne : x.cell ≢ h = eqb-false x.cell h (ap (λ o. stands o h) (sym p.here) ∙ sym off) in
    let less : x.cell + 1 ≤ h = omega (arith, p.from.3) in
    subst (λ l. Rising 0 h l) (sym p.joined) (rising_join 0 x.cell h _ (x ∷ []) p.before (p.from.0, p.from.1, p.from.2, less))
