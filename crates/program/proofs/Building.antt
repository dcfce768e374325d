-- One row more: the rows before it stay as they were.
use Rattle.std.proofs.Common.{◌≡◌, ℕ, ◌+◌, ◌*◌, ◌<◌, ◌≤◌, true, List, [], ◌∷◌, ◌++◌, length, get_or, map, take, drop, sym, refl, ap, ◌∙◌, arith, below_more, length-append}
use Rattle.std.specs.List.{range_with_len}
use Rattle.std.proofs.Math.ListN.{get_or-append}
use Rattle.std.proofs.Math.Seq.{get_or-append_seam}
use Rattle.std.proofs.lemmas.List.FromFn.{get_or-map-range_with_len, length-map-range_with_len, map-range_with_len_more, fill_by_all}
use Rattle.std.proofs.lemmas.List.{get_or-drop, drop-take, take-take}
use Rattle.std.proofs.lemmas.Bool.{and_parts}
use Rattle.meaning.specs.Codes.{position}
use Rattle.meaning.specs.Blocks.{Kind, basic, switch}
use Rattle.meaning.specs.Rules.{nothing}
use Rattle.meaning.proofs.Tables.{position_below}
use Rattle.program.specs.declared.blocks.Shape.{Shape}
use Rattle.program.specs.declared.blocks.Shape.TheVariants.{Single, Switch}
use Rattle.program.specs.Store.{Slot, basic_of, unused, arms_of, kind_of, row_symbols, kind_in, kinds_of, all_among, covers, AllCover}
use Rattle.program.specs.Spare.{Bare}
use Rattle.program.proofs.Rows.{row_end}

-- a block with the same slots is the same
module _ (cols : List ℕ) (row row' : List Slot) (same : (i : ℕ) → i < length cols → get_or row' i unused ≡ get_or row i unused) where
  arms_same : (symbols : List ℕ) → all_among symbols cols ≡ true → arms_of cols symbols row' ≡ arms_of cols symbols row
  arms_same [] a = refl
  arms_same (c ∷ symbols) a = grind (arith, same (position c cols), position_below c cols, arms_same symbols)

  kind_same : (s : Shape) (symbols : List ℕ) → 0 < length cols → covers cols s symbols ≡ true → kind_of cols s symbols row' ≡ kind_of cols s symbols row
  kind_same Single symbols some h = ap (λ b. basic (basic_of b)) (same 0 some)
  kind_same Switch symbols some h = ap switch (arms_same symbols (and_parts (all_among cols symbols) (all_among symbols cols) h).1)

-- one shape more
shapes_new : (shapes : List Shape) (s : Shape) → get_or (shapes ++ s ∷ []) (length shapes) Single ≡ s
shapes_new shapes s = get_or-append_seam shapes s [] Single

module _ (cols : List ℕ) (shapes : List Shape) (s : Shape) (order order' : List ℕ) (slots slots' : List Slot)
    (same_order : take (length shapes * length cols) order' ≡ take (length shapes * length cols) order)
    (same_slots : (i : ℕ) → i < length shapes * length cols → get_or slots' i unused ≡ get_or slots i unused)
    (covered : AllCover cols shapes order) where
  abbrev w : ℕ
  w = length cols

  abbrev more : List Shape
  more = shapes ++ s ∷ []

  same_shapes : (q : ℕ) → q < length shapes → get_or more q Single ≡ get_or shapes q Single
  same_shapes q h = get_or-append shapes (s ∷ []) Single q h

  -- the symbols of a row, by what stands before the new one
  before : (o : List ℕ) (q : ℕ) → q < length shapes → row_symbols cols o q ≡ drop (q * w) (take (q * w + w) (take (length shapes * w) o))
  before o q h = sym (drop-take (q * w) w o) ∙ ap (drop (q * w)) (sym (take-take (q * w + w) (length shapes * w) o (row_end q (length shapes) w h)))

  symbols_same : (q : ℕ) → q < length shapes → row_symbols cols order' q ≡ row_symbols cols order q
  symbols_same q h = before order' q h ∙ ap (λ o. drop (q * w) (take (q * w + w) o)) same_order ∙ sym (before order q h)

  same_kind : (q : ℕ) → 0 < w → q < length shapes → kind_in cols more order' slots' q ≡ kind_in cols shapes order slots q
  same_kind q some h =
      let row : (i : ℕ) → i < w → get_or (drop (q * w) slots') i unused ≡ get_or (drop (q * w) slots) i unused =
      (λ i l. get_or-drop (q * w) slots' i unused ∙ same_slots (q * w + i) (omega (arith, row_end q (length shapes) w h)) ∙ sym (get_or-drop (q * w) slots i unused)) in
      ap (λ x. kind_of cols x (row_symbols cols order' q) (drop (q * w) slots')) (same_shapes q h)
      ∙ ap (λ l. kind_of cols (get_or shapes q Single) l (drop (q * w) slots')) (symbols_same q h)
      ∙ kind_same cols (drop (q * w) slots) (drop (q * w) slots') row (get_or shapes q Single) (row_symbols cols order q) some (covered q h)

  -- what holds of each number before, and of the new one
  each_more : (P : ℕ → Type 0) → ((q : ℕ) → q < length shapes → P q) → P (length shapes) → (q : ℕ) → q < length more → P q
  each_more P old new q h = below_more P (length shapes) old new q (omega (arith, length-append shapes (s ∷ [])))

  -- the blocks: those from before, and the new one
  pub one_more : (k : Kind ℕ) → 0 < w → kind_of cols s (row_symbols cols order' (length shapes)) (drop (length shapes * w) slots') ≡ k
      → kinds_of cols more order' slots' ≡ kinds_of cols shapes order slots ++ k ∷ []
  one_more k some e =
      let n = length shapes in
      let f = kind_in cols shapes order slots in
      let g = kind_in cols more order' slots' in
      let old : map g (range_with_len 0 n) ≡ kinds_of cols shapes order slots =
      fill_by_all f (map g (range_with_len 0 n)) n (basic nothing) (length-map-range_with_len g 0 n) (λ q h. get_or-map-range_with_len g 0 n q q (basic nothing) h (omega arith) ∙ same_kind q some h) in
      let new : g n ≡ k = ap (λ x. kind_of cols x (row_symbols cols order' n) (drop (n * w) slots')) (shapes_new shapes s) ∙ e in
      ap (λ m. map g (range_with_len 0 m)) (length-append shapes (s ∷ [])) ∙ map-range_with_len_more g 0 n n (omega arith) ∙ ap (λ l. l ++ g n ∷ []) old
      ∙ ap (λ x. kinds_of cols shapes order slots ++ x ∷ []) new

  -- the rows of basic blocks are bare still, where the new one is
  pub bare_more : Bare w shapes slots → (s ≡ Single → (i : ℕ) → 1 ≤ i → i < w → get_or slots' (length shapes * w + i) unused ≡ unused) → Bare w more slots'
  bare_more old new =
      each_more (λ q. get_or more q Single ≡ Single → (i : ℕ) → 1 ≤ i → i < w → get_or slots' (q * w + i) unused ≡ unused)
      (λ q h e i l m. same_slots (q * w + i) (omega (arith, row_end q (length shapes) w h)) ∙ old q h (sym (same_shapes q h) ∙ e) i l m) (λ e. new (sym (shapes_new shapes s) ∙ e))

  -- all cover still, where the new one does
  pub covers_more : covers cols s (row_symbols cols order' (length shapes)) ≡ true → AllCover cols more order'
  covers_more h =
      each_more (λ q. covers cols (get_or more q Single) (row_symbols cols order' q) ≡ true)
      (λ q l. ap (λ x. covers cols x (row_symbols cols order' q)) (same_shapes q l) ∙ ap (covers cols (get_or shapes q Single)) (symbols_same q l) ∙ covered q l)
      (ap (λ x. covers cols x (row_symbols cols order' (length shapes))) (shapes_new shapes s) ∙ h)
