-- A block fits exactly where the slots do that it uses, and where all blocks fit all slots of the rows do.
use Rattle.std.proofs.Common.{◌≡◌, ℕ, zero, suc, ◌+◌, ◌*◌, ◌/◌, ◌%◌, ◌<◌, ◌≤◌, true, false, not, ◌&&◌, ltb, leb, List, [], ◌∷◌, length, get_or, take, drop, sym, refl, ap, ◌∙◌, subst, arith, length-drop}
use Rattle.std.specs.Cmp.{both_ways}
use Rattle.std.proofs.Math.Nat.{div-lt_iff_lt-mul}
use Rattle.std.proofs.lemmas.Bool.{or_from, le-ltb}
use Rattle.std.proofs.lemmas.List.FromFn.{get_or-map-range_with_len}
use Rattle.std.proofs.lemmas.List.{at_drop_more, get_or-take, get_or-drop, length-take, length-take-le}
use Rattle.std.proofs.lemmas.List.Elements.{All-from_get_or, All-get_or}
use Rattle.std.proofs.lemmas.List.Sums.{AllPass-from_list_all, list_all-from_AllPass}
use Rattle.bounded.specs.Inline.{items_of}
use Rattle.meaning.specs.Codes.{member, different, position}
use Rattle.meaning.specs.Blocks.{Kind, basic}
use Rattle.meaning.specs.Rules.{nothing, kind_at}
use Rattle.meaning.specs.Faults.{too_many}
use Rattle.meaning.proofs.Tables.{position_below}
use Rattle.program.specs.declared.store.Store.{Store}
use Rattle.program.specs.declared.program.Program.{Program}
use Rattle.program.specs.declared.blocks.Shape.{Shape}
use Rattle.program.specs.declared.blocks.Shape.TheVariants.{Single, Switch}
use Rattle.program.specs.Store.{Slot, basic_of, unused, arms_of, kind_of, row_symbols, kind_in, all_among, covers, place_in, basic_fits, all_fit}
use Rattle.program.specs.Arms.{arms_fit}
use Rattle.program.specs.Ranges.{arm_codes}
use Rattle.program.specs.Place.{columns_of, count_of, stored}
use Rattle.program.specs.InRange.{in_range, kind_fits, blocks_fit}
use Rattle.program.specs.Sound.{current_fits, kind_there, range_parts}
use Rattle.program.proofs.Rows.{current_at}
use Rattle.program.proofs.Rows.{counted, some_column, row_end}

-- a column, and where it stands
column_known : (cols : List ℕ) (i : ℕ) → i < length cols → member (get_or cols i 0) cols ≡ true
column_known [] i l = absurd (omega arith)
column_known (x ∷ xs) zero l = grind arith
column_known (x ∷ xs) (suc i) l = grind (arith, column_known xs i)

column_place : (cols : List ℕ) (i : ℕ) → i < length cols → different cols ≡ true → position (get_or cols i 0) cols ≡ i
column_place [] i l d = absurd (omega arith)
column_place (x ∷ xs) zero l d = grind arith
column_place (x ∷ xs) (suc i) l d = grind (arith, column_place xs i, column_known xs i)

-- the arms of a row: those of its symbols, which fit where the slots do
pub arms_codes : (cols symbols : List ℕ) (row : List Slot) → arm_codes (arms_of cols symbols row) ≡ symbols
arms_codes cols [] row = refl
arms_codes cols (c ∷ symbols) row = ap (λ l. c ∷ l) (arms_codes cols symbols row)

module _ (cols : List ℕ) (n : ℕ) (row : List Slot) (fits : (i : ℕ) → i < length cols → basic_fits cols n (basic_of (get_or row i unused)) ≡ true) where
  row_arms : (symbols : List ℕ) → all_among symbols cols ≡ true → arms_fit cols n (arms_of cols symbols row) ≡ true
  row_arms [] a = refl
  row_arms (c ∷ symbols) a = grind (arith, row_arms symbols, position_below c cols, fits (position c cols))

  row_kind : (s : Shape) (symbols : List ℕ) → 0 < length cols → length symbols ≡ length cols → covers cols s symbols ≡ true → kind_fits cols n (kind_of cols s symbols row) ≡ true
  row_kind Single symbols some wide h = fits 0 some
  row_kind Switch symbols some wide h = grind (arith, arms_codes cols symbols row, row_arms symbols)

-- the first slot of a row
first_fits : (cols : List ℕ) (n : ℕ) (row : List Slot) → 1 ≤ length row → all_fit cols n (take 1 row) ≡ basic_fits cols n (basic_of (get_or row 0 unused))
first_fits cols n [] h = absurd (omega arith)
first_fits cols n (x ∷ row) h = grind arith

module _ (s : Store) where
  abbrev cols : List ℕ
  cols = columns_of s

  abbrev n : ℕ
  n = count_of s

  abbrev w : ℕ
  w = length cols

  abbrev Fits : ℕ → Type 0
  Fits i = basic_fits cols n (basic_of (get_or s.slots i unused)) ≡ true

  abbrev used : List Slot
  used = take (n * w) s.slots

  used_length : length used ≡ n * w
  used_length = length-take-le (n * w) s.slots (let room = s.room in let whole = s.whole in omega arith)

  -- how many slots a block uses
  abbrev pub uses : Shape → ℕ
  uses Single = 1
  uses Switch = w

  -- a block, and the slots of its row
  module _ (q : ℕ) (h : q < n) where
    abbrev shape : Shape
    shape = get_or (items_of s.shapes) q Single

    abbrev row : List Slot
    row = drop (q * w) s.slots

    abbrev kind : Kind ℕ
    kind = kind_at (stored s).blocks q

    kind_is : kind ≡ kind_of cols shape (row_symbols cols s.order q) row
    kind_is = get_or-map-range_with_len (kind_in cols (items_of s.shapes) s.order s.slots) 0 n q q (basic nothing) h (omega arith)

    row_wide : w ≤ length row
    row_wide = let room = s.room in let whole = s.whole in omega (arith, length-drop (q * w) s.slots, row_end q n w h)

    -- the block fits where the slots do
    kind_whole : ((i : ℕ) → i < w → Fits (q * w + i)) → kind_fits cols n kind ≡ true
    kind_whole fits =
        let long : w ≤ length (drop (q * w) s.order) = (let room = s.room in let listed = s.listed in omega (arith, length-drop (q * w) s.order, row_end q n w h)) in
        ap (kind_fits cols n) kind_is
        ∙ row_kind cols n row (λ i l. ap (λ x. basic_fits cols n (basic_of x)) (get_or-drop (q * w) s.slots i unused) ∙ fits i l)
        shape (row_symbols cols s.order q) (some_column s) (length-take-le w (drop (q * w) s.order) long) (s.covered q h)

    -- and the slot that it gives at a column where the block does
    given_fits : kind_fits cols n kind ≡ true → (i : ℕ) → i < w → Fits (q * w + place_in shape i)
    given_fits fit i l =
        let c = get_or cols i 0 in
        ap (λ p. basic_fits cols n (basic_of (get_or s.slots (q * w + place_in shape p) unused))) (sym (column_place cols i l s.alphabet.differ))
        ∙ ap (basic_fits cols n) (sym (current_at cols (items_of s.shapes) s.order s.slots q c h s.covered (column_known cols i l)))
        ∙ current_fits cols n kind c fit

    -- one that it does not give too
    row_fits : kind_fits cols n kind ≡ true → (i : ℕ) → i < w → Fits (q * w + i)
    row_fits fit i l = at shape refl i l (given_fits fit i l)
      where
        at : (x : Shape) → shape ≡ x → (i : ℕ) → i < w → Fits (q * w + place_in x i) → Fits (q * w + i)
        at Switch e i l f = f
        at Single e zero l f = f
        at Single e (suc i) l f = ap (λ x. basic_fits cols n (basic_of x)) (s.bare q h e (suc i) (omega arith) l)

    -- so it is enough to ask the slots that it uses
    pub block_used : all_fit cols n (take (uses shape) row) ≡ kind_fits cols n kind
    block_used = by shape refl
      where
        Slots : List Slot → Type 0
        Slots slots = all_fit cols n slots ≡ true

        some : (i : ℕ) → i < w → get_or (take w row) i unused ≡ get_or s.slots (q * w + i) unused
        some i l = get_or-take w row i unused l ∙ get_or-drop (q * w) s.slots i unused

        wide : length (take w row) ≡ w
        wide = length-take-le w row row_wide

        to : Slots (take w row) → kind_fits cols n kind ≡ true
        to fit = kind_whole (λ i l.
            ap (λ x. basic_fits cols n (basic_of x)) (sym (some i l)) ∙ All-get_or (λ x. basic_fits cols n (basic_of x) ≡ true) (take w row) i unused (omega (arith, wide)) (AllPass-from_list_all (λ x. basic_fits cols n (basic_of x)) (take w row) fit))

        from : kind_fits cols n kind ≡ true → Slots (take w row)
        from fit = list_all-from_AllPass (λ x. basic_fits cols n (basic_of x)) (take w row) (All-from_get_or (λ x. basic_fits cols n (basic_of x) ≡ true) (take w row) unused (λ i l.
            let below : i < w = omega (arith, wide) in ap (λ x. basic_fits cols n (basic_of x)) (some i below) ∙ row_fits fit i below))

        by : (x : Shape) → shape ≡ x → all_fit cols n (take (uses x) row) ≡ kind_fits cols n kind
        by Single e =
            first_fits cols n row (omega (arith, row_wide, some_column s))
            ∙ sym (ap (kind_fits cols n) kind_is ∙ ap (λ x. kind_fits cols n (kind_of cols x (row_symbols cols s.order q) row)) e)
        by Switch e = both_ways (all_fit cols n (take w row)) (kind_fits cols n kind) to from

  -- the blocks from one on
  pub blocks_more : (q : ℕ) → q < n → blocks_fit cols n (drop q (stored s).blocks) ≡ kind_fits cols n (kind_at (stored s).blocks q) && blocks_fit cols n (drop (q + 1) (stored s).blocks)
  blocks_more q h = at_drop_more (blocks_fit cols n) (stored s).blocks q (basic nothing) (omega (arith, counted s))

  -- where all slots of the rows fit all blocks do
  module _ (fit : all_fit cols n used ≡ true) where
    slot_fits : (q i : ℕ) → q < n → i < w → Fits (q * w + i)
    slot_fits q i h l =
        let below : q * w + i < n * w = omega (arith, row_end q n w h) in
        ap (λ x. basic_fits cols n (basic_of x)) (sym (get_or-take (n * w) s.slots (q * w + i) unused below)) ∙ All-get_or (λ x. basic_fits cols n (basic_of x) ≡ true) used (q * w + i) unused (omega (arith, used_length)) (AllPass-from_list_all (λ x. basic_fits cols n (basic_of x)) used fit)

    blocks_there : blocks_fit cols n (stored s).blocks ≡ true
    blocks_there = list_all-from_AllPass (kind_fits cols n) (stored s).blocks (All-from_get_or (λ k. kind_fits cols n k ≡ true) (stored s).blocks (basic nothing) (λ q l. let h : q < n = omega (arith, counted s) in kind_whole q h (λ i m. slot_fits q i h m)))

  -- and back
  slots_there : blocks_fit cols n (stored s).blocks ≡ true → all_fit cols n used ≡ true
  slots_there fit =
      list_all-from_AllPass (λ x. basic_fits cols n (basic_of x)) used (All-from_get_or (λ x. basic_fits cols n (basic_of x) ≡ true) used unused (λ i l.
      let below : i < n * w = omega (arith, used_length) in
      let split : i / w * w + i % w ≡ i = omega (arith, some_column s) in
      let number : i / w < n = (div-lt_iff_lt-mul {x = i} (some_column s)).1 below in
      let there = kind_there cols n (stored s).blocks (i / w) (omega (arith, counted s)) fit in
      ap (λ x. basic_fits cols n (basic_of x)) (get_or-take (n * w) s.slots i unused below)
      ∙ subst Fits split (row_fits (i / w) number there (i % w) (omega (arith, some_column s)))))

  -- so all slots of the rows fit exactly where all blocks do
  pub filled : all_fit cols n used ≡ blocks_fit cols n (stored s).blocks
  filled = both_ways (all_fit cols n used) (blocks_fit cols n (stored s).blocks) blocks_there slots_there

  -- in range: some block, and all fit
  pub range_is : in_range (stored s) ≡ ltb 0 n && blocks_fit cols n (stored s).blocks
  range_is =
      let few : too_many n w ≡ false = or_from (ltb 128 n) (ltb 1024 (n * w)) (le-ltb 128 n (let z = s.shapes.within in omega (arith, length-take s.shapes.count s.shapes.items))) (le-ltb 1024 (n * w) s.room) in
      ap (λ m. leb 1 m && (not (too_many m w) && blocks_fit cols m (stored s).blocks)) (counted s)
      ∙ ap (λ v. leb 1 n && (not v && blocks_fit cols n (stored s).blocks)) few

-- every slot of a stored program fits, one that no block uses too
pub every_slot_fits : (p : Program) → all_fit (cols p.store) (n p.store) (used p.store) ≡ true
every_slot_fits p = let s = p.store in filled s ∙ subst (λ m. blocks_fit (cols s) m (stored s).blocks ≡ true) (counted s) (range_parts (stored s) p.ranged).fit
