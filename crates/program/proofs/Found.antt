-- What a store answers at a number and a symbol.
use Rattle.std.proofs.Common.{◌≡◌, ℕ, ◌+◌, ◌*◌, ◌<◌, ◌≤◌, Bool, true, false, cond, ◌&&◌, List, length, get_or, Some, None, Option, sym, refl, ap, ◌∙◌, arith}
use Rattle.std.proofs.lemmas.Bool.{lt-ltb}
use Rattle.std.proofs.lemmas.List.{get_or_default}
use Rattle.bounded.specs.Inline.{items_of}
use Rattle.meaning.specs.Codes.{member, position}
use Rattle.meaning.specs.Blocks.{Basic}
use Rattle.meaning.specs.Rules.{current, kind_at}
use Rattle.meaning.proofs.Tables.{position_below}
use Rattle.alphabet.specs.Columns.{column_at}
use Rattle.program.specs.declared.store.Store.{Store}
use Rattle.program.specs.declared.blocks.Shape.TheVariants.{Single}
use Rattle.program.specs.Store.{Slot, basic_of, unused, place_in}
use Rattle.program.specs.Place.{columns_of, count_of, stored, basic_at}
use Rattle.program.proofs.Rows.{place_most, current_at}
use Rattle.program.proofs.Rows.{counted, row_end}

-- a symbol that has a column is known
column_found : (cols : List ℕ) (c k : ℕ) → Some k ≡ column_at cols c → (member c cols ≡ true) × (k ≡ position c cols)
column_found cols c k e = at (member c cols) refl e
  where
    at : (b : Bool) → member c cols ≡ b → Some k ≡ cond b (Some (position c cols)) None → (member c cols ≡ true) × (k ≡ position c cols)
    at true m e = (m, cc)
    at false m e = absurd (grind arith)

module _ (s : Store) (q c : ℕ) where
  abbrev told : Bool → Option (Basic ℕ)
  told b = cond b (Some (current (kind_at (stored s).blocks q) c)) None

  -- at a number that there is not
  pub none_found : count_of s ≤ q → basic_at (stored s) q c ≡ None
  none_found h = grind (arith, counted s)

  -- at a number, and a symbol with the column k
  pub slot_found : (k place : ℕ) (d : Slot) → q < count_of s → Some k ≡ column_at (columns_of s) c → place ≡ q * length (columns_of s) + place_in (get_or (items_of s.shapes) q Single) k
      → Some (basic_of (get_or s.slots place d)) ≡ basic_at (stored s) q c
  slot_found k place d h e at =
      let cols = columns_of s in
      let f = column_found cols c k e in
      let shape = get_or (items_of s.shapes) q Single in
      let here : place ≡ q * length cols + place_in shape (position c cols) = at ∙ ap (λ i. q * length cols + place_in shape i) f.1 in
      let below : place < length s.slots =
      (let room = s.room in let whole = s.whole in omega (arith, here, row_end q (count_of s) (length cols) h, place_most shape (position c cols), position_below c cols f.0)) in
      ap (λ x. Some (basic_of x)) (get_or_default s.slots place d unused below)
      ∙ ap (λ i. Some (basic_of (get_or s.slots i unused))) here
      ∙ ap Some (sym (current_at cols (items_of s.shapes) s.order s.slots q c h s.covered f.0))
      ∙ sym (ap (λ b. told (b && member c cols)) (lt-ltb q (length (stored s).blocks) (omega (arith, counted s))) ∙ ap told f.0)

-- what is answered at a number and a symbol
pub ruleset finding = (none_found, slot_found)
