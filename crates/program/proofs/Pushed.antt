-- A store before and after one block more.
use Rattle.std.proofs.Common.{◌≡◌, ℕ, ◌+◌, ◌*◌, ◌<◌, ◌≤◌, Bool, true, false, cond, not, ◌&&◌, ◌||◌, eqb, ltb, leb, List, [], ◌∷◌, ◌++◌, length, get_or, take, drop, set, Ok, Err, sym, refl, ap, ◌∙◌, add-zero, arith, length-append, length-set}
use lib.ListN.{length-map}
use Rattle.std.proofs.lemmas.List.{get_or-set_same, get_or-set_other, get_or-drop}
use Rattle.std.proofs.lemmas.Bool.{and_parts, eqb-true}
use Rattle.bounded.specs.Inline.{items_of, space_answer, extended}
use Rattle.meaning.specs.Blocks.{Kind, basic, switch}
use Rattle.meaning.specs.Faults.{too_many}
use Rattle.program.specs.declared.store.Store.{Store}
use Rattle.program.specs.declared.builder.BuildRefusal.TheVariants.{NoRoom}
use Rattle.program.specs.declared.blocks.Arm.{Arm}
use Rattle.program.specs.declared.blocks.Shape.{Shape}
use Rattle.program.specs.declared.blocks.Shape.TheVariants.{Single, Switch}
use Rattle.program.specs.Store.{Slot, basic_of, unused, arms_of, row_symbols, kinds_of, all_among, covers, AllCover}
use Rattle.program.specs.Spare.{Bare, Spare}
use Rattle.program.specs.Arms.{codes_of, arms_in, codes_put, slots_put, switch_fits}
use Rattle.program.specs.Place.{columns_of, count_of, stored}
use Rattle.program.specs.Built.{with_block, has_room, takes_switch}
use Rattle.program.proofs.Rows.{counted, some_column, row_end}
use Rattle.program.proofs.Building.{one_more, covers_more, bare_more}
use Rattle.program.proofs.Whole.{whole_different}
use Rattle.program.proofs.Written.{codes_length, codes_before, codes_row, slots_length, slots_before, slots_after, slots_row}

-- what every store keeps
pub record Keeps (cols : List ℕ) (shapes : List Shape) (order : List ℕ) (slots : List Slot) : Type 0 where
  pub listed : length order ≡ 1024
  pub whole : length slots ≡ 1024
  pub room : length shapes * length cols ≤ 1024
  pub covered : AllCover cols shapes order
  pub bare : Bare (length cols) shapes slots
  pub spare : Spare slots (length shapes * length cols)

-- the tests of a count and of the slots
room_test : (a b : ℕ) → not (ltb 128 (a + 1) || ltb 1024 b) ≡ ltb a 128 && leb b 1024
room_test a b = grind arith

module _ (s : Store) where
  abbrev cols : List ℕ
  cols = columns_of s

  abbrev n : ℕ
  n = count_of s

  abbrev w : ℕ
  w = length cols

  abbrev shapes : List Shape
  shapes = items_of s.shapes

  -- whether there is room
  pub room_is : has_room (stored s) ≡ ltb n 128 && leb ((n + 1) * w) 1024
  room_is = ap (λ m. not (too_many (m + 1) w)) (counted s) ∙ room_test n ((n + 1) * w)

  module _ (room : has_room (stored s) ≡ true) where
    room_parts : (n < 128) × ((n + 1) * w ≤ 1024)
    room_parts = (grind (arith, room_is), grind (arith, room_is))

    pub row_room : n * w + w ≤ 1024
    row_room = omega (arith, row_end n (n + 1) w (omega arith), room_parts.1)

    pub pushed : (x : Shape) → extended 128 shapes (x ∷ []) ≡ shapes ++ x ∷ []
    pushed x = grind (arith, room_parts.0)

    more_room : (x : Shape) → length (shapes ++ x ∷ []) * w ≤ 1024
    more_room x = rw (length-append shapes (x ∷ [])) room_parts.1

    -- where the row of one more number ends
    more_end : (x : Shape) → n * w + w ≤ length (shapes ++ x ∷ []) * w
    more_end x = row_end n (length (shapes ++ x ∷ [])) w (omega (arith, length-append shapes (x ∷ [])))

    -- a basic block more
    module _ (new : Slot) where
      abbrev filled : List Slot
      filled = set s.slots (n * w) new

      filled_before : (i : ℕ) → i < n * w → get_or filled i unused ≡ get_or s.slots i unused
      filled_before i h = get_or-set_other s.slots (n * w) i new unused (λ e. omega arith)

      filled_after : (i : ℕ) → n * w < i → get_or filled i unused ≡ unused
      filled_after i h = get_or-set_other s.slots (n * w) i new unused (λ e. omega arith) ∙ s.spare i (omega arith)

      pub basic_keeps : Keeps cols (shapes ++ Single ∷ []) s.order filled
      basic_keeps = record {
        listed = s.listed;
        whole = length-set s.slots (n * w) new ∙ s.whole;
        room = more_room Single;
        covered = covers_more cols shapes Single s.order s.order s.slots filled refl filled_before s.covered refl;
        bare = bare_more cols shapes Single s.order s.order s.slots filled refl filled_before s.covered s.bare (λ _ i l m. filled_after (n * w + i) (omega arith));
        spare = λ i h. filled_after i (omega (arith, more_end Single, some_column s));
      }

      pub basic_more : kinds_of cols (shapes ++ Single ∷ []) s.order filled ≡ (stored s).blocks ++ basic (basic_of new) ∷ []
      basic_more =
          let whole = s.whole in
          let here : get_or (drop (n * w) filled) 0 unused ≡ new =
          get_or-drop (n * w) filled 0 unused ∙ ap (λ i. get_or filled i unused) (add-zero (n * w)) ∙ get_or-set_same s.slots (n * w) new unused (omega (arith, row_room, some_column s)) in
          one_more cols shapes Single s.order s.order s.slots filled refl filled_before s.covered (basic (basic_of new)) (some_column s) (ap (λ x. basic (basic_of x)) here)

    -- a switch more
    module _ (arms : List (Arm ℕ)) (fits : switch_fits cols (codes_of arms) ≡ true) where
      abbrev cs : List ℕ
      cs = codes_of arms

      parts : (eqb (length cs) w ≡ true) × (covers cols Switch cs ≡ true)
      parts = and_parts (eqb (length cs) w) (covers cols Switch cs) fits

      wide : length cs ≡ w
      wide = eqb-true (length cs) w parts.0

      pub arms_room : n * w + length arms ≤ 1024
      arms_room = omega (arith, row_room, wide, length-map arms (λ (a : Arm ℕ). a.code))

      abbrev order : List ℕ
      order = codes_put (n * w) cs s.order

      abbrev slots : List Slot
      slots = slots_put cols (n * w) arms s.slots

      same_order : take (n * w) order ≡ take (n * w) s.order
      same_order = codes_before (n * w) (n * w) cs s.order (omega arith)

      same_slots : (i : ℕ) → i < n * w → get_or slots i unused ≡ get_or s.slots i unused
      same_slots = slots_before cols (n * w) arms s.slots

      new_row : row_symbols cols order n ≡ cs
      new_row = ap (λ k. take k (drop (n * w) order)) (sym wide) ∙ codes_row (n * w) cs s.order (let z = s.listed in omega (arith, row_room, wide))

      pub switch_keeps : Keeps cols (shapes ++ Switch ∷ []) order slots
      switch_keeps = record {
        listed = codes_length (n * w) cs s.order ∙ s.listed;
        whole = slots_length cols (n * w) arms s.slots ∙ s.whole;
        room = more_room Switch;
        covered = covers_more cols shapes Switch s.order order s.slots slots same_order same_slots s.covered (ap (covers cols Switch) new_row ∙ parts.1);
        bare = bare_more cols shapes Switch s.order order s.slots slots same_order same_slots s.covered s.bare (λ e. cc);
        spare = λ i h. slots_after cols (n * w) arms s.slots i (omega (arith, more_end Switch)) ∙ s.spare i (omega (arith, more_end Switch));
      }

      pub switch_more : kinds_of cols (shapes ++ Switch ∷ []) order slots ≡ (stored s).blocks ++ switch (arms_in arms) ∷ []
      switch_more =
          let among = and_parts (all_among cols cs) (all_among cs cols) parts.1 in
          let apart = whole_different cs cols s.alphabet.differ among.0 among.1 wide in
          let row : arms_of cols cs (drop (n * w) slots) ≡ arms_in arms = slots_row cols (n * w) arms s.slots among.1 apart (let z = s.whole in omega (arith, row_room)) in
          one_more cols shapes Switch s.order order s.slots slots same_order same_slots s.covered (switch (arms_in arms)) (some_column s)
          (ap (λ l. switch (arms_of cols l (drop (n * w) slots))) new_row ∙ ap switch row)

-- a row that is answered is that of the next number
row_found : (b : Bool) (place row : ℕ) → Ok place ≡ cond b (Ok row) (Err NoRoom) → (b ≡ true) × (place ≡ row)
row_found true place row e = (refl, cc)
row_found false place row e = let z : ◌≡◌ {A = ℕ} 0 1 = cc in absurd (omega arith)

-- a push, by the row that was answered to it and the shapes after it
module _ (s : Store) (place : ℕ) (row : Ok place ≡ cond (has_room (stored s)) (Ok (count_of s * length (columns_of s))) (Err NoRoom)) where
  found : (has_room (stored s) ≡ true) × (place ≡ count_of s * length (columns_of s))
  found = row_found (has_room (stored s)) place (count_of s * length (columns_of s)) row

  pub push_answered : space_answer 128 (items_of s.shapes) 1 ≡ Ok tt
  push_answered = grind (arith, room_parts s found.0)

  pub row_below : place + length (columns_of s) ≤ 1024
  row_below = omega (arith, found.1, row_room s found.0)

  pub arms_below : (arms : List (Arm ℕ)) → switch_fits (columns_of s) (codes_of arms) ≡ true → place + length arms ≤ 1024
  arms_below arms fits = omega (arith, found.1, arms_room s found.0 arms fits)

  abbrev Blocks : List Shape → List ℕ → List Slot → Kind ℕ → Bool → Type 0
  Blocks shapes order slots k b = record { letters = (stored s).letters; blocks = kinds_of (columns_of s) shapes order slots } ≡ cond b (with_block (stored s) k) (stored s)

  module _ (new : Slot) (shapes : List Shape) (more : shapes ≡ extended 128 (items_of s.shapes) (Single ∷ [])) where
    one : shapes ≡ items_of s.shapes ++ Single ∷ []
    one = more ∙ pushed s found.0 Single

    pub basic_kept : Keeps (columns_of s) shapes s.order (set s.slots place new)
    basic_kept = rw one (rw found.1 (basic_keeps s found.0 new))

    pub basic_built : Blocks shapes s.order (set s.slots place new) (basic (basic_of new)) (has_room (stored s))
    basic_built = rw one (rw found.1 (rw found.0 (ap (λ l. record { letters = (stored s).letters; blocks = l }) (basic_more s found.0 new))))

  module _ (arms : List (Arm ℕ)) (fits : switch_fits (columns_of s) (codes_of arms) ≡ true) (shapes : List Shape) (more : shapes ≡ extended 128 (items_of s.shapes) (Switch ∷ []))
      (order : List ℕ) (listed : order ≡ codes_put place (codes_of arms) s.order) (slots : List Slot) (whole : slots ≡ slots_put (columns_of s) place arms s.slots) where
    another : shapes ≡ items_of s.shapes ++ Switch ∷ []
    another = more ∙ pushed s found.0 Switch

    pub switch_kept : Keeps (columns_of s) shapes order slots
    switch_kept = rw another (rw listed (rw whole (rw found.1 (switch_keeps s found.0 arms fits))))

    pub switch_built : Blocks shapes order slots (switch (arms_in arms)) (takes_switch (stored s) (codes_of arms))
    switch_built = rw another (rw listed (rw whole (rw found.1 (rw found.0 (rw fits (ap (λ l. record { letters = (stored s).letters; blocks = l }) (switch_more s found.0 arms fits)))))))

-- what a push needs
pub ruleset pushing = (some_column, push_answered, row_below, arms_below, basic_built, switch_built)
