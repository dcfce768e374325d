-- The arrays after the arms of a switch are written.
use Rattle.std.proofs.Common.{◌≡◌, ℕ, ◌+◌, ◌<◌, ◌≤◌, true, false, not, List, [], ◌∷◌, length, get_or, take, drop, set, Some, None, Option, refl, ap, ◌∙◌, arith}
use Rattle.std.proofs.lemmas.List.{length-set, get_or-set_same, get_or-set_other, get_or-take, get_or-drop, take-set-le, drop_more}
use Rattle.std.proofs.lemmas.Bool.{and_parts, not-true, false≢true}
use Rattle.meaning.specs.Codes.{member, different, position}
use Rattle.meaning.proofs.Tables.{position_below}
use Rattle.alphabet.specs.Columns.{column_at}
use Rattle.program.specs.declared.blocks.Arm.{Arm}
use Rattle.program.specs.Store.{Slot, basic_of, unused, arms_of, all_among}
use Rattle.program.specs.Arms.{codes_of, arms_in, codes_put, slot_put, slots_put}

-- codes
pub codes_length : (base : ℕ) (cs order : List ℕ) → length (codes_put base cs order) ≡ length order
codes_length base [] order = refl
codes_length base (c ∷ cs) order = grind (arith, codes_length (base + 1) cs (set order base c), length-set order base c)

pub codes_before : (m base : ℕ) (cs order : List ℕ) → m ≤ base → take m (codes_put base cs order) ≡ take m order
codes_before m base [] order h = refl
codes_before m base (c ∷ cs) order h = codes_before m (base + 1) cs (set order base c) (omega arith) ∙ take-set-le m order base c h

pub codes_row : (base : ℕ) (cs order : List ℕ) → base + length cs ≤ length order → take (length cs) (drop base (codes_put base cs order)) ≡ cs
codes_row base [] order h = refl
codes_row base (c ∷ cs) order h =
    let one = set order base c in
    let all = codes_put (base + 1) cs one in
    let here : get_or all base 0 ≡ c = grind (arith, get_or-take (base + 1) all base 0, codes_before (base + 1) (base + 1) cs one, get_or-take (base + 1) one base 0, get_or-set_same order base c 0) in
    grind (arith, codes_length (base + 1) cs one, length-set order base c, codes_row (base + 1) cs one, drop_more all base 0)

-- slots
slot_length : (base : ℕ) (o : Option ℕ) (b : Slot) (slots : List Slot) → length (slot_put base o b slots) ≡ length slots
slot_length base None b slots = refl
slot_length base (Some k) b slots = length-set slots (base + k) b

slot_before : (base : ℕ) (o : Option ℕ) (b : Slot) (slots : List Slot) (i : ℕ) → i < base → get_or (slot_put base o b slots) i unused ≡ get_or slots i unused
slot_before base None b slots i h = refl
slot_before base (Some k) b slots i h = get_or-set_other slots (base + k) i b unused (λ e. omega arith)

-- the symbol at a column's position
at_position : (c : ℕ) (cols : List ℕ) → member c cols ≡ true → get_or cols (position c cols) 0 ≡ c
at_position c [] m = absurd (false≢true m)
at_position c (x ∷ xs) m = grind (arith, at_position c xs)

module _ (cols : List ℕ) (base : ℕ) where
  pub slots_length : (arms : List (Arm ℕ)) (slots : List Slot) → length (slots_put cols base arms slots) ≡ length slots
  slots_length [] slots = refl
  slots_length (a ∷ arms) slots = slots_length arms _ ∙ slot_length base (column_at cols a.code) a.basic slots

  pub slots_before : (arms : List (Arm ℕ)) (slots : List Slot) (i : ℕ) → i < base → get_or (slots_put cols base arms slots) i unused ≡ get_or slots i unused
  slots_before [] slots i h = refl
  slots_before (a ∷ arms) slots i h = slots_before arms _ i h ∙ slot_before base (column_at cols a.code) a.basic slots i h

  slot_after : (c : ℕ) (b : Slot) (slots : List Slot) (i : ℕ) → base + length cols ≤ i → get_or (slot_put base (column_at cols c) b slots) i unused ≡ get_or slots i unused
  slot_after c b slots i h = grind (arith, position_below c cols, get_or-set_other {A = Slot})

  pub slots_after : (arms : List (Arm ℕ)) (slots : List Slot) (i : ℕ) → base + length cols ≤ i → get_or (slots_put cols base arms slots) i unused ≡ get_or slots i unused
  slots_after [] slots i h = refl
  slots_after (a ∷ arms) slots i h = slots_after arms _ i h ∙ slot_after a.code a.basic slots i h

  -- another symbol's slot stays
  slot_other : (c d : ℕ) (b : Slot) (slots : List Slot) → member c cols ≡ true → (c ≡ d → ⊥) → get_or (slot_put base (column_at cols d) b slots) (base + position c cols) unused ≡ get_or slots (base + position c cols) unused
  slot_other c d b slots m n = grind (arith, at_position c cols, at_position d cols, get_or-set_other {A = Slot})

  slots_other : (c : ℕ) (arms : List (Arm ℕ)) (slots : List Slot) → member c cols ≡ true → member c (codes_of arms) ≡ false → get_or (slots_put cols base arms slots) (base + position c cols) unused ≡ get_or slots (base + position c cols) unused
  slots_other c [] slots m n = refl
  slots_other c (a ∷ arms) slots m n = grind (arith, slots_other c arms (slot_put base (column_at cols a.code) a.basic slots) m, slot_other c a.code a.basic slots m)

  -- the slot of a symbol that is written
  slot_here : (c : ℕ) (b : Slot) (slots : List Slot) → member c cols ≡ true → base + length cols ≤ length slots → get_or (slot_put base (column_at cols c) b slots) (base + position c cols) unused ≡ b
  slot_here c b slots m l = grind (arith, position_below c cols m, get_or-set_same {A = Slot})

  -- the row has the arms
  pub slots_row : (arms : List (Arm ℕ)) (slots : List Slot) → all_among (codes_of arms) cols ≡ true → different (codes_of arms) ≡ true → base + length cols ≤ length slots
      → arms_of cols (codes_of arms) (drop base (slots_put cols base arms slots)) ≡ arms_in arms
  slots_row [] slots k d l = refl
  slots_row (a ∷ arms) slots k d l =
      let one = slot_put base (column_at cols a.code) a.basic slots in
      let all = slots_put cols base arms one in
      let p = and_parts (member a.code cols) (all_among (codes_of arms) cols) k in
      let q = and_parts (not (member a.code (codes_of arms))) (different (codes_of arms)) d in
      let long : base + length cols ≤ length one = omega (arith, slot_length base (column_at cols a.code) a.basic slots) in
      let here : get_or (drop base all) (position a.code cols) unused ≡ a.basic =
      get_or-drop base all (position a.code cols) unused ∙ slots_other a.code arms one p.0 (not-true (member a.code (codes_of arms)) q.0) ∙ slot_here a.code a.basic slots p.0 l in
      ap (λ b. (a.code, basic_of b) ∷ arms_of cols (codes_of arms) (drop base all)) here ∙ ap (λ r. (a.code, basic_of a.basic) ∷ r) (slots_row arms one p.1 q.1 long)
