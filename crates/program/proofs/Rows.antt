-- Rows and slots.
use Rattle.std.proofs.Common.{◌≡◌, ℕ, ◌+◌, ◌*◌, ◌<◌, ◌≤◌, true, List, [], ◌∷◌, length, get_or, drop, refl, ap, ◌∙◌, add-one, suc-mul, arith}
use Rattle.std.proofs.lemmas.Nat.{mul-le}
use Rattle.std.proofs.lemmas.List.FromFn.{get_or-map-range_with_len, length-map-range_with_len}
use Rattle.std.proofs.lemmas.List.{get_or-drop}
use Rattle.std.proofs.lemmas.Bool.{and_parts, false≢true}
use Rattle.bounded.specs.Inline.{items_of}
use Rattle.meaning.specs.Codes.{member, position}
use Rattle.meaning.specs.Blocks.{basic}
use Rattle.meaning.specs.Rules.{nothing, arm, current, kind_at}
use Rattle.alphabet.specs.Alphabets.{letters_of}
use Rattle.alphabet.proofs.Places.{width_is}
use Rattle.program.specs.declared.store.Store.{Store}
use Rattle.program.specs.declared.blocks.Shape.{Shape}
use Rattle.program.specs.declared.blocks.Shape.TheVariants.{Single, Switch}
use Rattle.program.specs.Store.{Slot, basic_of, unused, arms_of, kind_of, row_symbols, kind_in, kinds_of, all_among, covers, AllCover, place_in}
use Rattle.program.specs.Place.{columns_of, count_of, stored}

-- a slot of a row
pub place_most : (s : Shape) (column : ℕ) → place_in s column ≤ column
place_most Single column = omega arith
place_most Switch column = omega arith

-- the rows of the numbers before q end where that of q begins
pub row_end : (q n w : ℕ) → q < n → q * w + w ≤ n * w
row_end q n w h = let z : (q + 1) * w ≡ q * w + w = rw add-one (suc-mul q w) in omega (arith, mul-le (q + 1) w n w (omega arith) (omega arith))

-- how many blocks a store has
pub counted : (s : Store) → length (stored s).blocks ≡ count_of s
counted s = length-map-range_with_len (kind_in (columns_of s) (items_of s.shapes) s.order s.slots) 0 (count_of s)

-- and that it has a column
pub some_column : (s : Store) → 0 < length (columns_of s)
some_column s = omega (arith, width_is (letters_of s.alphabet))

-- the arm of a symbol that a switch has
arm_at : (cols symbols : List ℕ) (row : List Slot) (c : ℕ) → member c symbols ≡ true → arm (arms_of cols symbols row) c ≡ basic_of (get_or row (position c cols) unused)
arm_at cols [] row c m = absurd (false≢true m)
arm_at cols (d ∷ symbols) row c m = grind (arith, arm_at cols symbols row c)

pub among_member : (cs those : List ℕ) (c : ℕ) → all_among cs those ≡ true → member c cs ≡ true → member c those ≡ true
among_member [] those c a m = absurd (false≢true m)
among_member (d ∷ cs) those c a m = grind (arith, among_member cs those c)

-- the basic block that a block gives at a column
current_of : (cols : List ℕ) (s : Shape) (symbols : List ℕ) (row : List Slot) (c : ℕ) → member c cols ≡ true → covers cols s symbols ≡ true
    → current (kind_of cols s symbols row) c ≡ basic_of (get_or row (place_in s (position c cols)) unused)
current_of cols Single symbols row c m h = refl
current_of cols Switch symbols row c m h = arm_at cols symbols row c (among_member cols symbols c (and_parts (all_among cols symbols) (all_among symbols cols) h).0 m)

pub current_at : (cols : List ℕ) (shapes : List Shape) (order : List ℕ) (slots : List Slot) (q c : ℕ) → q < length shapes → AllCover cols shapes order → member c cols ≡ true
    → current (kind_at (kinds_of cols shapes order slots) q) c ≡ basic_of (get_or slots (q * length cols + place_in (get_or shapes q Single) (position c cols)) unused)
current_at cols shapes order slots q c h covered m =
    let s = get_or shapes q Single in
    ap (λ k. current k c) (get_or-map-range_with_len (kind_in cols shapes order slots) 0 (length shapes) q q (basic nothing) h (omega arith))
    ∙ current_of cols s (row_symbols cols order q) (drop (q * length cols) slots) c m (covered q h)
    ∙ ap basic_of (get_or-drop (q * length cols) slots (place_in s (position c cols)) unused)
