-- What the parts of a stored program mean, and their ranges.
use Rattle.std.specs.Prelude.{◌≡◌, ℕ, ◌*◌, ◌<◌, Bool, true, ◌&&◌, List, [], ◌∷◌, map, length, take, drop, Some, None, Option, nat_lt, slice_index_or}
use Rattle.std.specs.List.{range_with_len, list_all}
use Rattle.meaning.specs.Codes.{member, position}
use Rattle.meaning.specs.Blocks.{Then, again, accepting, rejecting, jump, next, end, Basic, Kind, basic, switch}
use Rattle.program.specs.declared.blocks.Then.{Then as StoredThen}
use Rattle.program.specs.declared.blocks.Then.TheVariants.{Again, Accept, Reject, Goto, Next, End}
use Rattle.program.specs.declared.blocks.Basic.{Basic as StoredBasic}
use Rattle.program.specs.declared.blocks.Arm.{Arm as StoredArm}
use Rattle.program.specs.declared.blocks.Shape.{Shape}
use Rattle.program.specs.declared.blocks.Shape.TheVariants.{Single, Switch}

-- what is written of blocks, where it is known what each goto leads to
module _ {G H : Type 0} (target : G → H) where
  -- what comes after a basic block
  abbrev pub then_as : StoredThen G → Then H
  then_as Again = again
  then_as Accept = accepting
  then_as Reject = rejecting
  then_as (Goto g) = jump (target g)
  then_as (Next r) = next r
  then_as End = end

  -- a basic block
  abbrev pub basic_as : StoredBasic G → Basic H
  basic_as s = record { write = s.write; move = s.movement; then = then_as s.then }

  -- arms of a switch
  abbrev pub arms_as : List (StoredArm G) → List (ℕ × Basic H)
  arms_as [] = []
  arms_as (a ∷ arms) = (a.code, basic_as a.basic) ∷ arms_as arms

-- a slot: a basic block whose gotos are numbers
abbrev pub Slot : Type 0
Slot = StoredBasic ℕ

-- what comes after such a one
abbrev pub then_of : StoredThen ℕ → Then ℕ
then_of = then_as (λ q. q)

-- the basic block of a slot
abbrev pub basic_of : Slot → Basic ℕ
basic_of = basic_as (λ q. q)

-- a slot that no block uses
abbrev pub unused : Slot
unused = record { write = None; movement = None; then = End }

-- the arms of a switch with these symbols, in order of writing: each leads to the slot of its column
abbrev pub arms_of : List ℕ → List ℕ → List Slot → List (ℕ × Basic ℕ)
arms_of cols [] row = []
arms_of cols (c ∷ cs) row = (c, basic_of (slice_index_or row (position c cols) unused)) ∷ arms_of cols cs row

-- a block with these symbols and slots
abbrev pub kind_of : List ℕ → Shape → List ℕ → List Slot → Kind ℕ
kind_of cols Single symbols row = basic (basic_of (slice_index_or row 0 unused))
kind_of cols Switch symbols row = switch (arms_of cols symbols row)

-- the symbols of the block q, in order of writing
abbrev pub row_symbols : List ℕ → List ℕ → ℕ → List ℕ
row_symbols cols order q = take (length cols) (drop (q * length cols) order)

-- the block with the number q, whose row has a slot for each column
abbrev pub kind_in : List ℕ → List Shape → List ℕ → List Slot → ℕ → Kind ℕ
kind_in cols shapes order slots q = kind_of cols (slice_index_or shapes q Single) (row_symbols cols order q) (drop (q * length cols) slots)

-- the blocks
abbrev pub kinds_of : List ℕ → List Shape → List ℕ → List Slot → List (Kind ℕ)
kinds_of cols shapes order slots = map (kind_in cols shapes order slots) (range_with_len 0 (length shapes))

-- each of these is among those
abbrev pub all_among : List ℕ → List ℕ → Bool
all_among these those = list_all (λ c. member c those) these

-- a switch has each column among its symbols, and no other
abbrev pub covers : List ℕ → Shape → List ℕ → Bool
covers cols Single symbols = true
covers cols Switch symbols = all_among cols symbols && all_among symbols cols

-- so do all blocks
abbrev pub AllCover : List ℕ → List Shape → List ℕ → Type 0
AllCover cols shapes order = (q : ℕ) → q < length shapes → covers cols (slice_index_or shapes q Single) (row_symbols cols order q) ≡ true

-- which slot of its row a block gives at a column
abbrev pub place_in : Shape → ℕ → ℕ
place_in Single column = 0
place_in Switch column = column

-- what is written, if anything, is one of these symbols
abbrev pub write_fits : List ℕ → Option ℕ → Bool
write_fits cols None = true
write_fits cols (Some c) = member c cols

-- what comes after is one of n numbers, or none
abbrev pub then_fits : ℕ → Then ℕ → Bool
then_fits n again = true
then_fits n accepting = true
then_fits n rejecting = true
then_fits n (jump r) = nat_lt r n
then_fits n (next r) = nat_lt r n
then_fits n end = true

-- a basic block writes one of these symbols and leads to one of n numbers
abbrev pub basic_fits : List ℕ → ℕ → Basic ℕ → Bool
basic_fits cols n b = write_fits cols b.write && then_fits n b.then

-- so do the basic blocks of these slots
abbrev pub all_fit : List ℕ → ℕ → List Slot → Bool
all_fit cols n slots = list_all (λ s. basic_fits cols n (basic_of s)) slots
