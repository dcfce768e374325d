-- What a machine does at a number and a symbol: by a program's blocks, and by a table.
use Rattle.std.specs.Prelude.{ℕ, suc, cond, List, [], ◌∷◌, map, length, Some, None, Option, ◌==◌, slice_index_or}
use Rattle.tape.specs.declared.kinds.Direction.{Direction}
use Rattle.tape.specs.declared.kinds.Direction.TheVariants.{Left}
use Rattle.meaning.specs.declared.machines.Next.{Next}
use Rattle.meaning.specs.declared.machines.Next.TheVariants.{To, Accept, Reject}
use Rattle.meaning.specs.declared.machines.Action.{Action}
use Rattle.meaning.specs.declared.machines.Entry.{Entry}
use Rattle.meaning.specs.Codes.{columns, position}
use Rattle.meaning.specs.Blocks.{Then, again, accepting, rejecting, jump, next, end, Basic, Kind, basic, switch, Compiled}

-- a machine: how many numbers it has, the symbols that it knows, and the action at a number and a symbol
pub record Rules : Type 0 where
  pub numbers : ℕ
  pub symbols : List ℕ
  pub action : ℕ → ℕ → Action

-- what comes after a basic block of the block q: at the end of a body, reject
abbrev pub next_of : ℕ → Then ℕ → Next
next_of q again = To q
next_of q accepting = Accept
next_of q rejecting = Reject
next_of q (jump r) = To r
next_of q (next r) = To r
next_of q end = Reject

-- left where no move is written
abbrev pub or_left : Option Direction → Direction
or_left None = Left
or_left (Some d) = d

-- the action of a basic block of the block q
abbrev pub basic_action : ℕ → Basic ℕ → Action
basic_action q b = record { write = b.write; direction = or_left b.move; next = next_of q b.then }

-- a basic block with no command
abbrev pub nothing : Basic ℕ
nothing = record { write = None; move = None; then = end }

-- the first basic block of the case that holds c
abbrev pub arm : List (ℕ × Basic ℕ) → ℕ → Basic ℕ
arm [] c = nothing
arm (a ∷ others) c = cond (c == a.0) a.1 (arm others c)

-- the basic block that a block gives at c
abbrev pub current : Kind ℕ → ℕ → Basic ℕ
current (basic b) c = b
current (switch arms) c = arm arms c

-- the block with the number q
abbrev pub kind_at : List (Kind ℕ) → ℕ → Kind ℕ
kind_at ks q = slice_index_or ks q (basic nothing)

-- a program as a machine
abbrev pub by_blocks : Compiled → Rules
by_blocks p = record {
  numbers = length p.blocks;
  symbols = columns p.letters;
  action = λ q c. basic_action q (current (kind_at p.blocks q) c);
}

-- a table: the codes of its alphabet, and a row for each state, in it an entry for each column
pub record Table : Type 0 where
  pub letters : List ℕ
  pub rows : List (List Entry)

-- an entry that rewrites its symbol, moves left and rejects
abbrev pub fresh : ℕ → Entry
fresh c = record { write = c; direction = Left; next = Reject }

-- the entry of a table for the state q and the symbol c
abbrev pub entry : Table → ℕ → ℕ → Entry
entry t q c = slice_index_or (slice_index_or t.rows q []) (position c (columns t.letters)) (fresh c)

-- the action of an entry
abbrev pub entry_action : Entry → Action
entry_action e = record { write = Some e.write; direction = e.direction; next = e.next }

-- a table as a machine
abbrev pub by_table : Table → Rules
by_table t = record { numbers = length t.rows; symbols = columns t.letters; action = λ q c. entry_action (entry t q c) }

-- c where nothing is written
abbrev pub or_this : ℕ → Option ℕ → ℕ
or_this c None = c
or_this c (Some w) = w

-- the entry that does the same at the symbol c
abbrev pub action_entry : ℕ → Action → Entry
action_entry c d = record { write = or_this c d.write; direction = d.direction; next = d.next }

-- the row of the block q
abbrev pub block_row : List ℕ → ℕ → Kind ℕ → List Entry
block_row cols q k = map (λ c. action_entry c (basic_action q (current k c))) cols

-- the rows of blocks that have the numbers from q on
abbrev pub block_rows : List ℕ → ℕ → List (Kind ℕ) → List (List Entry)
block_rows cols q [] = []
block_rows cols q (k ∷ ks) = block_row cols q k ∷ block_rows cols (suc q) ks

-- the table of a program
abbrev pub translation : Compiled → Table
translation p = record { letters = p.letters; rows = block_rows (columns p.letters) 0 p.blocks }
