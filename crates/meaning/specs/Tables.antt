-- The ranges of tables; a new table, and one entry replaced. `None` is refused.
use Rattle.std.specs.Prelude.{◌≡◌, ℕ, ◌<◌, ◌≤◌, Bool, true, false, cond, not, ◌&&◌, List, [], ◌∷◌, map, length, replicate, Some, None, Option, ◌==◌, nat_le, nat_lt, slice_index_or, slice_set}
use Rattle.tape.specs.Meaning.{all_codes}
use Rattle.meaning.specs.declared.machines.Next.{Next}
use Rattle.meaning.specs.declared.machines.Next.TheVariants.{To, Accept, Reject}
use Rattle.meaning.specs.declared.machines.Entry.{Entry}
use Rattle.meaning.specs.Codes.{member, different, position, columns}
use Rattle.meaning.specs.Rules.{Table, fresh, entry}
use Rattle.meaning.specs.Faults.{too_many}

-- P holds of each
abbrev pub Each : {A : Type 0} → (A → Type 0) → List A → Type 0
Each P [] = Unit {0}
Each P (x ∷ xs) = P x × Each P xs

-- a next state is one of n
abbrev pub NextWithin : ℕ → Next → Type 0
NextWithin n (To r) = r < n
NextWithin n Accept = Unit {0}
NextWithin n Reject = Unit {0}

-- an entry writes a symbol of the columns and leads to one of n states
pub record EntryWithin (cols : List ℕ) (n : ℕ) (e : Entry) : Type 0 where
  pub writes : member e.write cols ≡ true
  pub leads : NextWithin n e.next

-- a row has an entry for each column
pub record RowWithin (cols : List ℕ) (n : ℕ) (es : List Entry) : Type 0 where
  pub wide : length es ≡ length cols
  pub each : Each (EntryWithin cols n) es

-- the ranges that every table keeps
pub record Within (t : Table) : Type 0 where
  pub lettered : 1 ≤ length t.letters
  pub most : length t.letters ≤ 36
  pub codes : Each (λ c. c ≤ 36) t.letters
  pub differ : different (columns t.letters) ≡ true
  pub stated : 1 ≤ length t.rows
  pub few : too_many (length t.rows) (length (columns t.letters)) ≡ false
  pub rows : Each (RowWithin (columns t.letters) (length t.rows)) t.rows

-- a new table can have these: letters that differ from one another and from blank, and at least one of them; at least one state; within the limits
abbrev pub new_fits : List ℕ → ℕ → Bool
new_fits letters n = nat_le 1 (length letters) && all_codes letters && different (columns letters) && nat_le 1 n && not (too_many n (length (columns letters)))

-- a table with n states whose entries are all fresh
abbrev pub fresh_table : List ℕ → ℕ → Table
fresh_table letters n = record { letters = letters; rows = replicate n (map fresh (columns letters)) }

-- new
abbrev pub new_table : List ℕ → ℕ → Option Table
new_table letters n = cond (new_fits letters n) (Some (fresh_table letters n)) None

-- a next state is one of n
abbrev pub next_fits : ℕ → Next → Bool
next_fits n (To r) = nat_lt r n
next_fits n Accept = true
next_fits n Reject = true

-- an entry can be replaced: its state and a next state are the table's, its symbol and the symbol written are columns
abbrev pub set_fits : Table → ℕ → ℕ → Entry → Bool
set_fits t q c e = nat_lt q (length t.rows) && member c (columns t.letters) && member e.write (columns t.letters) && next_fits (length t.rows) e.next

-- the table with another entry for the state q and the symbol c
abbrev pub with_entry : Table → ℕ → ℕ → Entry → Table
with_entry t q c e = record { letters = t.letters; rows = slice_set t.rows q (slice_set (slice_index_or t.rows q []) (position c (columns t.letters)) e) }

-- set
abbrev pub set_table : Table → ℕ → ℕ → Entry → Option Table
set_table t q c e = cond (set_fits t q c e) (Some (with_entry t q c e)) None

-- what holds of new and set
pub record NewAndSet : Type 0 where
  -- what is made is within the ranges, and stays so
  pub new_within : (letters : List ℕ) (n : ℕ) (t : Table) → new_table letters n ≡ Some t → Within t
  pub set_within : (t : Table) (q c : ℕ) (e : Entry) (u : Table) → Within t → set_table t q c e ≡ Some u → Within u
  -- a set replaces one entry, and no other
  pub replaces : (t : Table) (q c : ℕ) (e : Entry) → Within t → set_fits t q c e ≡ true → (r d : ℕ) → nat_lt r (length t.rows) ≡ true → member d (columns t.letters) ≡ true
      → entry (with_entry t q c e) r d ≡ cond (r == q && d == c) e (entry t r d)
