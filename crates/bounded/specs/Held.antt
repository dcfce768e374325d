-- What a bounded list holds, and what each operation makes of that.
use Rattle.std.specs.Prelude.{◌≡◌, ℕ, ◌+◌, ◌-◌, Bool, cond, List, [], ◌∷◌, ◌++◌, length, take, drop, Ok, Err, Option, Result, nat_le, slice_set}
use Rattle.std.specs.List.{slice_get}
use Rattle.bounded.specs.declared.list.BoundedList.{BoundedList}
use Rattle.bounded.specs.declared.list.Full.{Full}

-- the records before the cursor, those after it, and how many there may be in all
pub record Held (T : Type 0) : Type 0 where
  pub before : List T
  pub after : List T
  pub capacity : ℕ

module _ {T : Type 0} where
  -- what a list in memory holds
  abbrev pub held : BoundedList T → Held T
  held l = record { before = take l.front l.records.now; after = drop l.back l.records.now; capacity = length l.records.now }

  -- what a call makes of a list: it holds this, in the memory that it had
  pub record Becomes (before after : BoundedList T) (h : Held T) : Type 0 where
    pub held : held after ≡ h
    pub lent : after.records.ghost_name ≡ before.records.ghost_name

  -- nothing, with room for so many records
  abbrev pub emptied : ℕ → Held T
  emptied n = record { before = []; after = []; capacity = n }

  -- all records in their order
  abbrev pub all : Held T → List T
  all h = h.before ++ h.after

  -- how many records there are
  abbrev pub count : Held T → ℕ
  count h = length h.before + length h.after

  -- no record is free
  abbrev pub is_full : Held T → Bool
  is_full h = nat_le h.capacity (count h)

  -- the record right after the cursor, if there is one
  abbrev pub next_of : Held T → Option T
  next_of h = slice_get h.after 0

  -- the record right before the cursor, if there is one
  abbrev pub previous_of : Held T → Option T
  previous_of h = slice_get h.before (length h.before - 1)

  -- what an operation answers that needs a free record
  abbrev pub room_answer : Held T → Result (Unit {0}) Full
  room_answer h = cond (is_full h) (Err (record {})) (Ok tt)

  -- one more record right before the cursor; a full list stays as it is
  abbrev pub pushed : Held T → T → Held T
  pushed h x = cond (is_full h) h (record { before = h.before ++ (x ∷ []); after = h.after; capacity = h.capacity })

  -- one more record right after the cursor; a full list stays as it is
  abbrev pub inserted : Held T → T → Held T
  inserted h x = cond (is_full h) h (record { before = h.before; after = x ∷ h.after; capacity = h.capacity })

  -- without the record right after the cursor
  abbrev pub deleted : Held T → Held T
  deleted h = record { before = h.before; after = drop 1 h.after; capacity = h.capacity }

  -- with another record in the place of the one right after the cursor
  abbrev pub replaced : Held T → T → Held T
  replaced h x = record { before = h.before; after = slice_set h.after 0 x; capacity = h.capacity }

  -- the cursor one record on
  abbrev pub forwarded : Held T → Held T
  forwarded h = record { before = h.before ++ take 1 h.after; after = drop 1 h.after; capacity = h.capacity }

  -- the cursor one record back
  abbrev pub backed : Held T → Held T
  backed h = record { before = take (length h.before - 1) h.before; after = drop (length h.before - 1) h.before ++ h.after; capacity = h.capacity }
