-- What a list in a value holds, and what each operation makes of that.
use Rattle.std.specs.Prelude.{ℕ, ◌+◌, cond, List, ◌++◌, length, take, Ok, Err, Result, nat_le}
use Rattle.bounded.specs.declared.inline.InlineList.{InlineList}
use Rattle.bounded.specs.declared.list.Full.{Full}

module _ {T : Type 0} where
  -- the items, in order
  abbrev pub items_of : {n : ℕ} → InlineList T n → List T
  items_of l = take l.count l.items

  -- what an operation answers that needs space for so many items more, where there may be n
  abbrev pub space_answer : ℕ → List T → ℕ → Result (Unit {0}) Full
  space_answer n xs more = cond (nat_le (length xs + more) n) (Ok tt) (Err (record {}))

  -- these items more at the end, if they have space where there may be n
  abbrev pub extended : ℕ → List T → List T → List T
  extended n xs more = cond (nat_le (length xs + length more) n) (xs ++ more) xs
