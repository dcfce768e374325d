-- What a machine answers at a number and a symbol, and what holds of every machine.
use Rattle.std.specs.Prelude.{◌≡◌, ℕ, ◌<◌, true, cond, ◌&&◌, Some, None, Option, nat_lt}
use Rattle.meaning.specs.declared.machines.Action.{Action}
use Rattle.meaning.specs.Codes.{member}
use Rattle.meaning.specs.Rules.{Rules}
use Rattle.meaning.specs.Tables.{NextWithin}
use Rattle.meaning.specs.Laws.{WritesCodes}

-- the action at the number q and the symbol c, where the machine has that number and knows that symbol
abbrev pub action_at : Rules → ℕ → ℕ → Option Action
action_at R q c = cond (nat_lt q R.numbers && member c R.symbols) (Some (R.action q c)) None

-- a next number is one of the machine's
abbrev pub LeadsWithin : Rules → Type 0
LeadsWithin R = (q c : ℕ) → nat_lt q R.numbers ≡ true → member c R.symbols ≡ true → NextWithin R.numbers (R.action q c).next

-- what every machine keeps: it has a number to begin with, writes symbol codes, and leads to its own numbers
pub record Sound (R : Rules) : Type 0 where
  pub begins : 0 < R.numbers
  pub writes : WritesCodes R
  pub leads : LeadsWithin R
