-- What holds of every accepted source.
use Rattle.std.specs.Prelude.{◌≡◌, List, [], Ok}
use Rattle.tape.specs.Meaning.{Valid}
use Rattle.words.specs.Bytes.{Text}
use Rattle.grammar.specs.Tree.{Program}
use Rattle.meaning.specs.declared.calls.Call.{Call}
use Rattle.meaning.specs.Blocks.{compiled}
use Rattle.meaning.specs.Rules.{by_blocks, by_table, translation}
use Rattle.meaning.specs.Runs.{Config, play}
use Rattle.meaning.specs.Tables.{Within}
use Rattle.meaning.specs.Text.{Rounds}
use Rattle.meaning.specs.Outcome.{outcome}
use Rattle.meaning.specs.Faults.{faults}

-- what holds of an accepted program
pub record Sound (t : Program) : Type 0 where
  -- it breaks no rule
  pub clean : faults t ≡ []
  -- for every list of calls, its blocks and its table give equal answers and equal configurations
  pub agrees : (cs : List Call) (k : Config) → play (by_blocks (compiled t)) cs k ≡ play (by_table (translation (compiled t))) cs k
  -- and each of them keeps the ranges of a tape
  pub keeps_blocks : (cs : List Call) (k : Config) → Valid k.tape → Valid (play (by_blocks (compiled t)) cs k).1.tape
  pub keeps_table : (cs : List Call) (k : Config) → Valid k.tape → Valid (play (by_table (translation (compiled t))) cs k).1.tape
  -- its table is within the ranges, and its text is accepted and translates back to it
  pub within : Within (translation (compiled t))
  pub rounds : Rounds (translation (compiled t))

-- of every accepted source
abbrev pub AcceptedSources : Type 0
AcceptedSources = (source : Text) (t : Program) → outcome source ≡ Ok t → Sound t
