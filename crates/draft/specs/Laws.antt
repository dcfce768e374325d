-- A draft tells of its program what the tree tells.
use Rattle.std.specs.Prelude.{◌≡◌, ℕ, Bool, None}
use Rattle.words.specs.Bytes.{Text}
use Rattle.grammar.specs.Tree.{Program}
use Rattle.meaning.specs.declared.faults.Cause.{Cause}
use Rattle.meaning.specs.Blocks.{Kind, Basic, alphabet, blocks, compiled}
use Rattle.meaning.specs.Faults.{first_fault}
use Rattle.draft.specs.Draft.{Letters, Draft, trimmed, begun, name_noted, goto_noted, flagged}
use Rattle.draft.specs.Building.{Owner, basic_noted}
use Rattle.draft.specs.Noted.{draft_of, letters_of, told, settled_blocks, finished}

-- the violation told is the program's first
abbrev pub TellsFirst : Type 0
TellsFirst = (t : Program) → told (draft_of t) ≡ first_fault t

-- the letters of a program without violations are those of its alphabet
abbrev pub KeepsLetters : Type 0
KeepsLetters = (t : Program) → first_fault t ≡ None → (letters_of t).letters ≡ alphabet t

-- the blocks of a program without violations are the program's
abbrev pub KeepsBlocks : Type 0
KeepsBlocks = (t : Program) → first_fault t ≡ None → settled_blocks (draft_of t) ≡ blocks t

-- so a finished draft without violations stands for the program as it is stored
abbrev pub Finishes : Type 0
Finishes = (t : Program) → first_fault t ≡ None → finished (letters_of t) (draft_of t) ≡ compiled t

-- blocks may be dropped once a violation is known: whatever is noted next, and what is told in the end, stays the same
pub record Trims : Type 0 where
  pub begins : (a : Letters) (i : ℕ) (k : Kind Text) (x : Draft) → trimmed (begun a i k (trimmed x)) ≡ trimmed (begun a i k x)
  pub fills : (o : Owner) (b : Basic Text) (x : Draft) → trimmed (basic_noted o b (trimmed x)) ≡ trimmed (basic_noted o b x)
  pub names : (w : Text) (i : ℕ) (x : Draft) → trimmed (name_noted w i (trimmed x)) ≡ trimmed (name_noted w i x)
  pub gotos : (w : Text) (i : ℕ) (x : Draft) → trimmed (goto_noted w i (trimmed x)) ≡ trimmed (goto_noted w i x)
  pub flags : (b : Bool) (i : ℕ) (n : Cause) (x : Draft) → trimmed (flagged b i n (trimmed x)) ≡ trimmed (flagged b i n x)
  pub tells : (x : Draft) → told (trimmed x) ≡ told x
