-- What a builder makes of the blocks of notes.
use Rattle.std.specs.Prelude.{ℕ, List}
use Rattle.words.specs.Bytes.{Text}
use Rattle.meaning.specs.Blocks.{Kind, settled_kind}
use Rattle.draft.specs.Draft.{first_number}
use Rattle.events.specs.Notes.{settled_kinds}
use Rattle.notes.specs.declared.kinds.Span.{Span}
use Rattle.notes.specs.declared.kinds.Module.{Module}
use Rattle.notes.specs.Kinds.{entries_of}
use Rattle.notes.specs.Noted.{Block, kind_of, kinds_of}

-- the number of the module with a name, among these
abbrev pub number_among : Text → List Module → Text → ℕ
number_among source ms = first_number (entries_of source ms)

-- a block of which each goto leads to one of these modules
abbrev pub kind_settled : Text → List Module → Block Span → Kind ℕ
kind_settled source ms b = settled_kind (number_among source ms) (kind_of source b)

-- such blocks
abbrev pub kinds_settled : Text → List Module → List (Block Span) → List (Kind ℕ)
kinds_settled source ms bs = settled_kinds (number_among source ms) (kinds_of source bs)
