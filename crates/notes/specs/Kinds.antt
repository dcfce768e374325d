-- What the parts of notes mean.
use Rattle.std.specs.Prelude.{ℕ, Bool, false, List, map, take, drop, Some, None, Option, nat_lt, option_map}
use Rattle.bounded.specs.declared.inline.InlineList.{InlineList}
use Rattle.bounded.specs.Inline.{items_of}
use Rattle.words.specs.Bytes.{Text}
use Rattle.meaning.specs.declared.faults.Fault.{Fault}
use Rattle.meaning.specs.Blocks as meant
use Rattle.meaning.specs.Faults.{Violation}
use Rattle.meaning.specs.FaultOrder.{violation_at}
use Rattle.draft.specs.Draft.{Entry, Pending}
use Rattle.draft.specs.Building as built
use Rattle.program.specs.declared.blocks.Then.{Then}
use Rattle.program.specs.Store.{then_as}
use Rattle.notes.specs.declared.kinds.Span.{Span}
use Rattle.notes.specs.declared.kinds.Module.{Module}
use Rattle.notes.specs.declared.kinds.Owner.{Owner}
use Rattle.notes.specs.declared.kinds.Owner.TheVariants.{Numbered, Arms}
use Rattle.notes.specs.declared.kinds.Current.{Current}

-- the text of a stretch
abbrev pub text_in : Text → Span → Text
text_in source s = take s.length (drop s.start source)

-- a module
abbrev pub entry_of : Text → Module → Entry
entry_of source m = record { name = text_in source m.name; first = m.first }

-- modules
abbrev pub entries_of : Text → List Module → List Entry
entries_of source = map (entry_of source)

-- a goto
abbrev pub pending_of : Text → Span → Pending
pending_of source s = record { name = text_in source s; index = s.start }

-- gotos
abbrev pub pendings_of : Text → List Span → List Pending
pendings_of source = map (pending_of source)

-- what comes after a basic block
abbrev pub then_of : Text → Then Span → meant.Then Text
then_of source = then_as (text_in source)

-- the symbols of a case
abbrev pub codes_of : InlineList ℕ 37 → List ℕ
codes_of c = items_of c

-- whose basic block is under construction
abbrev pub owner_of : Owner → built.Owner
owner_of (Numbered q) = built.numbered q
owner_of (Arms q c) = built.arm_of q (codes_of c)

-- the number of the block that it stands in
abbrev pub number_of : built.Owner → ℕ
number_of (built.numbered q) = q
number_of (built.arm_of q cs) = q

-- the basic block under construction
abbrev pub current_of : Current → built.Current
current_of c = record { owner = owner_of c.owner; write = c.write; move = c.movement }

-- a violation, if there is a fault
abbrev pub violation_of : Option Fault → Option Violation
violation_of = option_map violation_at

-- there is a violation before this place
abbrev pub known_before : ℕ → Option Violation → Bool
known_before p None = false
known_before p (Some v) = nat_lt v.index p
