-- What notes mean, for a source.
use Rattle.std.specs.Prelude.{ℕ, not, List, ◌∷◌, map, Option}
use Rattle.bounded.specs.Held.{held}
use Rattle.bounded.specs.declared.inline.InlineList.{InlineList}
use Rattle.bounded.specs.Inline.{items_of}
use Rattle.words.specs.Bytes.{Text}
use Rattle.words.specs.Vocabulary.{ACCEPT, REJECT}
use Rattle.meaning.specs.declared.faults.Cause.TheVariants.{ModuleName, Goto}
use Rattle.meaning.specs.Faults.{Violation, named}
use Rattle.draft.specs.Draft.{Entry, Pending, names_of, met}
use Rattle.draft.specs.Building.{Owner, numbered, arm_of}
use Rattle.meaning.specs.Blocks.{Basic as Meant, Kind, basic, switch}
use Rattle.events.specs.Notes.{Notes as Meaning, flagged, with_arms}
use Rattle.program.specs.declared.blocks.Basic.{Basic}
use Rattle.program.specs.declared.blocks.Arm.{Arm}
use Rattle.program.specs.Store.{basic_as, arms_as}
use Rattle.notes.specs.declared.kinds.Span.{Span}
use Rattle.notes.specs.declared.notes.Row.{Row}
use Rattle.notes.specs.declared.notes.Row.TheVariants.{Single, Switch}
use Rattle.notes.specs.declared.notes.Notes.{Notes}
use Rattle.notes.specs.Kinds.{text_in, entries_of, pendings_of, current_of, violation_of}

-- a numbered block, whose gotos lead to a G
abbrev pub Block : Type 0 → Type 0
Block G = Row (Basic G) (InlineList (Arm G) 37)

-- what is written of blocks, where it is known what each goto leads to
module _ {G H : Type 0} (target : G → H) where
  -- of one
  abbrev pub kind_as : Block G → Kind H
  kind_as (Single b) = basic (basic_as target b)
  kind_as (Switch arms) = switch (arms_as target (items_of arms))

  -- of each
  abbrev pub kinds_as : List (Block G) → List (Kind H)
  kinds_as = map kind_as

-- what a numbered block is
abbrev pub kind_of : Text → Block Span → Kind Text
kind_of source = kind_as (text_in source)

-- blocks
abbrev pub kinds_of : Text → List (Block Span) → List (Kind Text)
kinds_of source = kinds_as (text_in source)

-- a block in which the owner that stands in it has its basic block
abbrev pub kind_filled : Owner → Meant Text → Kind Text → Kind Text
kind_filled (numbered q) b k = basic b
kind_filled (arm_of q cs) b k = with_arms cs b k

-- notes
unfoldable pub notes_of : Text → Notes → Meaning
notes_of source n = record {
  letters = items_of n.letters;
  width = n.width;
  names = entries_of source (held n.modules.now).before;
  gotos = pendings_of source (held n.gotos.now).before;
  count = n.count;
  blocks = kinds_of source (items_of n.rows);
  violation = violation_of n.violation;
  current = current_of n.current;
  name_room = (held n.modules.now).capacity;
  goto_room = (held n.gotos.now).capacity;
}

-- with a violation, if a module may not have this name
unfoldable pub name_told : Text → ℕ → Meaning → Meaning
name_told w p x = flagged (named w (ACCEPT ∷ REJECT ∷ names_of x.names)) p ModuleName x

-- the lowest violation, after one more if a goto's name is no module's
abbrev pub goto_told : List Entry → Pending → Option Violation → Option Violation
goto_told es g v = met (not (named g.name (names_of es))) g.index Goto v
