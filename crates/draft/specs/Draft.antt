-- A draft: what a compiler keeps on its one way through the words of a program, and what a word or a mark adds to it.
use Rattle.std.specs.Prelude.{ℕ, suc, Bool, true, false, cond, not, ◌&&◌, ◌||◌, List, [], ◌∷◌, ◌++◌, Some, None, Option, ◌==◌}
use Rattle.words.specs.Bytes.{Text}
use Rattle.words.specs.Vocabulary.{Symbol, ACCEPT, REJECT, same}
use Rattle.meaning.specs.declared.faults.Cause.{Cause}
use Rattle.meaning.specs.declared.faults.Cause.TheVariants.{Alphabet, ModuleName, Goto, Letter, Repeated, Missing, Limit}
use Rattle.meaning.specs.Codes.{code, member, columns}
use Rattle.meaning.specs.Blocks.{Kind, Block}
use Rattle.meaning.specs.Faults.{Violation, lower, named, too_many}

-- a module's name, and the number of its first block
pub record Entry : Type 0 where
  pub name : Text
  pub first : ℕ

-- a goto's name, and the index of that word
pub record Pending : Type 0 where
  pub name : Text
  pub index : ℕ

-- of the alphabet: its letters, each once; the number of its columns, with every letter counted; its lowest violation
pub record Letters : Type 0 where
  pub letters : List ℕ
  pub width : ℕ
  pub violation : Option Violation

-- of the modules: their names, the gotos, how many blocks have begun, those blocks that are within the limits, and the lowest violation
pub record Draft : Type 0 where
  pub names : List Entry
  pub gotos : List Pending
  pub count : ℕ
  pub blocks : List (Block Text)
  pub violation : Option Violation

-- the lowest violation, after one more if the test says so
abbrev pub met : Bool → ℕ → Cause → Option Violation → Option Violation
met true i n v = Some (lower (record { index = i; cause = n }) v)
met false i n v = v

-- a violation, if the test says so
abbrev pub flagged : Bool → ℕ → Cause → Draft → Draft
flagged b i n x = record { names = x.names; gotos = x.gotos; count = x.count; blocks = x.blocks; violation = met b i n x.violation }

-- before the first letter: the one column is blank
abbrev pub no_letters : Letters
no_letters = record { letters = []; width = 1; violation = None }

-- a letter of the alphabet at the word i
abbrev pub letter_noted : ℕ → ℕ → Letters → Letters
letter_noted c i x =
    let again = member c (columns x.letters) in
    record { letters = cond again x.letters (x.letters ++ c ∷ []); width = suc x.width; violation = met again i Alphabet x.violation }

-- before the first module
abbrev pub empty_draft : Letters → Draft
empty_draft a = record { names = []; gotos = []; count = 0; blocks = []; violation = a.violation }

-- a code is blank's or a letter's
abbrev pub is_column : Letters → ℕ → Bool
is_column a c = member c (columns a.letters)

-- the names of entries
abbrev pub names_of : List Entry → List Text
names_of [] = []
names_of (e ∷ es) = e.name ∷ names_of es

-- a module's name at the word i; the module's first block has the next number
abbrev pub name_noted : Text → ℕ → Draft → Draft
name_noted w i x = record {
  names = x.names ++ (record { name = w; first = x.count } ∷ []);
  gotos = x.gotos;
  count = x.count;
  blocks = x.blocks;
  violation = met (named w (ACCEPT ∷ REJECT ∷ names_of x.names)) i ModuleName x.violation;
}

-- a symbol that is written, at the word i
abbrev pub symbol_noted : Letters → Symbol → ℕ → Draft → Draft
symbol_noted a s i x = flagged (not (is_column a (code s))) i Letter x

-- which codes have been seen in a switch
abbrev pub Seen : Type 0
Seen = ℕ → Bool

-- before the first symbol of a switch
abbrev pub none_seen : Seen
none_seen c = false

-- one more code
abbrev pub seen_too : ℕ → Seen → Seen
seen_too c s d = d == c || s d

-- the code of a case's symbol at the word i, after those seen
abbrev pub code_noted : Letters → ℕ → ℕ → Seen → Draft → Draft
code_noted a c i s x = cond (is_column a c) (flagged (s c) i Repeated x) (flagged true i Letter x)

-- all of these codes have been seen
abbrev pub all_seen : List ℕ → Seen → Bool
all_seen [] s = true
all_seen (c ∷ cols) s = s c && all_seen cols s

-- the end of a switch whose first case began at the word i
abbrev pub switch_ended : Letters → ℕ → Seen → Draft → Draft
switch_ended a i s x = flagged (not (all_seen (columns a.letters) s)) i Missing x

-- a goto's name at the word i
abbrev pub goto_noted : Text → ℕ → Draft → Draft
goto_noted w i x = record {
  names = x.names;
  gotos = x.gotos ++ (record { name = w; index = i } ∷ []);
  count = x.count;
  blocks = x.blocks;
  violation = x.violation;
}

-- a block of this kind takes the next number, at the word i
abbrev pub begun : Letters → ℕ → Kind Text → Draft → Draft
begun a i k x =
    let over = too_many (suc x.count) a.width in
    record {
      names = x.names;
      gotos = x.gotos;
      count = suc x.count;
      blocks = cond over x.blocks (x.blocks ++ (record { index = i; kind = k } ∷ []));
      violation = met over i Limit x.violation;
    }

-- the lowest violation after the last module: the gotos against the names of all modules
abbrev pub resolved : List Text → List Pending → Option Violation → Option Violation
resolved ns [] v = v
resolved ns (g ∷ gs) v = resolved ns gs (met (not (named g.name ns)) g.index Goto v)

-- the number of the first block of the module with this name
abbrev pub first_number : List Entry → Text → ℕ
first_number [] w = 0
first_number (e ∷ es) w = cond (same w e.name) e.first (first_number es w)

-- the blocks that must be kept: none once a violation is known
abbrev pub kept : Option Violation → List (Block Text) → List (Block Text)
kept None bs = bs
kept (Some v) bs = []

-- a draft with only those blocks that must be kept
abbrev pub trimmed : Draft → Draft
trimmed x = record { names = x.names; gotos = x.gotos; count = x.count; blocks = kept x.violation x.blocks; violation = x.violation }
