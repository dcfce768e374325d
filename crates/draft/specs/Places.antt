-- Places for indexes: a compiler notes a word by its place in the source. Places rise with indexes, so what is lowest stays so.
use Rattle.std.specs.Prelude.{◌≡◌, ℕ, ◌+◌, ◌-◌, ◌<◌, Bool, List, [], ◌∷◌, length, Some, None, Option}
use Rattle.words.specs.Bytes.{Text}
use Rattle.words.specs.Words.{words}
use Rattle.meaning.specs.declared.faults.Cause.{Cause}
use Rattle.meaning.specs.Blocks.{Kind, Basic, Block}
use Rattle.meaning.specs.Faults.{Violation}
use Rattle.meaning.specs.Outcome.{place_in}
use Rattle.draft.specs.Draft.{Pending, Letters, Draft, Seen, letter_noted, empty_draft, flagged, name_noted, code_noted, goto_noted, begun}
use Rattle.draft.specs.Building.{Owner, basic_noted}
use Rattle.draft.specs.Noted.{told, finished}

-- a higher index has a higher place
abbrev pub Rises : (ℕ → ℕ) → Type 0
Rises at = (i j : ℕ) → i < j → at i < at j

-- a violation by the place of its word
abbrev pub violation_at : (ℕ → ℕ) → Violation → Violation
violation_at at v = record { index = at v.index; cause = v.cause }

-- the lowest violation, if there is one, by its place
abbrev pub lowest_at : (ℕ → ℕ) → Option Violation → Option Violation
lowest_at at None = None
lowest_at at (Some v) = Some (violation_at at v)

-- gotos by the places of their names
abbrev pub gotos_at : (ℕ → ℕ) → List Pending → List Pending
gotos_at at [] = []
gotos_at at (g ∷ gs) = record { name = g.name; index = at g.index } ∷ gotos_at at gs

-- blocks by the places of their first words
abbrev pub blocks_at : (ℕ → ℕ) → List (Block Text) → List (Block Text)
blocks_at at [] = []
blocks_at at (b ∷ bs) = record { index = at b.index; kind = b.kind } ∷ blocks_at at bs

-- letters by places
abbrev pub letters_at : (ℕ → ℕ) → Letters → Letters
letters_at at a = record { letters = a.letters; width = a.width; violation = lowest_at at a.violation }

-- a draft by places
abbrev pub draft_at : (ℕ → ℕ) → Draft → Draft
draft_at at x = record { names = x.names; gotos = gotos_at at x.gotos; count = x.count; blocks = blocks_at at x.blocks; violation = lowest_at at x.violation }

-- what is noted at a place is what is noted at its index, by places
pub record NotesPlaces (at : ℕ → ℕ) : Type 0 where
  pub letter : (c i : ℕ) (x : Letters) → letter_noted c (at i) (letters_at at x) ≡ letters_at at (letter_noted c i x)
  pub empty : (a : Letters) → empty_draft (letters_at at a) ≡ draft_at at (empty_draft a)
  pub flag : (b : Bool) (i : ℕ) (n : Cause) (x : Draft) → flagged b (at i) n (draft_at at x) ≡ draft_at at (flagged b i n x)
  pub name : (w : Text) (i : ℕ) (x : Draft) → name_noted w (at i) (draft_at at x) ≡ draft_at at (name_noted w i x)
  pub code : (a : Letters) (c i : ℕ) (s : Seen) (x : Draft) → code_noted a c (at i) s (draft_at at x) ≡ draft_at at (code_noted a c i s x)
  pub goto : (w : Text) (i : ℕ) (x : Draft) → goto_noted w (at i) (draft_at at x) ≡ draft_at at (goto_noted w i x)
  pub begin : (a : Letters) (i : ℕ) (k : Kind Text) (x : Draft) → begun a (at i) k (draft_at at x) ≡ draft_at at (begun a i k x)
  pub fill : (o : Owner) (b : Basic Text) (x : Draft) → basic_noted o b (draft_at at x) ≡ draft_at at (basic_noted o b x)
  pub tell : (x : Draft) → told (draft_at at x) ≡ lowest_at at (told x)
  pub finish : (a : Letters) (x : Draft) → finished (letters_at at a) (draft_at at x) ≡ finished a x

-- so wherever places rise
abbrev pub KeepsPlaces : Type 0
KeepsPlaces = (at : ℕ → ℕ) → Rises at → NotesPlaces at

-- the place of the word with this index; behind the last word, places go on from the source's length
abbrev pub place_at : Text → ℕ → ℕ
place_at source i = place_in source i + (i - length (words source))

-- places rise, and those of words are theirs in the source
pub record Places (source : Text) : Type 0 where
  pub rise : Rises (place_at source)
  pub words_are : (i : ℕ) → i < length (words source) → place_at source i ≡ place_in source i

-- so of every source
abbrev pub PlacesRise : Type 0
PlacesRise = (source : Text) → Places source
