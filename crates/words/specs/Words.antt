-- The words of a source, each with its place. A word is a longest stretch of letters and digits, or one mark. A foreign byte
-- separates words too: a source that has one is turned away before its words matter.
use Rattle.std.specs.Prelude.{ℕ, ◌+◌, ◌-◌, List, [], ◌∷◌, take, drop}
use Rattle.words.specs.Bytes.{Text, class}
use Rattle.words.specs.declared.bytes.Class.{Class}
use Rattle.words.specs.declared.bytes.Class.TheVariants.{Part, Mark, Separator, Foreign}
use Rattle.words.specs.declared.reader.Condition.{Condition}
use Rattle.words.specs.declared.reader.Condition.TheVariants.{Between, Inside}

-- a word: its bytes, and the place of the first of them, from 0
pub record Word : Type 0 where
  pub text : Text
  pub place : ℕ

-- the word of a source from one place up to another
abbrev pub cut : Text → ℕ → ℕ → Word
cut source from to = record { text = take (to - from) (drop from source); place = from }

-- the words from a byte on, by the condition in which it is read, its place and its class; later has those behind it
abbrev pub turn : Text → Condition → ℕ → Class → (Condition → List Word) → List Word
turn source Between p Part later = later (Inside p)
turn source Between p Mark later = cut source p (p + 1) ∷ later Between
turn source Between p Separator later = later Between
turn source Between p Foreign later = later Between
turn source (Inside q) p Part later = later (Inside q)
turn source (Inside q) p Mark later = cut source q p ∷ cut source p (p + 1) ∷ later Between
turn source (Inside q) p Separator later = cut source q p ∷ later Between
turn source (Inside q) p Foreign later = cut source q p ∷ later Between

-- the word that the end of the source ends
abbrev pub last : Text → Condition → ℕ → List Word
last source Between p = []
last source (Inside q) p = cut source q p ∷ []

-- the words of the rest of a source, read in a condition from a place
abbrev pub scan : Text → Condition → ℕ → Text → List Word
scan source k p [] = last source k p
scan source k p (b ∷ bs) = turn source k p (class b) (λ j. scan source j (p + 1) bs)

-- the words of a source
abbrev pub words : Text → List Word
words source = scan source Between 0 source
