-- What the words of a source are, told by its bytes alone: the law that `words` meets.
use Rattle.std.specs.Prelude.{◌≡◌, ℕ, ◌+◌, ◌<◌, ◌≤◌, ◌⊎◌, List, [], ◌∷◌, length, take, drop}
use Rattle.std.specs.List.{AllByRecursion}
use Rattle.words.specs.declared.bytes.Class.TheVariants.{Part, Mark}
use Rattle.words.specs.Bytes.{Text, Holds}
use Rattle.words.specs.Words.{Word}

-- the place behind a word's last byte
abbrev pub end : Word → ℕ
end w = w.place + length w.text

-- a word covers a place
abbrev pub Covers : Word → ℕ → Type 0
Covers w i = (w.place ≤ i) × (i < end w)

-- some word covers a place
abbrev pub Covered : List Word → ℕ → Type 0
Covered [] i = ⊥
Covered (w ∷ ws) i = Covers w i ⊎ Covered ws i

-- a word is the stretch of the source at its place
pub record Stretch (source : Text) (w : Word) : Type 0 where
  pub within : end w ≤ length source
  pub text : w.text ≡ take (length w.text) (drop w.place source)

-- a word is one mark
pub record Single (source : Text) (w : Word) : Type 0 where
  pub one : length w.text ≡ 1
  pub mark : Holds source w.place Mark

-- a word is a stretch of one or more parts that no part comes before or behind
pub record Longest (source : Text) (w : Word) : Type 0 where
  pub nonempty : 0 < length w.text
  pub parts : (i : ℕ) → Covers w i → Holds source i Part
  pub before : (i : ℕ) → i + 1 ≡ w.place → Holds source i Part → ⊥
  pub behind : Holds source (end w) Part → ⊥

-- words in order from a place on: none begins before the one in front of it ends
abbrev pub Apart : ℕ → List Word → Type 0
Apart from [] = Unit {0}
Apart from (w ∷ ws) = (from ≤ w.place) × Apart (end w) ws

-- a list has the words of a source: each is a stretch of it, a mark or a longest one of parts; they stand in order, with no
-- byte in two of them; and every part and every mark is in one of them
pub record WordsOf (source : Text) (ws : List Word) : Type 0 where
  pub stretches : AllByRecursion (Stretch source) ws
  pub kinds : AllByRecursion (λ w. Single source w ⊎ Longest source w) ws
  pub apart : Apart 0 ws
  pub whole : (i : ℕ) → Holds source i Part ⊎ Holds source i Mark → Covered ws i

-- a list has the words of a source, and no other list has
pub record OnlyWordsOf (source : Text) (ws : List Word) : Type 0 where
  pub are : WordsOf source ws
  pub only : (vs : List Word) → WordsOf source vs → vs ≡ ws
