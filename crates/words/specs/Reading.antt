-- What a word reader stands for, and what it gives.
use Rattle.std.specs.Prelude.{◌≡◌, List, [], ◌∷◌, drop, Some, None, Option}
use Rattle.words.specs.Words.{Word, scan}
use Rattle.words.specs.declared.reader.Condition.TheVariants.{Between}
use Rattle.words.specs.declared.reader.Reader.{Reader}
use Rattle.words.specs.declared.word.Word.{Word as Given}

-- the words that a reader has still to give
abbrev pub left : Reader → List Word
left r = scan r.source.now Between r.at (drop r.at r.source.now)

-- the word that was given
abbrev pub word : Given → Word
word w = record { text = w.text.now; place = w.place }

-- a call gives the first of the words that were left and leaves the others, or gives none where none was left
abbrev pub Gives : Option Given → Reader → Reader → Type 0
Gives None before after = (left before ≡ []) × (left after ≡ [])
Gives (Some w) before after = left before ≡ word w ∷ left after
