-- The tests of words: what they say when they pass.
use Rattle.std.proofs.Common.{◌≡◌, Bool, true, false, T, sym, refl, ap}
use mathlib.Core.Option.{Option, some, none-ne-some, some-injective}
use lib.Dec.{T_prop}
use Rattle.std.proofs.lemmas.Slice.Eq.{bytes_eq-Decides}
use Rattle.words.specs.Bytes.{Text}
use Rattle.words.specs.Vocabulary.{Such, same}
use Rattle.grammar.specs.Automaton.{such_if, as_such}

-- words that are the same are equal
pub same_true : (v w : Text) → same v w ≡ true → v ≡ w
same_true v w e = (bytes_eq-Decides v w).0 e

-- a word is the same as itself
pub same_refl : (w : Text) → same w w ≡ true
same_refl w = (bytes_eq-Decides w w).1 refl

such_word : (p : Text → Bool) (w : Text) (b : Bool) (f : T b → T (p w)) (s : Such p) → such_if p w b f ≡ some s → s.word ≡ w
such_word p w true f s e = ap (λ (x : Such p). x.word) (sym (some-injective (record { word = w; fits = f tt }) s e))
such_word p w false f s e = absurd (none-ne-some s e)

-- a word that passes is the word that was tested
pub as_such_word : (p : Text → Bool) (w : Text) (s : Such p) → as_such p w ≡ some s → s.word ≡ w
as_such_word p w s e = such_word p w (p w) (λ t. t) s e

such_found : (p : Text → Bool) (s : Such p) (b : Bool) (f : T b → T (p s.word)) → T b → such_if p s.word b f ≡ some s
such_found p s true f t = ap {B = Option (Such p)} some (λ i. record { word = s.word; fits = T_prop (p s.word) (f tt) s.fits i })
such_found p s false f t = absurd t

-- each word that passes is found by its test
pub as_such_found : (p : Text → Bool) (s : Such p) → as_such p s.word ≡ some s
as_such_found p s = such_found p s (p s.word) (λ t. t) s.fits
