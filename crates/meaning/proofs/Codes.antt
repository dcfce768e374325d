-- Symbol codes.
use Rattle.std.proofs.Common.{◌≡◌, ℕ, ◌+◌, ◌-◌, Bool, true, false, cond, ◌||◌, leb, ◌⊎◌, [], ◌∷◌, Some, None, refl, inl, inr, arith}
use Rattle.std.proofs.lemmas.Bool.{and_parts, leb-true, or_cases, false≢true}
use Rattle.words.specs.Bytes.{Text, between, is_digit}
use Rattle.words.specs.Vocabulary.{BLANK, same, is_letter_text}
use Rattle.words.specs.Codes.{symbol_code}
use Rattle.grammar.proofs.Tests.{same_true}
use Rattle.meaning.specs.Codes.{or_blank, word_code, CodesAre}
use Rattle.meaning.proofs.Names.{passes, code_symbol}
use Rattle.meaning.proofs.Ranges.{code_small}

-- a letter's code by either definition
letter_told : (b : ℕ) → between 97 122 b || is_digit b ≡ true → symbol_code (b ∷ []) ≡ word_code (b ∷ [])
letter_told b h = by (between 97 122 b) (is_digit b) refl refl h
  where
    by : (v w : Bool) → between 97 122 b ≡ v → is_digit b ≡ w → v || w ≡ true → cond v (b - 97 + 1) (b - 48 + 27) ≡ or_blank (cond v (Some (b - 96)) (cond w (Some (b - 21)) None))
    by true w p q h = let k = leb-true 97 b (and_parts (leb 97 b) (leb b 122) p).0 in omega arith
    by false true p q h = let k = leb-true 48 b (and_parts (leb 48 b) (leb b 57) q).0 in omega arith
    by false false p q h = absurd (false≢true h)

told_by : (w : Text) → (is_letter_text w ≡ true) ⊎ (same w BLANK ≡ true) → symbol_code w ≡ word_code w
told_by [] h = refl
told_by (b ∷ []) (inl h) = letter_told b h
told_by (b ∷ []) (inr h) = let z = same_true (b ∷ []) BLANK h in absurd cc
told_by (b ∷ c ∷ cs) h = refl

pub codes_are : CodesAre
codes_are = record {
  told = λ s. told_by s.word (or_cases (is_letter_text s.word) (same s.word BLANK) (passes s));
  most = code_small;
  back = code_symbol;
}
