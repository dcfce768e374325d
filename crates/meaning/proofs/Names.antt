-- Symbols and states' names, and back.
use Rattle.std.proofs.Common.{◌≡◌, ℕ, ◌+◌, ◌-◌, ◌*◌, ◌<◌, ◌≤◌, Bool, true, false, ◌||◌, T, eqb, List, [], ◌∷◌, sym, refl, ap, ◌∙◌, subst, ap₂, arith}
use Rattle.std.proofs.lemmas.Bool.{agree_below_at, eqb-true, eqb-false, false≢true}
use Rattle.words.specs.Bytes.{Text}
use Rattle.words.specs.Vocabulary.{Such, is_name_text, same}
use Rattle.grammar.proofs.Tests.{same_true, same_refl}
use Rattle.meaning.specs.Codes.{code, symbol, passing, member, columns}
use Rattle.meaning.specs.Print.{state_word, state_name}
use Rattle.meaning.specs.Tables.{Each}

-- a word that passed a test passes it
pub passes : {p : Text → Bool} (s : Such p) → p s.word ≡ true
passes {p} s = holds (p s.word) s.fits
  where
    holds : (b : Bool) → T b → b ≡ true
    holds true t = refl
    holds false t = absurd t

pub code_symbol : (c : ℕ) → c ≤ 36 → code (symbol c) ≡ c
code_symbol c h = eqb-true (code (symbol c)) c (agree_below_at (λ x. eqb (code (symbol x)) x) (λ _. true) 37 c refl (omega arith))

passing_word : {p : Text → Bool} (w : Text) (b : Bool) (e : p w ≡ b) (other : Such p) → b ≡ true → (passing w b e other).word ≡ w
passing_word w true e other h = refl
passing_word w false e other h = absurd (false≢true h)

pub name_word : (q : ℕ) → q < 128 → (state_name q).word ≡ state_word q
name_word q h = passing_word {p = is_name_text} (state_word q) (is_name_text (state_word q)) refl _ (agree_below_at (λ x. is_name_text (state_word x)) (λ _. true) 128 q refl h)

-- the number that a state's word tells
abbrev told : ℕ → List ℕ → ℕ
told n [] = n
told n (d ∷ ds) = told (n * 10 + (d - 97)) ds

abbrev number_of : Text → ℕ
number_of [] = 0
number_of (s ∷ ds) = told 0 ds

number_back : (q : ℕ) → q < 128 → number_of (state_word q) ≡ q
number_back q h = eqb-true (number_of (state_word q)) q (agree_below_at (λ x. eqb (number_of (state_word x)) x) (λ _. true) 128 q refl h)

by_eqb : (q r : ℕ) (b : Bool) → eqb q r ≡ b → (v w : Text) → (q ≡ r → same v w ≡ true) → (same v w ≡ true → q ≡ r) → same v w ≡ b
by_eqb q r true e v w good only = good (eqb-true q r e)
by_eqb q r false e v w good only = no_way (same v w) refl
  where
    no_way : (b : Bool) → same v w ≡ b → b ≡ false
    no_way true s = absurd (eqb-false q r e (only s))
    no_way false s = refl

-- two states' names are the same exactly when the states are
pub same_names : (q r : ℕ) → q < 128 → r < 128 → same (state_name q).word (state_name r).word ≡ eqb q r
same_names q r h l =
    ap₂ same (name_word q h) (name_word r l)
    ∙ by_eqb q r (eqb q r) refl (state_word q) (state_word r)
    (λ e. ap (λ x. same (state_word q) (state_word x)) (sym e) ∙ same_refl (state_word q))
    (λ s. sym (number_back q h) ∙ ap number_of (same_true (state_word q) (state_word r) s) ∙ number_back r l)

pub each_columns : (letters : List ℕ) → Each (λ c. c ≤ 36) letters → Each (λ c. c ≤ 36) (columns letters)
each_columns [] h = (omega arith, tt)
each_columns (x ∷ xs) h = (h.0, each_columns xs h.1)

pub each_member : (P : ℕ → Type 0) (c : ℕ) (cols : List ℕ) → Each P cols → member c cols ≡ true → P c
each_member P c [] h m = absurd (false≢true m)
each_member P c (x ∷ xs) h m = at (eqb c x) refl m (each_member P c xs h.1)
  where
    at : (b : Bool) → eqb c x ≡ b → b || member c xs ≡ true → (member c xs ≡ true → P c) → P c
    at true e m ih = subst P (sym (eqb-true c x e)) h.0
    at false e m ih = ih m
