-- The kind of a word tells what the grammar asks of the word.
use Rattle.std.proofs.Common.{◌≡◌, ℕ, Bool, true, false, get_or, sym, refl, ap, ◌∙◌}
use mathlib.Core.Bool.{false≢true}
use Rattle.std.proofs.lemmas.Bool.{eqb-true, eq-eqb}
use Rattle.std.proofs.lemmas.Slice.Eq.{bytes_eq-Decides}
use Rattle.words.specs.declared.token.Keyword.{Keyword}
use Rattle.words.specs.declared.token.Keyword.TheVariants.{Alphabet, Module, If, While, Changeto, Move, Left, Right, Accept, Reject, Goto}
use Rattle.words.specs.declared.token.Mark.{Mark}
use Rattle.words.specs.declared.token.Mark.TheVariants.{Open, Close, Comma, Equals}
use Rattle.words.specs.Bytes.{Text}
use Rattle.words.specs.Vocabulary.{same, is_name_text, is_symbol_text}
use Rattle.words.specs.Tokens.{keyword_text, mark_text, keywords, marks, Kind, symbol, key, mark, name, none, kind, Means}
use Rattle.words.proofs.OneKind.{only_kind}
use Rattle.events.specs.Descent.{keyword_number, mark_number, is_key, is_mark, is_symbol, is_name}

-- a keyword stands in the list of all at its number
numbered_keyword : (k : Keyword) → get_or keywords (keyword_number k) Goto ≡ k
numbered_keyword Alphabet = refl
numbered_keyword Module = refl
numbered_keyword If = refl
numbered_keyword While = refl
numbered_keyword Changeto = refl
numbered_keyword Move = refl
numbered_keyword Left = refl
numbered_keyword Right = refl
numbered_keyword Accept = refl
numbered_keyword Reject = refl
numbered_keyword Goto = refl

-- and so a mark
numbered_mark : (m : Mark) → get_or marks (mark_number m) Equals ≡ m
numbered_mark Open = refl
numbered_mark Close = refl
numbered_mark Comma = refl
numbered_mark Equals = refl

-- tests that pass by each other are equal
equal_tests : (a b : Bool) → (a ≡ true → b ≡ true) → (b ≡ true → a ≡ true) → a ≡ b
equal_tests true b f g = sym (f refl)
equal_tests false true f g = g refl
equal_tests false false f g = refl

-- a kind that passes as a keyword is that keyword
the_key : (k : Keyword) (κ : Kind) → is_key k κ ≡ true → κ ≡ key k
the_key k symbol e = absurd (false≢true e)
the_key k (key j) e = ap key (sym (numbered_keyword j) ∙ ap (λ (n : ℕ). get_or keywords n Goto) (eqb-true (keyword_number j) (keyword_number k) e) ∙ numbered_keyword k)
the_key k (mark m) e = absurd (false≢true e)
the_key k name e = absurd (false≢true e)
the_key k none e = absurd (false≢true e)

-- a kind that passes as a mark is that mark
the_mark : (m : Mark) (κ : Kind) → is_mark m κ ≡ true → κ ≡ mark m
the_mark m symbol e = absurd (false≢true e)
the_mark m (key k) e = absurd (false≢true e)
the_mark m (mark n) e = ap mark (sym (numbered_mark n) ∙ ap (λ (n : ℕ). get_or marks n Equals) (eqb-true (mark_number n) (mark_number m) e) ∙ numbered_mark m)
the_mark m name e = absurd (false≢true e)
the_mark m none e = absurd (false≢true e)

-- a kind that passes as a symbol is that
the_symbol : (κ : Kind) → is_symbol κ ≡ true → κ ≡ symbol
the_symbol symbol e = refl
the_symbol (key k) e = absurd (false≢true e)
the_symbol (mark m) e = absurd (false≢true e)
the_symbol name e = absurd (false≢true e)
the_symbol none e = absurd (false≢true e)

-- a text of a kind is a name if the kind says so
name_means : (w : Text) (κ : Kind) → Means w κ → is_name κ w ≡ is_name_text w
name_means w symbol e = refl
name_means w (key k) e = refl
name_means w (mark m) e = refl
name_means w name e = refl
name_means w none e = sym e.0

module _ (w : Text) where
  -- what a text of this kind is
  means : (κ : Kind) → kind w ≡ κ → Means w κ
  means κ e = rw e at (only_kind w).is

  -- a word has a keyword's kind if it is written so
  pub key_kind : (k : Keyword) → is_key k (kind w) ≡ same w (keyword_text k)
  key_kind k =
      equal_tests (is_key k (kind w)) (same w (keyword_text k))
      (λ e. (bytes_eq-Decides w (keyword_text k)).1 (means (key k) (the_key k (kind w) e)))
      (λ e. ap (is_key k) (sym ((only_kind w).only (key k) ((bytes_eq-Decides w (keyword_text k)).0 e))) ∙ eq-eqb (keyword_number k) (keyword_number k) refl)

  -- a word has a mark's kind if it is written so
  pub mark_kind : (m : Mark) → is_mark m (kind w) ≡ same w (mark_text m)
  mark_kind m =
      equal_tests (is_mark m (kind w)) (same w (mark_text m))
      (λ e. (bytes_eq-Decides w (mark_text m)).1 (means (mark m) (the_mark m (kind w) e)))
      (λ e. ap (is_mark m) (sym ((only_kind w).only (mark m) ((bytes_eq-Decides w (mark_text m)).0 e))) ∙ eq-eqb (mark_number m) (mark_number m) refl)

  -- a word has the kind of symbols if it is one
  pub symbol_kind : is_symbol (kind w) ≡ is_symbol_text w
  symbol_kind =
      equal_tests (is_symbol (kind w)) (is_symbol_text w)
      (λ e. means symbol (the_symbol (kind w) e))
      (λ e. ap is_symbol (sym ((only_kind w).only symbol e)))

  -- a word has a kind of names if it is one
  pub name_kind : is_name (kind w) w ≡ is_name_text w
  name_kind = name_means w (kind w) (only_kind w).is
