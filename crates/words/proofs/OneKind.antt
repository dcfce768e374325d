-- A text has one kind.
use Rattle.std.proofs.Common.{◌≡◌, Bool, true, false, cond, List, [], ◌∷◌, Some, None, Option, sym, refl, ap, ◌∙◌, arith}
use Rattle.std.proofs.lemmas.Slice.Eq.{bytes_eq-Decides}
use Rattle.words.specs.declared.token.Keyword.{Keyword}
use Rattle.words.specs.declared.token.Keyword.TheVariants.{Alphabet, Module, If, While, Changeto, Move, Left, Right, Accept, Reject, Goto}
use Rattle.words.specs.declared.token.Mark.{Mark}
use Rattle.words.specs.declared.token.Mark.TheVariants.{Open, Close, Comma, Equals}
use Rattle.words.specs.Bytes.{Text}
use Rattle.words.specs.Vocabulary.{is_name_text, is_symbol_text}
use Rattle.words.specs.Tokens.{keyword_text, mark_text, keywords, marks, written, keyword_in, mark_in, Kind, symbol, key, mark, name, none, plain_kind, fixed_kind, kind, Means, OnlyKindOf}

module _ {A : Type 0} (text : A → Text) (w : Text) where
  -- what is found is written so
  found : (xs : List A) (x : A) → written text xs w ≡ Some x → w ≡ text x
  found [] x e = cc
  found (y ∷ ys) x e = grind (arith, bytes_eq-Decides w (text y), found ys x)

  -- what is written like none is not found
  missed : (xs : List A) → ((x : A) → w ≡ text x → ⊥) → written text xs w ≡ None
  missed [] unlike = refl
  missed (y ∷ ys) unlike = grind (arith, bytes_eq-Decides w (text y), unlike y, missed ys unlike)

-- how a keyword is written is found as that keyword, and is a name
pub of_keyword : (k : Keyword) → (keyword_in (keyword_text k) ≡ Some k) × (kind (keyword_text k) ≡ key k) × (is_name_text (keyword_text k) ≡ true)
unfolding kind
of_keyword Alphabet = (refl, refl, refl)
of_keyword Module = (refl, refl, refl)
of_keyword If = (refl, refl, refl)
of_keyword While = (refl, refl, refl)
of_keyword Changeto = (refl, refl, refl)
of_keyword Move = (refl, refl, refl)
of_keyword Left = (refl, refl, refl)
of_keyword Right = (refl, refl, refl)
of_keyword Accept = (refl, refl, refl)
of_keyword Reject = (refl, refl, refl)
of_keyword Goto = (refl, refl, refl)

-- how a mark is written is found as that mark, and is no name
of_mark : (m : Mark) → (mark_in (mark_text m) ≡ Some m) × (kind (mark_text m) ≡ mark m) × (is_name_text (mark_text m) ≡ false)
unfolding kind
of_mark Open = (refl, refl, refl)
of_mark Close = (refl, refl, refl)
of_mark Comma = (refl, refl, refl)
of_mark Equals = (refl, refl, refl)

module _ (w : Text) where
  no_keyword : (k : Keyword) → keyword_in w ≡ None → w ≡ keyword_text k → ⊥
  no_keyword k e s = let f = (of_keyword k).0 in let g = ap keyword_in s in cc

  no_mark : (m : Mark) → mark_in w ≡ None → w ≡ mark_text m → ⊥
  no_mark m e s = let f = (of_mark m).0 in let g = ap mark_in s in cc

  -- a text that is neither a symbol nor a keyword nor a mark
  means_plain : (b : Bool) → is_name_text w ≡ b → is_symbol_text w ≡ false → keyword_in w ≡ None → mark_in w ≡ None → Means w (cond b name none)
  means_plain true n s k m = (n, s, λ j. no_keyword j k)
  means_plain false n s k m = (n, s, λ j. no_mark j m)

  -- a text that is neither a symbol nor a keyword
  means_mark : (o : Option Mark) → mark_in w ≡ o → is_symbol_text w ≡ false → keyword_in w ≡ None → Means w (plain_kind o w)
  means_mark (Some m) e s k = found mark_text w marks m e
  means_mark None e s k = means_plain (is_name_text w) refl s k e

  -- a text that is no symbol
  means_fixed : (o : Option Keyword) → keyword_in w ≡ o → is_symbol_text w ≡ false → Means w (fixed_kind o w)
  means_fixed (Some k) e s = found keyword_text w keywords k e
  means_fixed None e s = means_mark (mark_in w) refl s e

  means_any : (b : Bool) → is_symbol_text w ≡ b → Means w (cond b symbol (fixed_kind (keyword_in w) w))
  means_any true e = e
  means_any false e = means_fixed (keyword_in w) refl e

  means_kind : Means w (kind w)
  unfolding kind
  means_kind = means_any (is_symbol_text w) refl

  only : (j : Kind) → Means w j → j ≡ kind w
  unfolding kind
  only symbol e = rw e
  only (key k) e = sym (ap kind e ∙ (of_keyword k).1)
  only (mark m) e = sym (ap kind e ∙ (of_mark m).1)
  only name e =
      let k = missed keyword_text w keywords e.2 in
      let m = missed mark_text w marks (λ j s. let named = (of_mark j).2 in let same = ap is_name_text s in cc) in
      rw (e.1, k, m, e.0)
  only none e =
      let k = missed keyword_text w keywords (λ j s. let named = (of_keyword j).2 in let same = ap is_name_text s in cc) in
      let m = missed mark_text w marks e.2 in
      rw (e.1, k, m, e.0)

  -- a text is what its kind says, and of no other kind
  pub only_kind : OnlyKindOf w (kind w)
  only_kind = record { is = means_kind; only = only }
