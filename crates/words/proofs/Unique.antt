-- A source has one list of words.
use Rattle.std.proofs.Common.{◌≡◌, ℕ, ◌<◌, ◌≤◌, ◌⊎◌, List, [], ◌∷◌, length, take, drop, sym, refl, ◌∙◌, subst, inl, inr, arith}
use Rattle.words.specs.declared.bytes.Class.TheVariants.{Part}
use Rattle.words.specs.Bytes.{Text, Holds}
use Rattle.words.specs.Words.{Word, words}
use Rattle.words.specs.Stretches.{end, Covered, Stretch, Single, Longest, Apart, OnlyWordsOf}
use Rattle.words.proofs.Stretched.{Spoken, From, stretched}

-- what a word of a source is
abbrev Kind : Text → Word → Type 0
Kind source w = Single source w ⊎ Longest source w

-- a word has a byte
has_byte : (source : Text) (w : Word) → Kind source w → w.place < end w
has_byte source w kind = grind arith

-- its first byte is a part or a mark
spoken : (source : Text) (w : Word) → Kind source w → Spoken source w.place
spoken source w (inl s) = inr s.mark
spoken source w (inr l) = inl (l.parts w.place (omega arith, omega (arith, l.nonempty)))

-- words from a place on cover nothing before it
covers_late : (p : ℕ) (ws : List Word) (i : ℕ) → Apart p ws → Covered ws i → p ≤ i
covers_late p [] i a c = absurd c
covers_late p (w ∷ ws) i a c = grind (arith, covers_late (end w) ws i)

-- the first word covers the first part or mark
first_not_later : (source : Text) (p : ℕ) (v w : Word) (vs ws : List Word) → From source p (v ∷ vs) → From source p (w ∷ ws) → v.place < w.place → ⊥
first_not_later source p v w vs ws f g l =
    grind (arith, covers_late (end w) ws v.place, g.whole v.place f.apart.0 (spoken source v f.kinds.0))

-- a longest stretch ends before none that begins where it does
not_shorter : (source : Text) (v w : Word) → v.place ≡ w.place → Longest source v → Longest source w → length v.text < length w.text → ⊥
not_shorter source v w e k m l = k.behind (m.parts (end v) (omega (arith, e), omega (arith, e)))

-- no mark begins where a stretch of parts does
mark_or_parts : (source : Text) (v w : Word) → v.place ≡ w.place → Single source v → Longest source w → ⊥
mark_or_parts source v w e s l =
    let here : Holds source v.place Part = l.parts v.place (omega (arith, e), omega (arith, e, l.nonempty)) in
    let mark = s.mark.1 in
    let part = here.1 in
    cc

same_length : (source : Text) (v w : Word) → v.place ≡ w.place → Kind source v → Kind source w → length v.text ≡ length w.text
same_length source v w e (inl s) (inl t) = s.one ∙ sym t.one
same_length source v w e (inl s) (inr m) = absurd (mark_or_parts source v w e s m)
same_length source v w e (inr k) (inl t) = absurd (mark_or_parts source w v (sym e) t k)
same_length source v w e (inr k) (inr m) =
    grind (arith, not_shorter source v w e k m, not_shorter source w v (sym e) m k)

-- two words of a source that begin at one place are one
same_word : (source : Text) (v w : Word) → v.place ≡ w.place → Stretch source v → Stretch source w → Kind source v → Kind source w → v ≡ w
same_word source v w e s t k m =
    let n = same_length source v w e k m in
    let texts : v.text ≡ w.text = s.text ∙ (λ i. take (n i) (drop (e i) source)) ∙ sym t.text in
    λ i. record { text = texts i; place = e i }

-- the words behind the first
behind : (source : Text) (p : ℕ) (w : Word) (ws : List Word) → From source p (w ∷ ws) → From source (end w) ws
behind source p w ws f = record {
  stretches = f.stretches.1;
  kinds = f.kinds.1;
  apart = f.apart.1;
  whole = λ i l y.
      grind (arith, f.whole i (omega (arith, f.apart.0, has_byte source w f.kinds.0)) y);
}

-- two lists of words from one place on are one
one_list : (source : Text) (p : ℕ) (vs ws : List Word) → From source p vs → From source p ws → vs ≡ ws
one_list source p [] [] f g = refl
one_list source p [] (w ∷ ws) f g = absurd (f.whole w.place g.apart.0 (spoken source w g.kinds.0))
one_list source p (v ∷ vs) [] f g = absurd (g.whole v.place f.apart.0 (spoken source v f.kinds.0))
one_list source p (v ∷ vs) (w ∷ ws) f g =
    let e : v.place ≡ w.place = grind (arith, first_not_later source p v w vs ws f g, first_not_later source p w v ws vs g f) in
    let first : v ≡ w = same_word source v w e f.stretches.0 g.stretches.0 f.kinds.0 g.kinds.0 in
    let rest : vs ≡ ws = one_list source (end v) vs ws (behind source p v vs f) (subst (λ u. From source (end u) ws) (sym first) (behind source p w ws g)) in
    λ i. first i ∷ rest i

-- the words of a source are its words, and no other list has them
pub only_words : (source : Text) → OnlyWordsOf source (words source)
only_words source =
    let f = stretched source in
    record {
      are = record { stretches = f.stretches; kinds = f.kinds; apart = f.apart; whole = λ i y. f.whole i (omega arith) y };
      only = λ vs g. one_list source 0 vs (words source) (record { stretches = g.stretches; kinds = g.kinds; apart = g.apart; whole = λ i l y. g.whole i y }) f;
    }
