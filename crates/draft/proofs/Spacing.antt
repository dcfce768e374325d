-- Words take their bytes, and one more between two words of letters and digits.
use Rattle.std.proofs.Common.{◌≡◌, ℕ, zero, suc, ◌+◌, ◌-◌, ◌<◌, ◌≤◌, Bool, true, false, cond, ◌&&◌, ◌⊎◌, List, [], ◌∷◌, length, get_or, take, drop, sym, refl, ap, ◌∙◌, inl, inr, ⊎_elim, arith}
use Rattle.std.specs.List.{AllByRecursion}
use Rattle.std.proofs.lemmas.List.{get_or-take, get_or-drop, take_all}
use Rattle.std.proofs.lemmas.Bool.{and_parts, cases_lt, false≢true}
use Rattle.words.specs.Bytes.{Text, class}
use Rattle.words.specs.Words.{Word, words}
use Rattle.words.specs.Stretches.{end, Stretch, Single, Longest, Apart}
use Rattle.words.proofs.Unique.{only_words}
use Rattle.grammar.specs.Places.{texts, place_of}
use Rattle.draft.specs.Bounds.{is_part, begins_part, gap, least_bytes, Spaced, WordsTake}
use Rattle.draft.proofs.Outcome.{texts_length}

abbrev Either : Text → Word → Type 0
Either source w = Single source w ⊎ Longest source w

-- the first byte of a word is the source's at its place
first_byte : (source : Text) (w : Word) → Stretch source w → 0 < length w.text → get_or w.text 0 0 ≡ get_or source w.place 0
first_byte source w s l =
    ap (λ t. get_or t 0 0) s.text ∙ get_or-take (length w.text) (drop w.place source) 0 0 l ∙ get_or-drop w.place source 0 0
    ∙ ap (λ k. get_or source k 0) (let z : w.place + 0 ≡ w.place = omega arith in z)

-- a word that begins with a letter or a digit is a longest stretch of them
is_longest : (source : Text) (w : Word) → Stretch source w → Either source w → begins_part w.text ≡ true → Longest source w
is_longest source w s (inr l) b = l
is_longest source w s (inl m) b =
    absurd (false≢true (sym (ap is_part (ap class (first_byte source w s (omega (arith, m.one))) ∙ m.mark.1)) ∙ b))

spaced_pair : (source : Text) (v w : Word) → Stretch source v → Stretch source w → Either source v → Either source w → end v ≤ w.place → end v + gap v.text w.text ≤ w.place
spaced_pair source v w sv sw kv kw le = by (begins_part v.text && begins_part w.text) refl
  where
    by : (b : Bool) → (begins_part v.text && begins_part w.text) ≡ b → end v + cond b 1 0 ≤ w.place
    by false e = omega (arith, le)
    by true e = ⊎_elim (λ lt. omega (arith, lt)) (λ ge. absurd (touch ge)) (cases_lt (end v) w.place)
      where
        both : (begins_part v.text ≡ true) × (begins_part w.text ≡ true)
        both = and_parts (begins_part v.text) (begins_part w.text) e

        lv : Longest source v
        lv = is_longest source v sv kv both.0

        lw : Longest source w
        lw = is_longest source w sw kw both.1

        touch : w.place ≤ end v → ⊥
        touch ge =
            let n = lv.nonempty in
            let i = end v - 1 in
            lw.before i (omega (arith, n, ge, le)) (lv.parts i (omega (arith, n), omega (arith, n)))

spaced : (source : Text) (ws : List Word) (p : ℕ) → Apart p ws → AllByRecursion (Stretch source) ws → AllByRecursion (Either source) ws → Spaced ws
spaced source [] p a s k = tt
spaced source (w ∷ []) p a s k = tt
spaced source (v ∷ w ∷ ws) p a s k = (spaced_pair source v w s.0 s.1.0 k.0 k.1.0 a.1.0, spaced source (w ∷ ws) (end v) a.1 s.1 k.1)

takes : (source : Text) (ws : List Word) (p k : ℕ) → Apart p ws → AllByRecursion (Stretch source) ws → Spaced ws → p ≤ length source → p + least_bytes (take k (texts ws)) ≤ place_of (length source) ws k
takes source [] p zero a s g h = omega (arith, h)
takes source [] p (suc k) a s g h = omega (arith, h)
takes source (w ∷ ws) p zero a s g h = omega (arith, a.0)
takes source (w ∷ []) p (suc zero) a s g h = omega (arith, a.0, s.0.within)
takes source (w ∷ []) p (suc (suc k)) a s g h = omega (arith, a.0, s.0.within)
takes source (v ∷ w ∷ ws) p (suc zero) a s g h = omega (arith, a.0, a.1.0)
takes source (v ∷ w ∷ ws) p (suc (suc k)) a s g h =
    let z = takes source (w ∷ ws) w.place (suc k) (let y : w.place ≤ w.place = omega arith in y, a.1.1) s.1 g.1 (let y = s.1.0.within in omega (arith, y)) in
    omega (arith, z, a.0, g.0)

segments : (source : Text) (ws : List Word) (p i k : ℕ) → Apart p ws → AllByRecursion (Stretch source) ws → Spaced ws
    → place_of (length source) ws i + least_bytes (take k (drop i (texts ws))) ≤ place_of (length source) ws (i + k)
segments source [] p zero zero a s g = omega arith
segments source [] p zero (suc k) a s g = omega arith
segments source [] p (suc i) zero a s g = omega arith
segments source [] p (suc i) (suc k) a s g = omega arith
segments source (w ∷ ws) p zero k a s g =
    let z = takes source (w ∷ ws) w.place k (let y : w.place ≤ w.place = omega arith in y, a.1) s g (let y = s.0.within in omega (arith, y)) in
    let e = ap (place_of (length source) (w ∷ ws)) (let y : 0 + k ≡ k = omega arith in y) in
    omega (arith, z, e)
segments source (w ∷ ws) p (suc i) k a s g =
    let z = segments source ws (end w) i k a.1 s.1 (fewer ws g) in
    let e = ap (place_of (length source) (w ∷ ws)) (let y : suc i + k ≡ suc (i + k) = omega arith in y) in
    omega (arith, z, e)
  where
    fewer : (vs : List Word) → Spaced (w ∷ vs) → Spaced vs
    fewer [] h = tt
    fewer (v ∷ vs) h = h.1

end_place : (e : ℕ) (ws : List Word) → place_of e ws (length ws) ≡ e
end_place e [] = refl
end_place e (w ∷ ws) = end_place e ws

pub words_take : WordsTake
words_take source =
    let o = (only_words source).are in
    let ws = words source in
    let sp = spaced source ws 0 o.apart o.stretches o.kinds in
    record {
      spaced = sp;
      takes = λ i k. segments source ws 0 i k o.apart o.stretches sp;
      takes_all =
          let z = takes source ws 0 (length ws) o.apart o.stretches sp (omega arith) in
          let y = ap least_bytes (take_all (length ws) (texts ws) (let x = texts_length ws in omega (arith, x))) in
          let u = end_place (length source) ws in
          omega (arith, z, y, u);
    }
