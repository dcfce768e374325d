-- At most one answer is right for words.
use Rattle.std.proofs.Common.{◌≡◌, ℕ, suc, ◌<◌, ◌≤◌, ◌⊎◌, List, ◌++◌, length, take, drop, sym, ap, ◌∙◌, inl, inr, append_assoc, arith, take-append-drop, take-take}
use Rattle.std.proofs.lemmas.Bool.{cases_lt}
use Rattle.words.specs.Bytes.{Text}
use Rattle.grammar.specs.Tree.{Program}
use Rattle.grammar.specs.Render.{render}
use Rattle.grammar.specs.Automaton.{Reading, parsed, unexpected, too_deep}
use Rattle.grammar.specs.Laws.{Viable, ViableWithinLimit, IsParse, IsFault, IsTooDeep, Means, Unambiguous}

-- fewer of the words of a program
fewer : (ws rest : List Text) (i j : ℕ) → i ≤ j → (t : Program) → render t ≡ take j ws ++ rest → render t ≡ take i ws ++ (drop i (take j ws) ++ rest)
fewer ws rest i j h t e =
    let p = take-append-drop i (take j ws) in
    let q = take-take i j ws h in
    let r = append_assoc (take i ws) (drop i (take j ws)) rest in
    cc

-- what goes on after some words goes on after fewer of them
viable_fewer : (ws : List Text) (i j : ℕ) → i ≤ j → Viable (take j ws) → Viable (take i ws)
viable_fewer ws i j h (t, rest, e) = (t, drop i (take j ws) ++ rest, fewer ws rest i j h t e)

within_fewer : (ws : List Text) (i j : ℕ) → i ≤ j → ViableWithinLimit (take j ws) → ViableWithinLimit (take i ws)
within_fewer ws i j h (t, rest, e, l) = (t, drop i (take j ws) ++ rest, fewer ws rest i j h t e, l)

-- whatever goes on with no case too deep goes on
viable : (ps : List Text) → ViableWithinLimit ps → Viable ps
viable ps (t, rest, e, l) = (t, rest, e)

-- after any words of a program that is read, one with no case too deep goes on
parse_within : (ws : List Text) (t : Program) (i : ℕ) → IsParse ws t → ViableWithinLimit (take i ws)
parse_within ws t i h = (t, drop i ws, h.words ∙ sym (take-append-drop i ws), h.within_limit)

-- nothing is read beyond a fault, nor beyond a case too deep
parse_fault : (ws : List Text) (t : Program) (i : ℕ) → IsParse ws t → IsFault ws i → ⊥
parse_fault ws t i h f = go (cases_lt i (length ws))
  where
    go : (i < length ws) ⊎ (length ws ≤ i) → ⊥
    go (inl l) = f.at_word l (viable (take (suc i) ws) (parse_within ws t (suc i) h))
    go (inr l) = f.at_end (omega (arith, f.within)) (t, h.words)

parse_too_deep : (ws : List Text) (t : Program) (i : ℕ) → IsParse ws t → IsTooDeep ws i → ⊥
parse_too_deep ws t i h d = d.too_deep (parse_within ws t (suc i) h)

-- no fault comes behind a fault, nor a case too deep behind another
fault_twice : (ws : List Text) (i j : ℕ) → IsFault ws i → IsFault ws j → i < j → ⊥
fault_twice ws i j f g l = f.at_word (omega (arith, g.within)) (viable (take (suc i) ws) (within_fewer ws (suc i) j l g.before))

too_deep_twice : (ws : List Text) (i j : ℕ) → IsTooDeep ws i → IsTooDeep ws j → i < j → ⊥
too_deep_twice ws i j d g l = d.too_deep (within_fewer ws (suc i) j l g.before)

-- a fault and a case too deep exclude each other
fault_too_deep : (ws : List Text) (i j : ℕ) → IsFault ws i → IsTooDeep ws j → ⊥
fault_too_deep ws i j f d = go (cases_lt j i)
  where
    go : (j < i) ⊎ (i ≤ j) → ⊥
    go (inl l) = d.too_deep (within_fewer ws (suc j) i l f.before)
    go (inr l) = f.at_word (omega (arith, d.within)) (viable_fewer ws (suc i) (suc j) (omega arith) d.allowed)

-- a number that is neither below nor above another is the other
neither : (i j : ℕ) → ¬ (i < j) → ¬ (j < i) → i ≡ j
neither i j a b = go (cases_lt i j) (cases_lt j i)
  where
    go : (i < j) ⊎ (j ≤ i) → (j < i) ⊎ (i ≤ j) → i ≡ j
    go (inl l) m = absurd (a l)
    go (inr l) (inl m) = absurd (b m)
    go (inr l) (inr m) = omega arith

-- two answers that are right are one
pub at_most_one : Unambiguous → (ws : List Text) (r s : Reading Program) → Means ws r → Means ws s → r ≡ s
at_most_one u ws (parsed t) (parsed v) h k = ap {B = Reading Program} parsed (u t v (h.words ∙ sym k.words))
at_most_one u ws (parsed t) (unexpected j) h k = absurd (parse_fault ws t j h k)
at_most_one u ws (parsed t) (too_deep j) h k = absurd (parse_too_deep ws t j h k)
at_most_one u ws (unexpected i) (parsed v) h k = absurd (parse_fault ws v i k h)
at_most_one u ws (unexpected i) (unexpected j) h k = ap {B = Reading Program} unexpected (neither i j (fault_twice ws i j h k) (fault_twice ws j i k h))
at_most_one u ws (unexpected i) (too_deep j) h k = absurd (fault_too_deep ws i j h k)
at_most_one u ws (too_deep i) (parsed v) h k = absurd (parse_too_deep ws v i k h)
at_most_one u ws (too_deep i) (unexpected j) h k = absurd (fault_too_deep ws j i k h)
at_most_one u ws (too_deep i) (too_deep j) h k = ap {B = Reading Program} too_deep (neither i j (too_deep_twice ws i j h k) (too_deep_twice ws j i k h))
