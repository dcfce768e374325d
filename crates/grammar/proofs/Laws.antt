-- The reader gives exactly the right answers.
use Rattle.std.proofs.Common.{◌≡◌, ℕ, zero, suc, ◌+◌, ◌≤◌, ◌↔◌, List, [], ◌∷◌, length, sym, refl, ap, ◌∙◌, subst, arith}
use Rattle.words.specs.Bytes.{Text}
use Rattle.grammar.specs.Tree.{Program}
use Rattle.grammar.specs.Render.{render}
use Rattle.grammar.specs.Automaton.{Reading, parsed, unexpected, too_deep, numbered, parse}
use Rattle.grammar.specs.Places.{texts, place_of}
use Rattle.grammar.specs.Laws.{IsParse, IsFault, IsTooDeep, Means, ReadsPrograms, FindsFaults, FindsDepth, OneAnswer, ReadsBack}
use Rattle.grammar.proofs.Programs.{MeansAt, parse_at_means, unambiguous}
use Rattle.grammar.proofs.Answers.{at_most_one}

-- words with their numbers for places
numbered_texts : (ws : List Text) (n : ℕ) → texts (numbered n ws) ≡ ws
numbered_texts [] n = refl
numbered_texts (w ∷ ws) n = ap (λ (r : List Text). w ∷ r) (numbered_texts ws (suc n))

numbered_place : (ws : List Text) (e n i : ℕ) → n + length ws ≡ e → i ≤ length ws → place_of e (numbered n ws) i ≡ n + i
numbered_place [] e n i h l = omega arith
numbered_place (w ∷ ws) e n zero h l = omega arith
numbered_place (w ∷ ws) e n (suc i) h l = numbered_place ws e (suc n) i (omega arith) (omega arith) ∙ omega arith

-- an answer that is right for words with numbers is right for the words
numbered_means : (ws : List Text) (r : Reading Program) → MeansAt (length ws) (numbered 0 ws) r → Means ws r
numbered_means ws (parsed t) h = subst (λ (v : List Text). IsParse v t) (numbered_texts ws 0) h
numbered_means ws (unexpected p) (i, f, h) =
    let g = subst (λ (v : List Text). IsFault v i) (numbered_texts ws 0) f in
    let k = numbered_place ws (length ws) 0 i (omega arith) g.within in
    let same : i ≡ p = omega arith in
    subst (IsFault ws) same g
numbered_means ws (too_deep p) (i, d, h) =
    let g = subst (λ (v : List Text). IsTooDeep v i) (numbered_texts ws 0) d in
    let k = numbered_place ws (length ws) 0 i (omega arith) (omega (arith, g.within)) in
    let same : i ≡ p = omega arith in
    subst (IsTooDeep ws) same g

-- the answer that is given is right
parse_means : (ws : List Text) → Means ws (parse ws)
parse_means ws = numbered_means ws (parse ws) (parse_at_means (length ws) (numbered 0 ws))

-- an answer is given exactly when it is right
pub exact : (ws : List Text) (r : Reading Program) → (parse ws ≡ r) ↔ Means ws r
exact ws r = (λ e. subst (Means ws) e (parse_means ws), λ h. at_most_one unambiguous ws (parse ws) r (parse_means ws) h)

-- the laws
pub reads_programs : ReadsPrograms
reads_programs ws t = exact ws (parsed t)

pub finds_faults : FindsFaults
finds_faults ws i = exact ws (unexpected i)

pub finds_depth : FindsDepth
finds_depth ws i = exact ws (too_deep i)

pub one_answer : OneAnswer
one_answer ws = (parse ws, parse_means ws, λ s h. sym ((exact ws s).1 h))

pub reads_back : ReadsBack
reads_back t l = (exact (render t) (parsed t)).1 (record { words = refl; within_limit = l })
