-- The depths of cases, counted word by word.
use Rattle.std.proofs.Common.{◌≡◌, ℕ, zero, suc, ◌<◌, ◌≤◌, ◌⊎◌, List, [], ◌∷◌, ◌++◌, length, get_or, take, sym, refl, ap, ◌∙◌, subst, inl, inr, append_assoc, zero-le, not-suc-le-zero, arith}
use mathlib.Core.Path.{subst⁻¹}
use mathlib.Core.Option.{some}
use Rattle.std.proofs.lemmas.Bool.{cases_lt}
use Rattle.words.specs.Bytes.{Text}
use Rattle.grammar.specs.Tree.{Program}
use Rattle.grammar.specs.Render.{alphabet_words, render}
use Rattle.grammar.specs.Depth.{depth_limit}
use Rattle.grammar.specs.Automaton.{a_module, Transition, step, Stack, modules, await, Fill, top, after, made, start, as_program}
use Rattle.grammar.specs.Laws.{IsTooDeep}
use Rattle.grammar.specs.Openings.{zeros, module_openings, modules_openings, openings, greatest, FirstTooDeep, CountsDepth, TellsCase}
use Rattle.grammar.proofs.Items.{fill_words, fill_depth, fill_openings, stack_around}
use Rattle.grammar.proofs.Stacks.{made_words, made_openings, next_opens, next_around, rest_of, by_step, never_empty}
use Rattle.grammar.proofs.Sound.{GoesOn, TooDeep, begun, further_within, back, back_within, too_deep_later, allowed_here, too_deep_here}
use Rattle.grammar.proofs.Programs.{fill_of, as_program_of, program_words, fill_of_words, fill_of_depth, is_too_deep, too_deep_of}

-- one opening for each word, and the greatest is the depth
counted : (ws : List Text) (st : Stack) (t : Fill st) → fill_words st t ≡ ws → (length (fill_openings st t) ≡ length ws) × (greatest (fill_openings st t) ≡ fill_depth st t)
counted [] modules [] e = (refl, refl)
counted [] modules (m ∷ ms) e = absurd (never_empty a_module modules (m, ms) e)
counted [] (await i st) t e = absurd (never_empty i st t e)
counted (w ∷ ws) st t e =
    by_step st w t ws e (λ m q.
    let r = rest_of st w m q t ws e in
    let (l, g) = counted ws (after st m) r.fill r.words in
    (ap length r.openings ∙ ap suc l, ap greatest r.openings ∙ omega (arith, g, r.depth)))

-- the first opening too deep
record First (os : List ℕ) (i : ℕ) : Type 0 where
  here : get_or os i 0 ≡ suc depth_limit
  before : (j : ℕ) → j < i → get_or os j 0 ≤ depth_limit

-- behind an opening that is not too deep
first_later : (o : ℕ) (os : List ℕ) (i : ℕ) → o ≤ depth_limit → First os i → First (o ∷ os) (suc i)
first_later o os i l f = record { here = f.here; before = before }
  where
    before : (j : ℕ) → j < suc i → get_or (o ∷ os) j 0 ≤ depth_limit
    before zero h = l
    before (suc j) h = f.before j (omega arith)

-- some trees that go on after the word numbered i have their first opening too deep there
abbrev Opens : Stack → List Text → ℕ → Type 0
Opens st ws i = (t : Fill st) × (rest : List Text) × (fill_words st t ≡ take (suc i) ws ++ rest) × First (fill_openings st t) i

-- the first word
opens_here : (st : Stack) (w : Text) (ws : List Text) (m : Transition (top st)) → step (top st) w ≡ some m → stack_around st ≤ depth_limit → TooDeep st (w ∷ ws) 0 → Opens st (w ∷ ws) 0
opens_here st w ws m q a d = go (cases_lt depth_limit m.opens) (allowed_here st w m q)
  where
    go : (depth_limit < m.opens) ⊎ (m.opens ≤ depth_limit) → GoesOn st (w ∷ []) → Opens st (w ∷ ws) 0
    go (inr l) g = absurd (d.too_deep (further_within st w m q l [] (begun (after st m))))
    go (inl l) (t, rest, p) =
        let here : m.opens ≡ suc depth_limit = omega (arith, next_opens st w m q) in
        (t, rest, p, subst⁻¹ (λ (os : List ℕ). First os 0) (rest_of st w m q t rest p).openings (record { here = here; before = λ j h. absurd (not-suc-le-zero h) }))

-- the word of the first case too deep has the first opening too deep
opens : (ws : List Text) (st : Stack) (i : ℕ) → stack_around st ≤ depth_limit → TooDeep st ws i → Opens st ws i
opens [] st i a d = absurd (not-suc-le-zero d.within)
opens (w ∷ ws) st zero a d =
    let (t, rest, p) = d.allowed in
    by_step st w t rest p (λ m q. opens_here st w ws m q a d)
opens (w ∷ ws) st (suc k) a d =
    let (t, rest, p) = d.allowed in
    by_step st w t (take (suc k) ws ++ rest) p (λ m q.
    let (l, b) = back_within st w m q (take k ws) d.before in
    let inner : TooDeep (after st m) ws k = record { within = omega (arith, d.within); before = b; allowed = back st w m q (take (suc k) ws) d.allowed; too_deep = λ g. d.too_deep (further_within st w m q l (take (suc k) ws) g) } in
    let (u, rest', p', f) = opens ws (after st m) k (omega (arith, next_around st w m q)) inner in
    (made st m u, rest', made_words st w m q u ∙ ap (λ (r : List Text). w ∷ r) p', subst⁻¹ (λ (os : List ℕ). First os (suc k)) (made_openings st w m q u) (first_later m.opens (fill_openings (after st m) u) k l f)))

-- and the other way round
too_deep_at : (ws : List Text) (st : Stack) (i : ℕ) → i < length ws → Opens st ws i → TooDeep st ws i
too_deep_at [] st i l o = absurd (not-suc-le-zero l)
too_deep_at (w ∷ ws) st zero l (t, rest, e, f) =
    by_step st w t rest e (λ m q.
    let g = subst (λ (os : List ℕ). First os 0) (rest_of st w m q t rest e).openings f in
    too_deep_here st w ws m q (omega (arith, g.here)))
too_deep_at (w ∷ ws) st (suc k) l (t, rest, e, f) =
    by_step st w t (take (suc k) ws ++ rest) e (λ m q.
    let r = rest_of st w m q t (take (suc k) ws ++ rest) e in
    let g = subst (λ (os : List ℕ). First os (suc k)) r.openings f in
    let inner = too_deep_at ws (after st m) k (omega arith) (r.fill, rest, r.words, record { here = g.here; before = λ j h. g.before (suc j) (omega arith) }) in
    too_deep_later st w ws m q (g.before 0 (omega arith)) k inner)

-- of programs
program_openings : (t : Fill start) → openings (as_program t) ≡ fill_openings start t
program_openings t = append_assoc (zeros (alphabet_words t.0)) (module_openings t.1.0) (modules_openings t.1.1)

fill_of_openings : (t : Program) → fill_openings start (fill_of t) ≡ openings t
fill_of_openings t = sym (program_openings (fill_of t)) ∙ ap openings (as_program_of t)

-- the theorems
pub counts_depth : CountsDepth
counts_depth t =
    let (l, g) = counted (render t) start (fill_of t) (fill_of_words t) in
    record { one_each = ap length (sym (fill_of_openings t)) ∙ l; deepest = ap greatest (sym (fill_of_openings t)) ∙ g ∙ fill_of_depth t }

pub tells_case : TellsCase
tells_case ws i = (there, back)
  where
    there : IsTooDeep ws i → (i < length ws) × (t : Program) × (rest : List Text) × (render t ≡ take (suc i) ws ++ rest) × FirstTooDeep t i
    there d =
        let (t, rest, p, f) = opens ws start i zero-le (too_deep_of ws i d) in
        let g = subst⁻¹ (λ (os : List ℕ). First os i) (program_openings t) f in
        (d.within, as_program t, rest, program_words t ∙ p, record { here = g.here; before = g.before })

    back : (i < length ws) × (t : Program) × (rest : List Text) × (render t ≡ take (suc i) ws ++ rest) × FirstTooDeep t i → IsTooDeep ws i
    back (l, t, rest, p, f) =
        let g : First (openings t) i = record { here = f.here; before = f.before } in
        is_too_deep ws i (too_deep_at ws start i l (fill_of t, rest, fill_of_words t ∙ p, subst⁻¹ (λ (os : List ℕ). First os i) (fill_of_openings t) g))
