-- A transition takes the first word off the words of the stack's trees.
use Rattle.std.proofs.Common.{◌≡◌, ℕ, suc, ◌≤◌, max, List, [], ◌∷◌, ◌++◌, sym, refl, ap, ◌∙◌, subst, append_assoc, arith}
use mathlib.Core.Option.{Option, none, some}
use Rattle.words.specs.Bytes.{Text}
use Rattle.grammar.specs.Automaton.{Item, Tree, Trees, Transition, step, Stack, modules, await, Fill, push, fronts, behind, top, below, join, after, made}
use Rattle.grammar.proofs.Items.{item_words, trees_words, fill_words, item_depth, trees_depth, fill_depth, item_openings, trees_openings, fill_openings, item_around, items_around, stack_around}
use Rattle.grammar.proofs.Edges.{step_begins}
use Rattle.grammar.proofs.Entries.{entry}

-- the trees of a stack, by those of the items on top and those below
pack : (is : List Item) (st : Stack) → Trees is → Fill st → Fill (push is st)
pack [] st t f = f
pack (i ∷ is) st t f = (t.0, pack is st t.1 f)

-- both come out of it again
fronts_pack : (is : List Item) (st : Stack) (t : Trees is) (f : Fill st) → fronts is st (pack is st t f) ≡ t
unfolding pack
fronts_pack [] st t f = refl
fronts_pack (i ∷ is) st t f = λ j. (t.0, fronts_pack is st t.1 f j)

behind_pack : (is : List Item) (st : Stack) (t : Trees is) (f : Fill st) → behind is st (pack is st t f) ≡ f
unfolding pack
behind_pack [] st t f = refl
behind_pack (i ∷ is) st t f = behind_pack is st t.1 f

-- what pushed items and the stack below make up
push_words : (is : List Item) (st : Stack) (t : Fill (push is st)) → fill_words (push is st) t ≡ trees_words is (fronts is st t) ++ fill_words st (behind is st t)
push_words [] st t = refl
push_words (i ∷ is) st t = ap (λ (r : List Text). item_words i t.0 ++ r) (push_words is st t.1) ∙ simp append_assoc

push_depth : (is : List Item) (st : Stack) (t : Fill (push is st)) → fill_depth (push is st) t ≡ max (trees_depth is (fronts is st t)) (fill_depth st (behind is st t))
push_depth [] st t = omega arith
push_depth (i ∷ is) st t = let h = push_depth is st t.1 in omega arith

push_openings : (is : List Item) (st : Stack) (t : Fill (push is st)) → fill_openings (push is st) t ≡ trees_openings is (fronts is st t) ++ fill_openings st (behind is st t)
push_openings [] st t = refl
push_openings (i ∷ is) st t = ap (λ (r : List ℕ). item_openings i t.0 ++ r) (push_openings is st t.1) ∙ simp append_assoc

push_around : (is : List Item) (st : Stack) → stack_around (push is st) ≡ max (items_around is) (stack_around st)
push_around [] st = omega arith
push_around (i ∷ is) st = let h = push_around is st in omega arith

-- what the top item and the stack below make up
join_words : (st : Stack) (t : Tree (top st)) (f : Fill (below st)) → fill_words st (join st t f) ≡ item_words (top st) t ++ fill_words (below st) f
join_words modules t f = refl
join_words (await i st) t f = refl

join_depth : (st : Stack) (t : Tree (top st)) (f : Fill (below st)) → fill_depth st (join st t f) ≡ max (item_depth (top st) t) (fill_depth (below st) f)
join_depth modules t f = refl
join_depth (await i st) t f = refl

join_openings : (st : Stack) (t : Tree (top st)) (f : Fill (below st)) → fill_openings st (join st t f) ≡ item_openings (top st) t ++ fill_openings (below st) f
join_openings modules t f = refl
join_openings (await i st) t f = refl

join_around : (st : Stack) → stack_around st ≡ max (item_around (top st)) (stack_around (below st))
join_around modules = refl
join_around (await i st) = refl

-- what a transition makes begins with its word
pub made_words : (st : Stack) (w : Text) (m : Transition (top st)) → step (top st) w ≡ some m → (u : Fill (after st m)) → fill_words st (made st m u) ≡ w ∷ fill_words (after st m) u
made_words st w m e u =
    let is = m.awaits in
    let f = fronts is (below st) u in
    let k = fill_words (below st) (behind is (below st) u) in
    join_words st (m.make f) (behind is (below st) u) ∙ ap (λ (r : List Text). r ++ k) ((step_begins (top st) w m e).words f) ∙ ap (λ (r : List Text). w ∷ r) (sym (push_words is (below st) u))

-- and is as deep as the case that the word begins, or as what comes then
pub made_depth : (st : Stack) (w : Text) (m : Transition (top st)) → step (top st) w ≡ some m → (u : Fill (after st m)) → fill_depth st (made st m u) ≡ max m.opens (fill_depth (after st m) u)
made_depth st w m e u =
    let is = m.awaits in
    let f = fronts is (below st) u in
    let a = join_depth st (m.make f) (behind is (below st) u) in
    let b = (step_begins (top st) w m e).depth f in
    let c = push_depth is (below st) u in
    omega arith

-- its first opening is that of the word
pub made_openings : (st : Stack) (w : Text) (m : Transition (top st)) → step (top st) w ≡ some m → (u : Fill (after st m)) → fill_openings st (made st m u) ≡ m.opens ∷ fill_openings (after st m) u
made_openings st w m e u =
    let is = m.awaits in
    let f = fronts is (below st) u in
    let k = fill_openings (below st) (behind is (below st) u) in
    join_openings st (m.make f) (behind is (below st) u) ∙ ap (λ (r : List ℕ). r ++ k) ((step_begins (top st) w m e).openings f) ∙ ap (λ (r : List ℕ). m.opens ∷ r) (sym (push_openings is (below st) u))

-- a word begins a case at most one deeper than those around
pub next_opens : (st : Stack) (w : Text) (m : Transition (top st)) → step (top st) w ≡ some m → m.opens ≤ suc (stack_around st)
next_opens st w m e = omega (arith, (step_begins (top st) w m e).next, join_around st)

-- and what is awaited then stands in no more than that
pub next_around : (st : Stack) (w : Text) (m : Transition (top st)) → step (top st) w ≡ some m → stack_around (after st m) ≤ max (stack_around st) m.opens
next_around st w m e = omega (arith, (step_begins (top st) w m e).around, join_around st, push_around m.awaits (below st))

-- the first word of a tree is that of its entry
entry_words : (i : Item) (t : Tree i) → item_words i t ≡ (entry i t).first ∷ trees_words (entry i t).by.awaits (entry i t).inner
entry_words i t = let n = entry i t in ap (item_words i) (sym n.makes) ∙ (step_begins i n.first n.by n.stepped).words n.inner

-- trees whose words begin with a word are made by that word's transition
abbrev MadeBy : (st : Stack) → Fill st → Option (Transition (top st)) → Type 0
MadeBy st t none = ⊥
MadeBy st t (some m) = (u : Fill (after st m)) × (made st m u ≡ t)

joined_made : (st : Stack) (t : Tree (top st)) (f : Fill (below st)) (w : Text) (ws : List Text) → item_words (top st) t ++ fill_words (below st) f ≡ w ∷ ws → MadeBy st (join st t f) (step (top st) w)
joined_made st t f w ws e =
    let n = entry (top st) t in
    let is = n.by.awaits in
    let p = ap (λ (r : List Text). r ++ fill_words (below st) f) (entry_words (top st) t) in
    let first : n.first ≡ w = cc in
    let stepped : some n.by ≡ step (top st) w = sym n.stepped ∙ ap (step (top st)) first in
    let whole : n.by.make (fronts is (below st) (pack is (below st) n.inner f)) ≡ t = ap n.by.make (fronts_pack is (below st) n.inner f) ∙ n.makes in
    let left : behind is (below st) (pack is (below st) n.inner f) ≡ f = behind_pack is (below st) n.inner f in
    subst (MadeBy st (join st t f)) stepped (pack is (below st) n.inner f, λ j. join st (whole j) (left j))

made_by : (st : Stack) (t : Fill st) (w : Text) (ws : List Text) → fill_words st t ≡ w ∷ ws → MadeBy st t (step (top st) w)
made_by modules [] w ws e = absurd (let z : ◌≡◌ {A = ℕ} 0 1 = cc in omega arith)
made_by modules (m ∷ ms) w ws e = joined_made modules m ms w ws e
made_by (await i st) t w ws e = joined_made (await i st) t.0 t.1 w ws e

-- where a word may not come, no trees begin with it
pub refused : (st : Stack) (w : Text) → step (top st) w ≡ none → (t : Fill st) (ws : List Text) → fill_words st t ≡ w ∷ ws → ⊥
refused st w q t ws e = subst (MadeBy st t) q (made_by st t w ws e)

-- where it may, the trees that begin with it are made by its transition
pub taken : (st : Stack) (w : Text) (m : Transition (top st)) → step (top st) w ≡ some m → (t : Fill st) (ws : List Text) → fill_words st t ≡ w ∷ ws → (u : Fill (after st m)) × (made st m u ≡ t)
taken st w m q t ws e = subst (MadeBy st t) q (made_by st t w ws e)

-- what such trees hold then
pub record Rest (st : Stack) (m : Transition (top st)) (t : Fill st) (ws : List Text) : Type 0 where
  pub fill : Fill (after st m)
  pub words : fill_words (after st m) fill ≡ ws
  pub depth : fill_depth st t ≡ max m.opens (fill_depth (after st m) fill)
  pub openings : fill_openings st t ≡ m.opens ∷ fill_openings (after st m) fill

-- where a word may come, this holds of the trees that begin with it
pub rest_of : (st : Stack) (w : Text) (m : Transition (top st)) → step (top st) w ≡ some m → (t : Fill st) (ws : List Text) → fill_words st t ≡ w ∷ ws → Rest st m t ws
rest_of st w m q t ws e =
    let (u, p) = taken st w m q t ws e in
    let a = made_words st w m q u in
    let b = ap (fill_words st) p in
    record { fill = u; words = cc; depth = ap (fill_depth st) (sym p) ∙ made_depth st w m q u; openings = ap (fill_openings st) (sym p) ∙ made_openings st w m q u }

-- trees that begin with a word, by its transition
pub by_step : {P : Type 0} (st : Stack) (w : Text) (t : Fill st) (ws : List Text) → fill_words st t ≡ w ∷ ws → ((m : Transition (top st)) → step (top st) w ≡ some m → P) → P
by_step {P} st w t ws e f = go (step (top st) w) refl
  where
    go : (o : Option (Transition (top st))) → step (top st) w ≡ o → P
    go none q = absurd (refused st w q t ws e)
    go (some m) q = f m q

-- what is awaited has a word
pub never_empty : (i : Item) (st : Stack) (t : Fill (await i st)) → fill_words (await i st) t ≡ [] → ⊥
never_empty i st t e =
    let p = ap (λ (r : List Text). r ++ fill_words st t.1) (entry_words i t.0) in
    let z : ◌≡◌ {A = ℕ} 0 1 = cc in
    omega arith
