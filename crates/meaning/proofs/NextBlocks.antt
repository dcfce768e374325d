-- A basic block without flow leads to the block right behind it.
use Rattle.std.proofs.Common.{◌≡◌, ℕ, ◌+◌, ◌-◌, ◌<◌, ◌≤◌, Bool, true, false, cond, ltb, [], ◌∷◌, ◌++◌, length, refl, ap, ◌∙◌, subst, arith, length-append}
use mathlib.Core.Option.{none, some}
use Rattle.std.proofs.lemmas.Bool.{ltb-true, ltb-false}
use Rattle.grammar.specs.Tree.{Body, act_cases, acts_flow, Case, if, while, Cases, no_more, more, Program}
use Rattle.grammar.specs.Render.{render, act_words, acts_words, flow_words, symbols_words, braced, body_words, case_words, cases_words}
use Rattle.meaning.specs.declared.machines.Next.{Next}
use Rattle.meaning.specs.declared.machines.Next.TheVariants.{To, Accept, Reject}
use Rattle.meaning.specs.Codes.{member}
use Rattle.meaning.specs.Blocks.{Part, ending, part_length, case_codes, blocks, compiled}
use Rattle.meaning.specs.Rules.{by_blocks}
use Rattle.meaning.specs.Endless.{After, at, rejects, SameAfter}
use Rattle.meaning.specs.TuringMachine.{state_after}
use Rattle.meaning.specs.Language.{Behind, of_case, Point, point, body_start, rest_after, flow_after, first_step, case_step, switch_step, point_step}
use Rattle.meaning.specs.Points.{points, words_behind, words_from, index_at, Numbered}
use Rattle.meaning.specs.NextBlock.{block, first_executed, case_executed, switch_executed, executed, NextBlocks}
use Rattle.meaning.proofs.Order.{parts_filled, braced_length, numbers_in_order}
use Rattle.meaning.proofs.Only.{nth_below, ordered_less}
use Rattle.meaning.proofs.Numbered.{numbers_are_points}

flow_none : (t : Program) (p : Part) (x : After Point) → p.flow ≡ none → flow_after t p.flow x ≡ x
flow_none t p x e = ap (λ f. flow_after t f x) e

module _ (t : Program) (p : Part) (rest : Point) (plain : p.flow ≡ none) where
  first_after : (s : Point) → first_executed s ≡ block p rest → (first_step t s).after ≡ rest_after rest
  first_after (point [] cs out) e =
      let r : point [] cs out ≡ rest = cc in ap rest_after r
  first_after (point (o ∷ ps) cs out) e =
      let r : point ps cs out ≡ rest = cc in
      let q : o ≡ p = cc in
      flow_none t o (rest_after (point ps cs out)) (ap (λ (x : Part). x.flow) q ∙ plain) ∙ ap rest_after r

  case_after : (here : Point) (k : Case) (out : Behind) → case_executed k out ≡ block p rest → (case_step t here k out).after ≡ rest_after rest
  case_after here (if ss b) out e = first_after (body_start b out) e
  case_after here (while ss o) out e = absurd cc

  switch_after : (here : Point) (cs : Cases) (out : Behind) (c : ℕ) → switch_executed cs out c ≡ block p rest → (switch_step t here cs out c).after ≡ rest_after rest
  switch_after here no_more out c e = absurd cc
  switch_after here (more k ks) out c e = by (member c (case_codes k)) e (switch_after here ks out c)
    where
      by : (v : Bool) → cond v (case_executed k (of_case ks out)) (switch_executed ks out c) ≡ block p rest → (switch_executed ks out c ≡ block p rest → (switch_step t here ks out c).after ≡ rest_after rest)
          → (cond v (case_step t here k (of_case ks out)) (switch_step t here ks out c)).after ≡ rest_after rest
      by true f ih = case_after here k (of_case ks out) f
      by false f ih = ih f

  point_after : (s : Point) (c : ℕ) → executed s c ≡ block p rest → (point_step t s c).after ≡ rest_after rest
  point_after (point (o ∷ ps) cs out) c e = first_after (point (o ∷ ps) cs out) e
  point_after (point [] cs out) c e = switch_after (point [] cs out) cs out c e

-- the words of an executed block and its rest are among those from its point on
module _ (p : Part) (rest : Point) where
  abbrev AmongWords : ℕ → Type 0
  AmongWords n = part_length p + words_from rest ≤ n

  first_words : (s : Point) → first_executed s ≡ block p rest → AmongWords (words_from s)
  first_words (point [] cs out) e =
      let r : point [] cs out ≡ rest = cc in
      let q : ending none ≡ p = cc in
      subst (λ (o : Part). part_length o + words_from rest ≤ words_from (point [] cs out)) q
      (subst (λ (s : Point). 0 + words_from s ≤ words_from (point [] cs out)) r (omega arith))
  first_words (point (o ∷ ps) cs out) e =
      let r : point ps cs out ≡ rest = cc in
      let q : o ≡ p = cc in
      subst (λ (x : Part). part_length x + words_from rest ≤ words_from (point (o ∷ ps) cs out)) q
      (subst (λ (s : Point). part_length o + words_from s ≤ words_from (point (o ∷ ps) cs out)) r (omega arith))

  body_from : (b : Body) (out : Behind) → words_from (body_start b out) ≡ length (body_words b) + words_behind out
  body_from (act_cases a xs cs) out =
      let f = (parts_filled (a ∷ xs) none).1 in
      let l = length-append (act_words a) (acts_words xs) in
      let m = length-append (act_words a ++ acts_words xs) (cases_words cs) in
      omega arith
  body_from (acts_flow xs f) out =
      let g = (parts_filled xs (some f)).1 in
      let l = length-append (acts_words xs) (flow_words f) in
      omega arith

  case_words_of : (k : Case) (out : Behind) → case_executed k out ≡ block p rest → part_length p + words_from rest + 1 ≤ length (case_words k) + words_behind out
  case_words_of (if ss b) out e =
      let w = first_words (body_start b out) e in
      let f = body_from b out in
      let l = length-append (symbols_words ss) (braced (body_words b)) in
      let m = braced_length (body_words b) in
      omega arith
  case_words_of (while ss o) out e = absurd cc

  switch_words : (cs : Cases) (out : Behind) (c : ℕ) → switch_executed cs out c ≡ block p rest → AmongWords (length (cases_words cs) + words_behind out)
  switch_words no_more out c e = absurd cc
  switch_words (more k ks) out c e = by (member c (case_codes k)) e (switch_words ks out c)
    where
      by : (v : Bool) → cond v (case_executed k (of_case ks out)) (switch_executed ks out c) ≡ block p rest → (switch_executed ks out c ≡ block p rest → AmongWords (length (cases_words ks) + words_behind out))
          → AmongWords (length (cases_words (more k ks)) + words_behind out)
      by true f ih = let w = case_words_of k (of_case ks out) f in let l = length-append (case_words k) (cases_words ks) in omega arith
      by false f ih = let w = ih f in let l = length-append (case_words k) (cases_words ks) in omega arith

  point_words : (s : Point) (c : ℕ) → executed s c ≡ block p rest → AmongWords (words_from s)
  point_words (point (o ∷ ps) cs out) c e = first_words (point (o ∷ ps) cs out) e
  point_words (point [] cs out) c e = let w = switch_words cs out c e in omega arith

leads_to : (t : Program) (x : Next) (y : After Point) (s : Point) → SameAfter (Numbered t) (state_after x) y → y ≡ at s → (r : ℕ) × (x ≡ To r) × Numbered t r s
leads_to t x y s h e = by x (subst (λ (z : After Point). SameAfter (Numbered t) (state_after x) z) e h)
  where
    by : (x : Next) → SameAfter (Numbered t) (state_after x) (at s) → (r : ℕ) × (x ≡ To r) × Numbered t r s
    by (To r) k = (r, refl, k)
    by Accept k = absurd k
    by Reject k = absurd k

leads_out : (t : Program) (x : Next) (y : After Point) → SameAfter (Numbered t) (state_after x) y → y ≡ rejects → x ≡ Reject
leads_out t x y h e = by x (subst (λ (z : After Point). SameAfter (Numbered t) (state_after x) z) e h)
  where
    by : (x : Next) → SameAfter (Numbered t) (state_after x) rejects → x ≡ Reject
    by (To r) k = absurd k
    by Accept k = absurd k
    by Reject k = refl

-- no block before r begins as late as r does
first_of : (t : Program) (r n : ℕ) → r < length (blocks t) → n < length (blocks t) → index_at (blocks t) r ≤ index_at (blocks t) n → r ≤ n
first_of t r n l m h = by (ltb n r) refl
  where
    by : (v : Bool) → ltb n r ≡ v → r ≤ n
    by true e = let z = ordered_less 0 (length (render t)) (blocks t) n r (numbers_in_order t) (ltb-true n r e) l in absurd (omega arith)
    by false e = ltb-false n r e

pub next_blocks : NextBlocks
next_blocks t clean q c s p rest h e plain =
    let P = numbers_are_points t clean in
    let w = point_words p rest s c e in
    let i = index_at (blocks t) q in
    let j = P.index q s h in
    let after_is = point_after t p rest plain s c e in
    let same = (P.same q c s h).next in
    let b = i + (words_from s - (part_length p + words_from rest)) in
    let word_sum : b + part_length p + words_from rest ≡ length (render t) = omega arith in
    record {
      begins = b;
      inside = omega arith;
      words = word_sum;
      next = λ on.
          let g = leads_to t ((by_blocks (compiled t)).action q c).next (point_step t s c).after rest same (after_is ∙ on) in
          let l : g.0 < length (blocks t) = let z = nth_below (points t) g.0 rest g.2 in let y = P.as_many in omega arith in
          let at_rest : index_at (blocks t) g.0 + words_from rest ≡ length (render t) = P.index g.0 rest g.2 in
          let here : index_at (blocks t) g.0 ≡ b + part_length p = omega arith in
          (g.0, g.1, g.2, record { within = l; index = here; first = λ n m k. first_of t g.0 n l m (omega arith) });
      end = λ off. leads_out t ((by_blocks (compiled t)).action q c).next (point_step t s c).after same (after_is ∙ off);
    }
