-- Goes one after another.
use Rattle.std.proofs.Common.{◌≡◌, ℕ, zero, suc, ◌+◌, ◌≤◌, Bool, true, false, cond, not, ltb, leb, [], ◌∷◌, Some, None, Option, sym, refl, ap, ◌∙◌, add_assoc, suc-add, zero-add, arith}
use Rattle.meaning.specs.Codes.{member}
use Rattle.tape.specs.Meaning.{at_head, at_end}
use Rattle.std.proofs.lemmas.Bool.{le-ltb}
use Rattle.meaning.specs.declared.machines.Next.{Next}
use Rattle.meaning.specs.declared.machines.Next.TheVariants.{To, Accept, Reject}
use Rattle.meaning.specs.declared.machines.Action.{Action}
use Rattle.meaning.specs.Rules.{Rules}
use Rattle.meaning.specs.Runs.{Config, Went, over, first, write_no_room, action_here, step_refusal, status_after, after, one_more, onward, refused_or, steps, go_of}
use Rattle.meaning.specs.declared.calls.Ending.{Ending}
use Rattle.meaning.specs.declared.calls.Ending.TheVariants.{Spent}
use Rattle.meaning.specs.declared.refusals.Refusal.{Refusal}
use Rattle.meaning.specs.declared.refusals.Refusal.TheVariants.{Edge, Capacity, Verdict, Number, Symbol, Total, Fuel}
use Rattle.meaning.specs.Laws.{join_pairs, Composition}

abbrev join : Went → Went → Went
join v w = join_pairs v.count v.ending w

join_one : (c : ℕ) (e : Ending) (j : Config) (w : Went) → join_pairs (1 + c) e w ≡ one_more (join_pairs c e w)
join_one c Spent j w = ap (λ n. let r : Went = record { count = n; ending = w.ending; config = w.config } in r) (add_assoc 1 c w.count)
join_one c Ending.Accepted j w = refl
join_one c Ending.Rejected j w = refl
join_one c (Ending.Refused x) j w = refl

-- where a step is refused, nothing moves
stuck : (R : Rules) (n : ℕ) (k : Config) (x : Refusal) → step_refusal R k ≡ Some x → (steps R n k).config ≡ k
stuck R zero k x e = refl
stuck R (suc n) k x e = ap (λ o. (refused_or o k (onward (action_here R k).next (after (action_here R k) k) (steps R n (after (action_here R k) k)))).config) e

-- only the configuration of the second counts
join_not : (c : ℕ) (e : Ending) (v w : Went) → (e ≡ Spent → v ≡ w) → v.config ≡ w.config → join_pairs c e v ≡ join_pairs c e w
join_not c Spent v w h p = ap (λ (u : Went). let r : Went = record { count = c + u.count; ending = u.ending; config = u.config } in r) (h refl)
join_not c Ending.Accepted v w h p = ap (λ (j : Config). let r : Went = record { count = c; ending = Ending.Accepted; config = j } in r) p
join_not c Ending.Rejected v w h p = ap (λ (j : Config). let r : Went = record { count = c; ending = Ending.Rejected; config = j } in r) p
join_not c (Ending.Refused x) v w h p = ap (λ (j : Config). let r : Went = record { count = c; ending = Ending.Refused x; config = j } in r) p

abbrev ended : ℕ → Ending → Config → Went
ended c e j = record { count = c; ending = e; config = j }

abbrev behind_verdict : Rules → Config → Bool → Option Refusal
behind_verdict R j b = cond b (Some Verdict) (first ((not (ltb j.number R.numbers), Number) ∷ (leb 1000000000 j.total, Total) ∷ (not (member (at_head j.tape) R.symbols), Symbol) ∷ (at_end j.tape (action_here R j).direction, Edge) ∷ (write_no_room j.tape (action_here R j).write, Capacity) ∷ []))

over_stuck : (R : Rules) (j : Config) → over j.status ≡ true → step_refusal R j ≡ Some Verdict
over_stuck R j o = ap (behind_verdict R j) o

-- one step and then m, joined with n more
one_step : (R : Rules) (m n : ℕ) (d : Action) (k : Config) (x : Next) → d.next ≡ x
    → steps R (m + n) (after d k) ≡ join (steps R m (after d k)) (steps R n (steps R m (after d k)).config)
    → onward x (after d k) (steps R (m + n) (after d k)) ≡ join (onward x (after d k) (steps R m (after d k))) (steps R n (onward x (after d k) (steps R m (after d k))).config)
one_step R m n d k (To r) e ih = ap one_more ih ∙ sym (join_one (steps R m (after d k)).count (steps R m (after d k)).ending k (steps R n (steps R m (after d k)).config))
one_step R m n d k Accept e ih = ap (ended 1 (Ending.Accepted)) (sym (stuck R n (after d k) Verdict (over_stuck R (after d k) (ap (λ y. over (status_after y)) e))))
one_step R m n d k Reject e ih = ap (ended 1 (Ending.Rejected)) (sym (stuck R n (after d k) Verdict (over_stuck R (after d k) (ap (λ y. over (status_after y)) e))))

-- by whether the first step is refused
by_refusal : (R : Rules) (m n : ℕ) (k : Config) (o : Option Refusal) → step_refusal R k ≡ o
    → steps R (m + n) (after (action_here R k) k) ≡ join (steps R m (after (action_here R k) k)) (steps R n (steps R m (after (action_here R k) k)).config)
    → let on : ℕ → Went = λ i. refused_or o k (onward (action_here R k).next (after (action_here R k) k) (steps R i (after (action_here R k) k))) in
    on (m + n) ≡ join (on m) (steps R n (on m).config)
by_refusal R m n k (Some x) e ih = ap (ended 0 (Ending.Refused x)) (sym (stuck R n k x e))
by_refusal R m n k None e ih = one_step R m n (action_here R k) k (action_here R k).next refl ih

steps_join : (R : Rules) (m n : ℕ) (k : Config) → steps R (m + n) k ≡ join (steps R m k) (steps R n (steps R m k).config)
steps_join R zero n k = ap (λ i. steps R i k) (zero-add n) ∙ ap (λ i. ended i (steps R n k).ending (steps R n k).config) (sym (zero-add (steps R n k).count))
steps_join R (suc m) n k = ap (λ i. steps R i k) (suc-add m n) ∙ by_refusal R m n k (step_refusal R k) refl (steps_join R m n (after (action_here R k) k))

still : (o : Option Refusal) (x : Next) (k j : Config) (w : Went) → j.status ≡ status_after x → (over j.status ≡ false → w.ending ≡ Spent → over w.config.status ≡ false)
    → (refused_or o k (onward x j w)).ending ≡ Spent → over (refused_or o k (onward x j w)).config.status ≡ false
still (Some r) x k j w s ih e = absurd cc
still None (To r) k j w s ih e = ih (ap over s) e
still None Accept k j w s ih e = absurd cc
still None Reject k j w s ih e = absurd cc

-- what is spent is still going
spent_going : (R : Rules) (m : ℕ) (k : Config) → over k.status ≡ false → (steps R m k).ending ≡ Spent → over (steps R m k).config.status ≡ false
spent_going R zero k g e = g
spent_going R (suc m) k g e =
    let j = after (action_here R k) k in
    still (step_refusal R k) (action_here R k).next k j (steps R m j) refl (spent_going R m j) e

abbrev from_verdict : Bool → Config → Went → Went
from_verdict b k w = refused_or (cond b (Some Verdict) None) k w

same_config : (R : Rules) (n : ℕ) (k : Config) (b : Bool) → over k.status ≡ b → (from_verdict b k (steps R n k)).config ≡ (steps R n k).config
same_config R n k true e = sym (stuck R n k Verdict (over_stuck R k e))
same_config R n k false e = refl

fuelled : (R : Rules) (n : ℕ) (k : Config) → n ≤ 65535 → go_of R n k ≡ from_verdict (over k.status) k (steps R n k)
fuelled R n k h = ap (λ b. refused_or (cond b (Some Fuel) (cond (over k.status) (Some Verdict) None)) k (steps R n k)) (le-ltb 65535 n h)

by_status : (R : Rules) (m n : ℕ) (k : Config) (b : Bool) → over k.status ≡ b → n ≤ 65535
    → join (from_verdict b k (steps R m k)) (go_of R n (from_verdict b k (steps R m k)).config) ≡ from_verdict b k (steps R (m + n) k)
by_status R m n k true e h = ap (ended 0 (Ending.Refused Verdict)) (ap (λ (w : Went). w.config) (fuelled R n k h) ∙ ap (λ c. (from_verdict c k (steps R n k)).config) e)
by_status R m n k false e h =
    let v = steps R m k in
    let j = v.config in
    ap (join v) (fuelled R n j h)
    ∙ join_not v.count v.ending (from_verdict (over j.status) j (steps R n j)) (steps R n j) (λ s. ap (λ c. from_verdict c j (steps R n j)) (spent_going R m k e s)) (same_config R n j (over j.status) refl)
    ∙ sym (steps_join R m n k)

pub composition : Composition
composition R m n k h =
    ap (λ v. join v (go_of R n v.config)) (fuelled R m k (omega arith))
    ∙ by_status R m n k (over k.status) refl (omega arith)
    ∙ sym (fuelled R (m + n) k h)
