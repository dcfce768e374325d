-- Runs follow execution on tapes without ends.
use Rattle.std.proofs.Common.{◌≡◌, ℕ, zero, suc, ◌+◌, ◌<◌, Bool, true, false, cond, eqb, ltb, List, length, get_or, set, ℤ, pos, negsuc, ◌+ℤ◌, ◌-ℤ◌, Some, None, Ok, Err, Option, Result, sym, refl, ap, ◌∙◌, subst, arith, length-set, get_or-set_other, get_or-set_same}
use Rattle.std.proofs.lemmas.Int.{ints}
use Rattle.std.proofs.lemmas.Bool.{eqb-true, eqb-false, eq-eqb, leb-false, ltb-true, lt-ltb, false≢true, true≢false}
use Rattle.tape.specs.declared.kinds.Direction.{Direction}
use Rattle.tape.specs.declared.kinds.Direction.TheVariants.{Left, Right}
use Rattle.tape.specs.declared.kinds.TapeRefusal.{TapeRefusal}
use Rattle.meaning.specs.declared.calls.Call.{Call}
use Rattle.meaning.specs.declared.calls.Answer.TheVariants.{Stepped}
use Rattle.tape.specs.Meaning.{Meaning, reached, code_in, at_head, at_end, looked, written, moved, unless_refused, put_answer, shift_answer}
use Rattle.meaning.specs.declared.machines.Next.{Next}
use Rattle.meaning.specs.declared.machines.Next.TheVariants.{To, Accept, Reject}
use Rattle.meaning.specs.declared.refusals.Refusal.{Refusal}
use Rattle.meaning.specs.Blocks.{compiled}
use Rattle.meaning.specs.Rules.{Rules, by_blocks, entry, by_table}
use Rattle.meaning.specs.declared.calls.Status.{Status}
use Rattle.meaning.specs.declared.calls.Status.TheVariants.{Going, Accepted, Rejected}
use Rattle.meaning.specs.Runs.{Config, over, write_after, action_here, step_refusal, number_after, status_after, after, Went, unless, onward, refused_or, steps, go_refusal, go_of, with_tape, call}
use Rattle.meaning.specs.Endless.{After, at, accepts, rejects, Step, Moment, same_index, next_tape, next_index, stepped, advance, execute_by, marked, nudged, SameAfter}
use Rattle.meaning.specs.Language.{point_step, first_point}
use Rattle.meaning.specs.TuringMachine.{state_after, transition}
use Rattle.meaning.specs.Points.{SameStep, Numbered}
use Rattle.meaning.specs.Follows.{standing, Agrees, Unrefused, Follows, RunsFollow, BlocksFollow, TablesFollow}
use Rattle.meaning.specs.Codes.{or_blank}
use Rattle.meaning.proofs.Keeps.{passed, end_written, some_none}
use Rattle.meaning.proofs.Numbered.{numbers_are_points}

-- integers
same_true : (a b : ℤ) → a ≡ b → same_index a b ≡ true
same_true a b e = subst (λ (z : ℤ). same_index a z ≡ true) e (own a)
  where
    own : (a : ℤ) → same_index a a ≡ true
    own (pos n) = eq-eqb n n refl
    own (negsuc n) = eq-eqb n n refl

pub same_eq : (a b : ℤ) → same_index a b ≡ true → a ≡ b
same_eq (pos a) (pos b) e = ap pos (eqb-true a b e)
same_eq (pos a) (negsuc b) e = absurd (false≢true e)
same_eq (negsuc a) (pos b) e = absurd (false≢true e)
same_eq (negsuc a) (negsuc b) e = ap negsuc (eqb-true a b e)

same_along : (o i : ℤ) (x h : ℕ) → i ≡ o +ℤ pos h → same_index (o +ℤ pos x) i ≡ eqb x h
same_along o i x h e = by (eqb x h) refl
  where
    no_way : (v : Bool) → same_index (o +ℤ pos x) i ≡ v → (x ≡ h → ⊥) → v ≡ false
    no_way true s n = absurd (n (let z : o +ℤ pos x ≡ i = same_eq (o +ℤ pos x) i s in omega (arith, ints)))
    no_way false s n = refl

    by : (v : Bool) → eqb x h ≡ v → same_index (o +ℤ pos x) i ≡ v
    by true q = same_true (o +ℤ pos x) i (let z : x ≡ h = eqb-true x h q in omega (arith, ints))
    by false q = no_way (same_index (o +ℤ pos x) i) refl (eqb-false x h q)

-- the run's cells are the endless tape's from o on
abbrev Cells : ℤ → (ℤ → ℕ) → List ℕ → Type 0
Cells o T cs = (x : ℕ) → x < length cs → T (o +ℤ pos x) ≡ get_or cs x 0

record Along (o : ℤ) (t : Meaning) (T : ℤ → ℕ) (i : ℤ) : Type 0 where
  here : t.head < length t.cells
  cells : Cells o T t.cells
  index : i ≡ o +ℤ pos t.head

along_written : (o : ℤ) (t : Meaning) (T : ℤ → ℕ) (i : ℤ) (w : Option ℕ) → Along o t T i → Along o (write_after t w) (next_tape T i w) i
along_written o t T i None a = a
along_written o t T i (Some c) a = record { here = let z = a.here in let l = length-set t.cells t.head c in omega arith; cells = each; index = a.index }
  where
    by : (x : ℕ) → x < length t.cells → (v : Bool) → eqb x t.head ≡ v → cond v c (T (o +ℤ pos x)) ≡ get_or (set t.cells t.head c) x 0
    by x l true e = sym (ap (λ y. get_or (set t.cells t.head c) y 0) (eqb-true x t.head e) ∙ get_or-set_same t.cells t.head c 0 a.here)
    by x l false e = a.cells x l ∙ sym (get_or-set_other t.cells t.head x c 0 (eqb-false x t.head e))

    each : Cells o (next_tape T i (Some c)) (set t.cells t.head c)
    each x l = ap (λ v. cond v c (T (o +ℤ pos x))) (same_along o i x t.head a.index) ∙ by x (let m = length-set t.cells t.head c in omega arith) (eqb x t.head) refl

along_moved : (o : ℤ) (t : Meaning) (T : ℤ → ℕ) (i : ℤ) (d : Direction) → at_end t d ≡ false → Along o t T i → Along o (moved t d) T (next_index i d)
along_moved o t T i Left e a =
    let n : t.head ≡ 0 → ⊥ = eqb-false t.head 0 e in
    let h = a.here in
    let x = a.index in
    record { here = omega arith; cells = a.cells; index = omega (arith, ints) }
along_moved o t T i Right e a =
    let n = leb-false (length t.cells) (t.head + 1) e in
    let x = a.index in
    record { here = omega arith; cells = a.cells; index = omega (arith, ints) }

head_read : (o : ℤ) (t : Meaning) (T : ℤ → ℕ) (i : ℤ) → Along o t T i → T i ≡ at_head t
head_read o t T i a = ap T a.index ∙ a.cells t.head a.here

-- there and back
abbrev cell : List ℕ → ℤ → Option ℕ
cell cs z = code_in cs (reached (length cs) z)

cell_at : (cs : List ℕ) (x : ℕ) → x < length cs → cell cs (pos x) ≡ Some (get_or cs x 0)
cell_at cs x l = ap (λ v. code_in cs (cond v (Some x) None)) (lt-ltb x (length cs) l)

cell_is : (cs : List ℕ) (z : ℤ) (c : ℕ) → cell cs z ≡ Some c → (x : ℕ) × (z ≡ pos x) × (x < length cs) × (get_or cs x 0 ≡ c)
cell_is cs (pos x) c e = by (ltb x (length cs)) refl e
  where
    by : (v : Bool) → ltb x (length cs) ≡ v → code_in cs (cond v (Some x) None) ≡ Some c → (y : ℕ) × (pos x ≡ pos y) × (y < length cs) × (get_or cs y 0 ≡ c)
    by true l f = (x, refl, ltb-true x (length cs) l, (cc))
    by false l f = some_none c (sym f)
cell_is cs (negsuc n) c e = some_none c (sym e)

module _ {S : Type 0} (Near : ℕ → S → Type 0) where
  along : (k : Config) (m : Moment S) → Agrees Near k m → Along (m.index -ℤ pos k.tape.head) k.tape m.tape m.index
  along k m a = record { here = a.here; cells = each; index = omega (arith, ints) }
    where
      each : Cells (m.index -ℤ pos k.tape.head) m.tape k.tape.cells
      each x l =
          ap m.tape (let z : m.index -ℤ pos k.tape.head +ℤ pos x ≡ m.index +ℤ (pos x -ℤ pos k.tape.head) = omega (arith, ints) in z)
          ∙ a.cells (pos x -ℤ pos k.tape.head) (get_or k.tape.cells x 0)
          (ap (cell k.tape.cells) (let z : pos k.tape.head +ℤ (pos x -ℤ pos k.tape.head) ≡ pos x = omega (arith, ints) in z) ∙ cell_at k.tape.cells x l)

  agreed : (o : ℤ) (k : Config) (m : Moment S) → Along o k.tape m.tape m.index → SameAfter Near (standing k.status k.number) m.control → Agrees Near k m
  agreed o k m a s = record { here = a.here; control = s; cells = each }
    where
      each : (d : ℤ) (c : ℕ) → looked k.tape d ≡ Some c → m.tape (m.index +ℤ d) ≡ c
      each d c e =
          let f = cell_is k.tape.cells (pos k.tape.head +ℤ d) c e in
          let g = f.1 in
          let i = a.index in
          ap m.tape (let z : m.index +ℤ d ≡ o +ℤ pos f.0 = omega (arith, ints) in z) ∙ a.cells f.0 f.2 ∙ f.3

  standing_next : (q : ℕ) (x : Next) (y : After S) → SameAfter Near (state_after x) y → SameAfter Near (standing (status_after x) (number_after q x)) y
  standing_next q (To r) y h = h
  standing_next q Accept y h = h
  standing_next q Reject y h = h

  module _ (R : Rules) (f : S → ℕ → Step S) (sim : (q c : ℕ) (s : S) → Near q s → SameStep Near (R.action q c) (f s c)) where
    abbrev Now : ℤ → Config → (ℤ → ℕ) → ℤ → After S → Type 0
    Now o k T i p = Along o k.tape T i × SameAfter Near (standing k.status k.number) p

    abbrev NowAt : ℤ → Config → Moment S → Type 0
    NowAt o k m = Now o k m.tape m.index m.control

    stepping : (o : ℤ) (k : Config) (T : ℤ → ℕ) (i : ℤ) (x : Step S) → at_end k.tape (action_here R k).direction ≡ false → Along o k.tape T i → SameStep Near (action_here R k) x → NowAt o (after (action_here R k) k) (stepped T i x)
    stepping o k T i x e a h =
        let d = action_here R k in (
          subst (λ (w : Option ℕ). Along o (after d k).tape (next_tape T i w) (next_index i x.direction)) h.write
              (subst (λ (v : Direction). Along o (after d k).tape (next_tape T i d.write) (next_index i v)) h.direction
              (along_moved o (write_after k.tape d.write) (next_tape T i d.write) i d.direction (end_written k.tape d.direction d.write ∙ e) (along_written o k.tape T i d.write a))),
          standing_next k.number d.next x.after h.next,
        )

    one_step : (o : ℤ) (k : Config) (T : ℤ → ℕ) (i : ℤ) (p : After S) (u : Status) → over u ≡ false → at_end k.tape (action_here R k).direction ≡ false → Along o k.tape T i → SameAfter Near (standing u k.number) p → NowAt o (after (action_here R k) k) (advance f T i p)
    one_step o k T i (at s) Going v e a h =
        stepping o k T i (f s (T i)) e a (subst (λ (c : ℕ). SameStep Near (action_here R k) (f s c)) (sym (head_read o k.tape T i a)) (sim k.number (at_head k.tape) s h))
    one_step o k T i accepts Going v e a h = absurd h
    one_step o k T i rejects Going v e a h = absurd h
    one_step o k T i p Accepted v e a h = absurd (true≢false v)
    one_step o k T i p Rejected v e a h = absurd (true≢false v)

    abbrev next_moment : Moment S → Moment S
    next_moment m = advance f m.tape m.index m.control

    step_agrees : (o : ℤ) (k : Config) (m : Moment S) → step_refusal R k ≡ None → NowAt o k m → NowAt o (after (action_here R k) k) (next_moment m)
    step_agrees o k m e h =
        one_step o k m.tape m.index m.control k.status
        (passed R k e).going (passed R k e).edge h.0 h.1

    -- after a verdict nothing changes
    abbrev moment : (ℤ → ℕ) → ℤ → After S → Moment S
    moment T i p = record { tape = T; index = i; control = p }

    stay_accepts : (n : ℕ) (T : ℤ → ℕ) (i : ℤ) → execute_by f n (moment T i accepts) ≡ moment T i accepts
    stay_accepts zero T i = refl
    stay_accepts (suc n) T i = stay_accepts n T i

    stay_rejects : (n : ℕ) (T : ℤ → ℕ) (i : ℤ) → execute_by f n (moment T i rejects) ≡ moment T i rejects
    stay_rejects zero T i = refl
    stay_rejects (suc n) T i = stay_rejects n T i

    stays : (n q : ℕ) (T : ℤ → ℕ) (i : ℤ) (u : Status) (p : After S) → over u ≡ true → SameAfter Near (standing u q) p → execute_by f n (moment T i p) ≡ moment T i p
    stays n q T i Going p v h = absurd (false≢true v)
    stays n q T i Accepted (at s) v h = absurd h
    stays n q T i Accepted accepts v h = stay_accepts n T i
    stays n q T i Accepted rejects v h = absurd h
    stays n q T i Rejected (at s) v h = absurd h
    stays n q T i Rejected accepts v h = absurd h
    stays n q T i Rejected rejects v h = stay_rejects n T i

    abbrev GoingOn : ℤ → ℕ → Went → Moment S → Type 0
    GoingOn o n w m = NowAt o w.config (execute_by f w.count m) × (Unrefused w.ending → NowAt o w.config (execute_by f n m))

    turned : (o : ℤ) (n : ℕ) (x : Next) (j : Config) (rest : Went) (m : Moment S) → status_after x ≡ j.status → NowAt o j (next_moment m) → GoingOn o n rest (next_moment m) → GoingOn o (suc n) (onward x j rest) m
    turned o n (To r) j rest m e h g = (subst (λ (c : ℕ). NowAt o rest.config (execute_by f c m)) (let z : suc rest.count ≡ 1 + rest.count = omega arith in z) g.0, g.1)
    turned o n Accept j rest m e h g = (h, λ u. subst (NowAt o j) (sym (stays n j.number (next_moment m).tape (next_moment m).index j.status (next_moment m).control (ap over (sym e)) h.1)) h)
    turned o n Reject j rest m e h g = (h, λ u. subst (NowAt o j) (sym (stays n j.number (next_moment m).tape (next_moment m).index j.status (next_moment m).control (ap over (sym e)) h.1)) h)

    refusing : (o : ℤ) (n : ℕ) (r : Option Refusal) (k : Config) (w : Went) (m : Moment S) → NowAt o k m → (r ≡ None → GoingOn o n w m) → GoingOn o n (refused_or r k w) m
    refusing o n (Some x) k w m h g = (h, λ u. absurd u)
    refusing o n None k w m h g = g refl

    steps_agree : (o : ℤ) (n : ℕ) (k : Config) (m : Moment S) → NowAt o k m → GoingOn o n (steps R n k) m
    steps_agree o zero k m h = (h, λ u. h)
    steps_agree o (suc n) k m h =
        let j = after (action_here R k) k in
        refusing o (suc n) (step_refusal R k) k (onward (action_here R k).next j (steps R n j)) m h
        (λ e. let v = step_agrees o k m e h in turned o n (action_here R k).next j (steps R n j) m refl v (steps_agree o n j (next_moment m) v))

    -- nothing is written beyond the run's cells
    abbrev Outside : ℤ → ℕ → ℤ → Type 0
    Outside o l x = (y : ℕ) → y < l → x ≡ o +ℤ pos y → ⊥

    tape_other : (T : ℤ → ℕ) (i x : ℤ) (w : Option ℕ) → (x ≡ i → ⊥) → next_tape T i w x ≡ T x
    tape_other T i x None n = refl
    tape_other T i x (Some c) n = by (same_index x i) refl
      where
        by : (v : Bool) → same_index x i ≡ v → cond v c (T x) ≡ T x
        by true e = absurd (n (same_eq x i e))
        by false e = refl

    advance_other : (T : ℤ → ℕ) (i x : ℤ) (p : After S) → (x ≡ i → ⊥) → (advance f T i p).tape x ≡ T x
    advance_other T i x (at s) n = tape_other T i x (f s (T i)).write n
    advance_other T i x accepts n = refl
    advance_other T i x rejects n = refl

    length_kept : (t : Meaning) (d : Direction) (w : Option ℕ) → length (moved (write_after t w) d).cells ≡ length t.cells
    length_kept t Left None = refl
    length_kept t Right None = refl
    length_kept t Left (Some c) = length-set t.cells t.head c
    length_kept t Right (Some c) = length-set t.cells t.head c

    steps_beyond : (o : ℤ) (n : ℕ) (k : Config) (m : Moment S) (x : ℤ) → NowAt o k m → Outside o (length k.tape.cells) x → (execute_by f (steps R n k).count m).tape x ≡ m.tape x
    steps_beyond o zero k m x h out = refl
    steps_beyond o (suc n) k m x h out =
        let d = action_here R k in
        let j = after d k in
        let one = advance_other m.tape m.index x m.control (λ e. out k.tape.head h.0.here (e ∙ h.0.index)) in
        by one (step_refusal R k) d.next
        (λ e. steps_beyond o n j (next_moment m) x (step_agrees o k m e h) (λ y l. out y (let z = length_kept k.tape d.direction d.write in omega arith)))
      where
        by : (next_moment m).tape x ≡ m.tape x → (r : Option Refusal) (y : Next) → (r ≡ None → (execute_by f (steps R n (after (action_here R k) k)).count (next_moment m)).tape x ≡ (next_moment m).tape x)
            → (execute_by f (refused_or r k (onward y (after (action_here R k) k) (steps R n (after (action_here R k) k)))).count m).tape x ≡ m.tape x
        by one (Some v) y g = refl
        by one None (To v) g =
            let c = (steps R n (after (action_here R k) k)).count in
            ap (λ b. (execute_by f b m).tape x) (let z : 1 + c ≡ suc c = omega arith in z) ∙ g refl ∙ one
        by one None Accept g = one
        by one None Reject g = one

    follows : (n : ℕ) (k : Config) (m : Moment S) → Agrees Near k m → Follows Near (execute_by f) n k (steps R n k) m
    follows n k m a =
        let o = m.index -ℤ pos k.tape.head in
        let w = steps R n k in
        let now : NowAt o k m = (along k m a, a.control) in
        let g = steps_agree o n k m now in
        record {
          done = agreed o w.config (execute_by f w.count m) g.0.0 g.0.1;
          all = λ u. let h = g.1 u in agreed o w.config (execute_by f n m) h.0 h.1;
          beyond = λ d e. steps_beyond o n k m (m.index +ℤ d) now (λ y l q. no_cell d e y l (let z : pos k.tape.head +ℤ d ≡ pos y = omega (arith, ints) in z));
        }
      where
        no_cell : (d : ℤ) → looked k.tape d ≡ None → (y : ℕ) → y < length k.tape.cells → pos k.tape.head +ℤ d ≡ pos y → ⊥
        no_cell d e y l q = some_none (get_or k.tape.cells y 0) (sym (cell_at k.tape.cells y l) ∙ ap (cell k.tape.cells) (sym q) ∙ e)

    -- a go that is refused does no step
    refused_go : (n : ℕ) (r : Option Refusal) (k : Config) (w : Went) (m : Moment S) → Agrees Near k m → Follows Near (execute_by f) n k w m → Follows Near (execute_by f) n k (refused_or r k w) m
    refused_go n None k w m a g = g
    refused_go n (Some r) k w m a g = record { done = a; all = λ u. absurd u; beyond = λ d e. refl }

    goes : (n : ℕ) (k : Config) (m : Moment S) → Agrees Near k m → Follows Near (execute_by f) n k (go_of R n k) m
    goes n k m a = refused_go n (go_refusal n k) k (steps R n k) m a (follows n k m a)

    steps_on : (k : Config) (m : Moment S) → Agrees Near k m → step_refusal R k ≡ None → Agrees Near (call R Call.Step k).1 (execute_by f 1 m)
    steps_on k m a e =
        let o = m.index -ℤ pos k.tape.head in
        let j = after (action_here R k) k in
        let g = step_agrees o k m e (along k m a, a.control) in
        subst (λ (r : Option Refusal). Agrees Near (unless r k (Stepped (status_after (action_here R k).next), j)).1 (next_moment m)) (sym e) (agreed o j (next_moment m) g.0 g.1)

    marks : (c : ℕ) (k : Config) (m : Moment S) → Agrees Near k m → put_answer k.tape c ≡ Ok tt → Agrees Near (call R (Call.Mark c) k).1 (marked m c)
    marks c k m a e =
        let o = m.index -ℤ pos k.tape.head in
        let t = k.tape in
        subst (λ (r : Result (Unit {0}) TapeRefusal). Agrees Near (with_tape k (unless_refused r t (written t c))) (marked m c)) (sym e)
        (agreed o (with_tape k (written t c)) (marked m c) (along_written o t m.tape m.index (Some c) (along k m a)) a.control)

    nudges : (d : Direction) (k : Config) (m : Moment S) → Agrees Near k m → shift_answer k.tape d ≡ Ok tt → Agrees Near (call R (Call.Nudge d) k).1 (nudged m d)
    nudges d k m a e =
        let o = m.index -ℤ pos k.tape.head in
        let t = k.tape in
        subst (λ (r : Result (Unit {0}) TapeRefusal). Agrees Near (with_tape k (unless_refused r t (moved t d))) (nudged m d)) (sym e)
        (agreed o (with_tape k (moved t d)) (nudged m d) (along_moved o t m.tape m.index d (not_end (at_end t d) e) (along k m a)) a.control)
      where
        not_end : (b : Bool) → ◌≡◌ {A = Result (Unit {0}) TapeRefusal} (cond b (Err TapeRefusal.Edge) (Ok tt)) (Ok tt) → b ≡ false
        not_end true g = absurd cc
        not_end false g = refl

    runs_follow : (first_one : S) → Near 0 first_one → RunsFollow Near R (execute_by f) first_one
    runs_follow first_one z = record {
      begins = λ t l. record { here = l; cells = λ d c e. ap or_blank e; control = z };
      goes = goes;
      steps_on = steps_on;
      marks = marks;
      nudges = nudges;
      restarts = λ k m a. record { here = a.here; cells = a.cells; control = z };
    }

pub blocks_follow : BlocksFollow
blocks_follow t e = let p = numbers_are_points t e in runs_follow (Numbered t) (by_blocks (compiled t)) (point_step t) p.same (first_point t) p.first

entry_next : (x : Next) → SameAfter (λ q r. q ≡ r) (state_after x) (state_after x)
entry_next (To r) = refl
entry_next Accept = tt
entry_next Reject = tt

pub tables_follow : TablesFollow
tables_follow T =
    runs_follow (λ q r. q ≡ r) (by_table T) (transition T)
    (λ q c s h. subst (λ (r : ℕ). SameStep (λ q r. q ≡ r) ((by_table T).action q c) (transition T r c)) h (record { write = refl; direction = refl; next = entry_next (entry T q c).next })) 0 refl
