-- Every call keeps a tape's ranges.
use Rattle.std.proofs.Common.{◌≡◌, ℕ, zero, suc, ◌+◌, ◌<◌, ◌≤◌, Bool, true, false, cond, not, ◌&&◌, eqb, ltb, leb, List, [], ◌∷◌, length, get_or, set, Some, None, Ok, Err, Option, Result, refl, ap, ◌∙◌, arith, length-set}
use Rattle.std.proofs.lemmas.Bool.{leb-false, ltb-false, and_parts, and_from, le-leb}
use Rattle.tape.specs.declared.kinds.Direction.{Direction}
use Rattle.tape.specs.declared.kinds.Direction.TheVariants.{Left, Right}
use Rattle.meaning.specs.Codes.{member}
use Rattle.tape.specs.declared.kinds.TapeRefusal.{TapeRefusal}
use Rattle.tape.specs.Meaning.{Meaning, nonblank, all_codes, at_head, at_end, no_room, written, moved, Valid, unless_refused, put_after, shift_after}
use Rattle.meaning.specs.declared.refusals.Refusal.{Refusal}
use Rattle.meaning.specs.declared.refusals.Refusal.TheVariants.{Edge, Capacity, Verdict, Number, Symbol, Total}
use Rattle.meaning.specs.Rules.{Rules}
use Rattle.meaning.specs.declared.machines.Next.{Next}
use Rattle.meaning.specs.declared.machines.Next.TheVariants.{To, Accept, Reject}
use Rattle.meaning.specs.Runs.{Config, Answered, over, first, write_no_room, write_after, action_here, step_refusal, status_after, after, unless, Went, onward, refused_or, steps, go_refusal, call, play}
use Rattle.meaning.specs.declared.calls.Call.{Call}
use Rattle.meaning.specs.declared.calls.Call.TheVariants.{Step, Go, Mark, Nudge, Restart, Window}
use Rattle.meaning.specs.declared.calls.Answer.TheVariants.{Stepped}
use Rattle.meaning.specs.Laws.{SmallWrite, WritesCodes, KeepsTapes, NoShape}

abbrev one_if : Bool → ℕ
one_if b = cond b 0 1

nonblank_cons : (x : ℕ) (xs : List ℕ) → nonblank (x ∷ xs) ≡ one_if (eqb x 0) + nonblank xs
nonblank_cons x xs = at (eqb x 0)
  where
    at : (b : Bool) → cond b (nonblank xs) (1 + nonblank xs) ≡ one_if b + nonblank xs
    at true = omega arith
    at false = refl

nonblank_set : (xs : List ℕ) (i c : ℕ) → i < length xs → nonblank (set xs i c) + one_if (eqb (get_or xs i 0) 0) ≡ nonblank xs + one_if (eqb c 0)
nonblank_set [] i c h = absurd (omega arith)
nonblank_set (x ∷ xs) zero c h = omega (arith, nonblank_cons c xs, nonblank_cons x xs)
nonblank_set (x ∷ xs) (suc i) c h = omega (arith, nonblank_cons x (set xs i c), nonblank_cons x xs, nonblank_set xs i c (omega arith))

codes_set : (xs : List ℕ) (i c : ℕ) → c ≤ 36 → all_codes xs ≡ true → all_codes (set xs i c) ≡ true
codes_set [] i c h w = refl
codes_set (x ∷ xs) zero c h w = and_from (leb c 36) (all_codes xs) (le-leb c 36 h) (and_parts (leb x 36) (all_codes xs) w).1
codes_set (x ∷ xs) (suc i) c h w = let p = and_parts (leb x 36) (all_codes xs) w in and_from (leb x 36) (all_codes (set xs i c)) p.0 (codes_set xs i c h p.1)

-- room for one more, or none needed
room_kept : (here c capacity used after : ℕ) → eqb here 0 && (not (eqb c 0) && leb capacity used) ≡ false → used ≤ capacity → after + one_if (eqb here 0) ≡ used + one_if (eqb c 0) → after ≤ capacity
room_kept here c capacity used after = at (eqb here 0) (eqb c 0) (leb capacity used) refl
  where
    at : (a b l : Bool) → leb capacity used ≡ l → a && (not b && l) ≡ false → used ≤ capacity → after + one_if a ≡ used + one_if b → after ≤ capacity
    at true true l e h u s = omega arith
    at true false true e h u s = absurd cc
    at true false false e h u s = let k = leb-false capacity used e in omega arith
    at false true l e h u s = omega arith
    at false false l e h u s = omega arith

written_valid : (t : Meaning) (c : ℕ) → Valid t → c ≤ 36 → no_room t c ≡ false → Valid (written t c)
written_valid t c w h n =
    let l = length-set t.cells t.head c in
    record {
      here = let z = w.here in omega arith;
      most = let z = w.most in omega arith;
      limit = let z = w.limit in omega arith;
      within = room_kept (at_head t) c t.capacity (nonblank t.cells) (nonblank (set t.cells t.head c)) n w.within (nonblank_set t.cells t.head c w.here);
      codes = codes_set t.cells t.head c h w.codes;
    }

moved_valid : (t : Meaning) (d : Direction) → Valid t → at_end t d ≡ false → Valid (moved t d)
moved_valid t Left w h = record { here = let z = w.here in omega arith; most = w.most; limit = w.limit; within = w.within; codes = w.codes }
moved_valid t Right w h = record { here = let z = leb-false (length t.cells) (t.head + 1) h in omega arith; most = w.most; limit = w.limit; within = w.within; codes = w.codes }

put_valid : (t : Meaning) (c : ℕ) → Valid t → Valid (put_after t c)
put_valid t c w = by (ltb 36 c) (no_room t c) refl refl
  where
    by : (a b : Bool) → ltb 36 c ≡ a → no_room t c ≡ b → Valid (unless_refused (cond a (Err TapeRefusal.Code) (cond b (Err TapeRefusal.Capacity) (Ok tt))) t (written t c))
    by true b p q = w
    by false true p q = w
    by false false p q = written_valid t c w (ltb-false 36 c p) q

shift_valid : (t : Meaning) (d : Direction) → Valid t → Valid (shift_after t d)
shift_valid t d w = by (at_end t d) refl
  where
    by : (a : Bool) → at_end t d ≡ a → Valid (unless_refused (cond a (Err TapeRefusal.Edge) (Ok tt)) t (moved t d))
    by true p = w
    by false p = moved_valid t d w p

-- an end is an end whatever is written
pub end_written : (t : Meaning) (d : Direction) (o : Option ℕ) → at_end (write_after t o) d ≡ at_end t d
end_written t d None = refl
end_written t Left (Some c) = refl
end_written t Right (Some c) = ap (λ n. leb n (t.head + 1)) (length-set t.cells t.head c)

write_valid : (t : Meaning) (o : Option ℕ) → Valid t → SmallWrite o → write_no_room t o ≡ false → Valid (write_after t o)
write_valid t None w h n = w
write_valid t (Some c) w h n = written_valid t c w h n

-- what a step that is not refused has passed
pub record Passed (R : Rules) (k : Config) : Type 0 where
  pub going : over k.status ≡ false
  pub number : ltb k.number R.numbers ≡ true
  pub symbol : member (at_head k.tape) R.symbols ≡ true
  pub edge : at_end k.tape (action_here R k).direction ≡ false
  pub room : write_no_room k.tape (action_here R k).write ≡ false

pub some_none : {A B : Type 0} (x : B) → ◌≡◌ {A = Option B} (Some x) None → A
some_none x e = absurd cc

through : (a b c d e f : Bool) → first ((a, Verdict) ∷ (not b, Number) ∷ (c, Total) ∷ (not d, Symbol) ∷ (e, Edge) ∷ (f, Capacity) ∷ []) ≡ None → (a ≡ false) × (b ≡ true) × (d ≡ true) × (e ≡ false) × (f ≡ false)
through true b c d e f h = some_none Verdict h
through false false c d e f h = some_none Number h
through false true true d e f h = some_none Total h
through false true false false e f h = some_none Symbol h
through false true false true true f h = some_none Edge h
through false true false true false true h = some_none Capacity h
through false true false true false false h = (refl, refl, refl, refl, refl)

pub passed : (R : Rules) (k : Config) → step_refusal R k ≡ None → Passed R k
passed R k h =
    let p = through (over k.status) (ltb k.number R.numbers) (leb 1000000000 k.total) (member (at_head k.tape) R.symbols) (at_end k.tape (action_here R k).direction) (write_no_room k.tape (action_here R k).write) h in
    record { going = p.0; number = p.1; symbol = p.2; edge = p.3; room = p.4 }

module _ (R : Rules) (codes : WritesCodes R) where
  after_valid : (k : Config) → Valid k.tape → step_refusal R k ≡ None → Valid (after (action_here R k) k).tape
  after_valid k w h =
      let p = passed R k h in
      let d = action_here R k in
      moved_valid (write_after k.tape d.write) d.direction
      (write_valid k.tape d.write w (codes k.number (at_head k.tape) p.number p.symbol) p.room)
      (end_written k.tape d.direction d.write ∙ p.edge)

  unless_valid : (o : Option Refusal) (k : Config) (r : Answered) → Valid k.tape → (o ≡ None → Valid r.1.tape) → Valid (unless o k r).1.tape
  unless_valid None k r w h = h refl
  unless_valid (Some n) k r w h = w

  refused_valid : (o : Option Refusal) (k : Config) (v : Went) → Valid k.tape → (o ≡ None → Valid v.config.tape) → Valid (refused_or o k v).config.tape
  refused_valid None k v w h = h refl
  refused_valid (Some n) k v w h = w

  onward_valid : (x : Next) (k : Config) (v : Went) → Valid k.tape → Valid v.config.tape → Valid (onward x k v).config.tape
  onward_valid (To r) k v w h = h
  onward_valid Accept k v w h = w
  onward_valid Reject k v w h = w

  steps_valid : (n : ℕ) (k : Config) → Valid k.tape → Valid (steps R n k).config.tape
  steps_valid zero k w = w
  steps_valid (suc n) k w =
      let j = after (action_here R k) k in
      refused_valid (step_refusal R k) k (onward (action_here R k).next j (steps R n j)) w
      (λ e. let v = after_valid k w e in onward_valid (action_here R k).next j (steps R n j) v (steps_valid n j v))

  call_valid : (c : Call) (k : Config) → Valid k.tape → Valid (call R c k).1.tape
  call_valid Step k w = unless_valid (step_refusal R k) k (Stepped (status_after (action_here R k).next), after (action_here R k) k) w (after_valid k w)
  call_valid (Go n) k w = refused_valid (go_refusal n k) k (steps R n k) w (λ e. steps_valid n k w)
  call_valid (Mark c) k w = put_valid k.tape c w
  call_valid (Nudge d) k w = shift_valid k.tape d w
  call_valid Restart k w = w
  call_valid Call.Report k w = w
  call_valid Window k w = w

  play_valid : (cs : List Call) (k : Config) → Valid k.tape → Valid (play R cs k).1.tape
  play_valid [] k w = w
  play_valid (c ∷ cs) k w = play_valid cs (call R c k).1 (call_valid c k w)

pub keeps_tapes : KeepsTapes
keeps_tapes R codes cs k w = play_valid R codes cs k w

pub no_shape : NoShape
no_shape = record { put = λ t c. put_not (ltb 36 c) (no_room t c); shift = λ t d. shift_not (at_end t d) }
  where
    put_not : (a b : Bool) → ¬ (◌≡◌ {A = Result (Unit {0}) TapeRefusal} (cond a (Err TapeRefusal.Code) (cond b (Err TapeRefusal.Capacity) (Ok tt))) (Err TapeRefusal.Shape))
    put_not true b e = cc
    put_not false true e = cc
    put_not false false e = cc

    shift_not : (a : Bool) → ¬ (◌≡◌ {A = Result (Unit {0}) TapeRefusal} (cond a (Err TapeRefusal.Edge) (Ok tt)) (Err TapeRefusal.Shape))
    shift_not true e = cc
    shift_not false e = cc
