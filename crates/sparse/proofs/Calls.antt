-- What a list of records is after each call, as the tape's meaning has it.
use Rattle.std.proofs.Common.{slice_index, negsuc, ◌≡◌, ℕ, ◌+◌, ◌<◌, ◌≤◌, true, false, cond, not, ◌&&◌, ◌==◌, ◌≢◌, List, ◌∷◌, length, drop, ℤ, pos, ◌+ℤ◌, w32, to_z, of_z, Some, None, Option, Ok, Err, Result, sym, refl, ap, ◌∙◌, subst, arith}
use Rattle.std.proofs.lemmas.Bool.Decides.{nat_tests}
use Rattle.std.proofs.lemmas.Int.{ints}
use Rattle.std.proofs.lemmas.List.{length-append}
use Rattle.std.specs.Option.{option_map}
use Rattle.bounded.specs.Held.{Held, all, count, is_full, next_of, previous_of, inserted, deleted, replaced, forwarded, backed}
use Rattle.tape.specs.declared.kinds.Direction.{Direction}
use Rattle.tape.specs.declared.kinds.Direction.TheVariants.{Left, Right}
use Rattle.tape.specs.declared.kinds.TapeRefusal.{TapeRefusal}
use Rattle.tape.specs.declared.kinds.TapeRefusal.TheVariants.{Edge, Capacity}
use Rattle.tape.specs.Meaning.{Meaning, nonblank, at_head, at_end, reached, code_in, put_answer, put_after, written, step_of, shift_answer, shift_after, moved, beside, unless_refused}
use Rattle.sparse.specs.declared.record.NonblankCell.{NonblankCell}
use Rattle.sparse.specs.Records.{code_at, cells_of, Rising, Kept, stands, of_records}
use Rattle.sparse.specs.Sound.{rising_low, rising_join, length_cells, get_or_cells, nonblank_cells}
use Rattle.sparse.proofs.Order.{Parted, right_on, right_off, left_on, left_off, rising_high}
use Rattle.sparse.proofs.Codes.{Written, written_over, written_out, written_in, off_blank, on_nonblank, code_right, cells_written}

-- the tape of n cells that a list stands for, with the head at h
abbrev pub of_list : ℕ → ℕ → Held NonblankCell → Meaning
of_list n h l = of_records l.capacity n (all l) h

-- a put: the list after it keeps its order, and the answer and the tape are the defined ones
pub record Put (n h c : ℕ) (l l' : Held NonblankCell) (a : Result (Unit {0}) TapeRefusal) : Type 0 where
  pub kept : Kept n h l'
  pub answer : a ≡ put_answer (of_list n h l) c
  pub after : of_list n h l' ≡ put_after (of_list n h l) c

module _ {n h : ℕ} {l : Held NonblankCell} (k : Kept n h l) where
  -- what a put answers, by the list
  answered : (c : ℕ) → c ≤ 36 → put_answer (of_list n h l) c ≡ cond (code_at l.after h == 0 && (not (c == 0) && is_full l)) (Err Capacity) (Ok tt)
  answered c le =
      let head : at_head (of_list n h l) ≡ code_at l.after h = get_or_cells n (all l) h k.here ∙ code_right 0 h h l.before l.after k.left (omega arith) in
      let rising = rising_join 0 h n l.before l.after k.left k.right in
      let many : nonblank (cells_of n (all l)) ≡ count l = nonblank_cells 0 n (all l) rising ∙ length-append l.before l.after in
      grind (arith, nat_tests)

  -- the records right of the head become zs
  done : (c : ℕ) (zs : List NonblankCell) {l' : Held NonblankCell} → l' ≡ record { before = l.before; after = zs; capacity = l.capacity } → Written h n c l.after zs → Ok tt ≡ put_answer (of_list n h l) c → Put n h c l l' (Ok tt)
  done c zs e w ok =
      let with_cells : List ℕ → Meaning = λ cs. record { capacity = l.capacity; cells = cs; head = h } in
      subst (λ m. Put n h c l m (Ok tt)) (sym e)
      (record {
        kept = record { here = k.here; most = k.most; room = k.room; left = k.left; right = w.right };
        answer = ok;
        after = ap with_cells (cells_written h n c l.before l.after zs k.here k.left w) ∙ ap (λ a. unless_refused a (of_list n h l) (written (of_list n h l) c)) ok;
      })

  pub put_nothing : {c : ℕ} {r : Option NonblankCell} → r ≡ next_of l → false ≡ stands r h → c ≡ 0 → Put n h c l l (Ok tt)
  put_nothing {c} next off blank =
      let a = answered c (omega arith) in
      let code = off_blank h n l.after (off ∙ ap (λ o. stands o h) next) k.here k.right in
      done c l.after refl (record { right = k.right; here = code ∙ sym blank; there = λ j ne. refl }) (grind (arith, nat_tests))

  module _ {c : ℕ} {l' : Held NonblankCell} {r : Option NonblankCell} (next : r ≡ next_of l) where
    pub put_delete : true ≡ stands r h → c ≡ 0 → l' ≡ deleted l → Put n h c l l' (Ok tt)
    put_delete on blank e =
        let a = answered c (omega arith) in
        let w = written_out h n l.after (on ∙ ap (λ o. stands o h) next) k.right in
        done c _ e (subst (λ v. Written h n v l.after (drop 1 l.after)) (sym blank) w) (grind (arith, nat_tests))

    pub put_replace : true ≡ stands r h → c ≢ 0 → c ≤ 36 → l' ≡ replaced l (record { cell = h; code = c }) → Put n h c l l' (Ok tt)
    put_replace on letter le e =
        let a = answered c le in
        let here = on ∙ ap (λ o. stands o h) next in
        let code = on_nonblank h n l.after here k.right in
        done c _ e (written_over h n c l.after here k.right (omega arith) le) (grind (arith, nat_tests))

    -- a put that needs a record more is done where one is free, and refused where none is
    pub put_insert : false ≡ stands r h → c ≢ 0 → c ≤ 36 → l' ≡ inserted l (record { cell = h; code = c }) → Put n h c l l' (cond (is_full l) (Err Capacity) (Ok tt))
    put_insert off letter le e =
        let here = off ∙ ap (λ o. stands o h) next in
        let code = off_blank h n l.after here k.here k.right in
        let a = answered c le in
        let answer : cond (is_full l) (Err Capacity) (Ok tt) ≡ put_answer (of_list n h l) c = grind (arith, nat_tests) in
        let w = written_in h n c l.after here k.here k.right (omega arith) le in
        elim (is_full l) as (λ b. l' ≡ cond b l (record { before = l.before; after = record { cell = h; code = c } ∷ l.after; capacity = l.capacity }) → cond b (Err Capacity) (Ok tt) ≡ put_answer (of_list n h l) c → Put n h c l l' (cond b (Err Capacity) (Ok tt))) [
          | true ↦ λ same no. subst (λ m. Put n h c l m (Err Capacity)) (sym same) (record { kept = k; answer = no; after = ap (λ a. unless_refused a (of_list n h l) (written (of_list n h l) c)) no })
          | false ↦ λ more ok. done c _ more w ok
        ] e answer

-- a shift to the cell g
pub record Shifted (n h g : ℕ) (d : Direction) (l l' : Held NonblankCell) (a : Result (Unit {0}) TapeRefusal) : Type 0 where
  pub kept : Kept n g l'
  pub answer : a ≡ shift_answer (of_list n h l) d
  pub after : of_list n g l' ≡ shift_after (of_list n h l) d

module _ {n h : ℕ} {l : Held NonblankCell} (k : Kept n h l) (d : Direction) {s : ℤ} {o : Option ℕ} (by : o ≡ reached n (pos h +ℤ to_z w32 (of_z w32 s))) (step : s ≡ step_of d) where
  -- the cell next to the head, if there is one
  next_cell : o ≡ cond (at_end (of_list n h l) d) None (Some (beside d h))
  next_cell = by ∙ ap (λ z. reached n (pos h +ℤ to_z w32 (of_z w32 z))) step ∙ there d where
    there : (e : Direction) → reached n (pos h +ℤ to_z w32 (of_z w32 (step_of e))) ≡ cond (at_end (of_list n h l) e) None (Some (beside e h))
    there Left = let here = k.here in grind (arith, ints, nat_tests)
    there Right = let long = length_cells n (all l) in grind (arith, ints, nat_tests)

  pub shift_edge : o ≡ None → Shifted n h h d l l (Err Edge)
  shift_edge none =
      let next = next_cell in
      let no : Err Edge ≡ shift_answer (of_list n h l) d = grind (arith, nat_tests) in
      record { kept = k; answer = no; after = ap (λ a. unless_refused a (of_list n h l) (moved (of_list n h l) d)) no }

  module _ {g : ℕ} (came : o ≡ Some g) where
    went : (l' : Held NonblankCell) → Kept n g l' → l'.capacity ≡ l.capacity → all l' ≡ all l → Shifted n h g d l l' (Ok tt)
    went l' kept room same =
        let next = next_cell in
        let ok : Ok tt ≡ shift_answer (of_list n h l) d = grind (arith, nat_tests) in
        let there : g ≡ beside d h = grind (arith, nat_tests) in
        record {
          kept = kept;
          answer = ok;
          after = ap (λ j. of_records j n (all l') g) room ∙ ap (λ rs. of_records l.capacity n rs g) same ∙ ap (of_records l.capacity n (all l)) there
              ∙ ap (λ a. unless_refused a (of_list n h l) (moved (of_list n h l) d)) ok;
        }

    by_left : d ≡ Left → h ≡ g + 1
    by_left left = let next = next_cell in grind (arith, nat_tests)

    by_right : d ≡ Right → (g ≡ h + 1) × (g < n)
    by_right right = let next = next_cell in let long = length_cells n (all l) in (grind (arith, nat_tests), grind (arith, nat_tests))

    module _ {r : Option NonblankCell} where
      pub shift_backward : {l' : Held NonblankCell} → d ≡ Left → r ≡ previous_of l → true ≡ stands r g → l' ≡ backed l → Shifted n h g d l l' (Ok tt)
      shift_backward {l'} left previous on e =
          let from : h ≡ g + 1 = by_left left in
          let here = k.here in
          let p = left_on g n l.before l.after (on ∙ ap (λ v. stands v g) previous) (subst (λ j. Rising 0 j l.before) from k.left) (subst (λ j. Rising j n l.after) from k.right) in
          subst (λ m. Shifted n h g d l m (Ok tt)) (sym e) (went (backed l) (record { here = omega arith; most = k.most; room = k.room; left = p.left; right = p.right }) refl p.same)

      pub shift_left : d ≡ Left → r ≡ previous_of l → false ≡ stands r g → Shifted n h g d l l (Ok tt)
      shift_left left previous off =
          let from : h ≡ g + 1 = by_left left in
          let here = k.here in
          let before = left_off g l.before (off ∙ ap (λ v. stands v g) previous) (subst (λ j. Rising 0 j l.before) from k.left) in
          went l (record { here = omega arith; most = k.most; room = k.room; left = before; right = rising_low h g n l.after (omega arith) k.right }) refl refl

      pub shift_forward : {l' : Held NonblankCell} → d ≡ Right → r ≡ next_of l → true ≡ stands r h → l' ≡ forwarded l → Shifted n h g d l l' (Ok tt)
      shift_forward {l'} right next on e =
          let to = by_right right in
          let p = subst (λ j. Parted j n l.before l.after (forwarded l).before (forwarded l).after) (sym to.0) (right_on h n l.before l.after (on ∙ ap (λ v. stands v h) next) k.left k.right) in
          subst (λ m. Shifted n h g d l m (Ok tt)) (sym e) (went (forwarded l) (record { here = to.1; most = k.most; room = k.room; left = p.left; right = p.right }) refl p.same)

      pub shift_right : d ≡ Right → r ≡ next_of l → false ≡ stands r h → Shifted n h g d l l (Ok tt)
      shift_right right next off =
          let to = by_right right in
          let after = right_off h n l.after (off ∙ ap (λ v. stands v h) next) (omega (arith, to.0, to.1)) k.right in
          went l (record { here = to.1; most = k.most; room = k.room; left = rising_high 0 h g l.before (omega (arith, to.0)) k.left; right = subst (λ j. Rising j n l.after) (sym to.0) after }) refl refl

-- what a look sees
pub looks : (n : ℕ) (rs : List NonblankCell) (z : ℤ) → code_in (cells_of n rs) (reached (length (cells_of n rs)) z) ≡ option_map (code_at rs) (reached n z)
looks n rs (pos j) = let long = length_cells n rs in let code : j < n → slice_index (cells_of n rs) j ≡ code_at rs j = get_or_cells n rs j in grind (arith, nat_tests, code)
looks n rs (negsuc j) = refl
