-- A program and its table execute alike on tapes without ends.
use Rattle.std.proofs.Common.{◌≡◌, ℕ, zero, suc, ◌<◌, Bool, true, false, cond, List, [], length, get_or, ℤ, Some, None, Option, sym, refl, ap, ◌∙◌, subst, ap₂, arith}
use Rattle.std.proofs.lemmas.Bool.{lt-ltb}
use Rattle.grammar.specs.Tree.{Program}
use Rattle.meaning.specs.Codes.{member, position, columns}
use Rattle.meaning.specs.Blocks.{alphabet, blocks, kinds, compiled}
use Rattle.meaning.specs.declared.machines.Next.{Next}
use Rattle.meaning.specs.declared.machines.Action.{Action}
use Rattle.meaning.specs.Rules.{by_blocks, fresh, entry, or_this, translation}
use Rattle.meaning.specs.declared.machines.Entry.{Entry}
use Rattle.meaning.specs.Faults.{faults}
use Rattle.meaning.specs.Tables.{EntryWithin, RowWithin}
use Rattle.meaning.specs.Endless.{After, at, accepts, rejects, Step, Moment, same_index, next_tape, next_index, stepped, advance, SameAfter}
use Rattle.meaning.specs.Language.{Point, point_step, execute}
use Rattle.meaning.specs.Points.{points, Numbered}
use Rattle.meaning.specs.TuringMachine.{state_after, transition, machine}
use Rattle.meaning.specs.Follows.{TapeOf, Alike, ExecutesAlike}
use Rattle.meaning.proofs.Agree.{entry_same, rows_length, kinds_length}
use Rattle.meaning.proofs.Tables.{each_get_or, position_below}
use Rattle.meaning.proofs.Ranges.{translates_within}
use Rattle.meaning.proofs.Only.{nth_below}
use Rattle.meaning.proofs.Numbered.{numbers_are_points}
use Rattle.meaning.proofs.Follows.{same_eq}

-- a table that writes back what a block leaves
tape_alike : (T U : ℤ → ℕ) (i j : ℤ) (v : ℕ) (w : Option ℕ) → ((x : ℤ) → T x ≡ U x) → i ≡ j → v ≡ or_this (U j) w → (x : ℤ) → next_tape T i (Some v) x ≡ next_tape U j w x
tape_alike T U i j v None h e f x = by (same_index x i) refl
  where
    by : (b : Bool) → same_index x i ≡ b → cond b v (T x) ≡ U x
    by true s = f ∙ ap U (sym (same_eq x i s ∙ e))
    by false s = h x
tape_alike T U i j v (Some u) h e f x = ap (λ y. cond (same_index x i) v y) (h x) ∙ ap₂ (λ k y. cond (same_index x k) y (U x)) e f

kept_of : (t : Program) (U : ℤ → ℕ) (j : ℤ) (w : Option ℕ) → TapeOf t U → member (or_this (U j) w) (columns (alphabet t)) ≡ true → TapeOf t (next_tape U j w)
kept_of t U j None h m x = h x
kept_of t U j (Some u) h m x = by (same_index x j)
  where
    by : (b : Bool) → member (cond b u (U x)) (columns (alphabet t)) ≡ true
    by true = m
    by false = h x

module _ (t : Program) (clean : faults t ≡ []) where
  abbrev cols : List ℕ
  cols = columns (alphabet t)

  -- an entry, and the language's step at the place of its state
  record EntryLike (c : ℕ) (e : Entry) (x : Step Point) : Type 0 where
    write : e.write ≡ or_this c x.write
    direction : e.direction ≡ x.direction
    next : SameAfter (Numbered t) (state_after e.next) x.after
    fits : member e.write cols ≡ true

  entry_like : (q c : ℕ) (s : Point) → Numbered t q s → member c cols ≡ true → EntryLike c (entry (translation (compiled t)) q c) (point_step t s c)
  entry_like q c s h m =
      let P = numbers_are_points t clean in
      let w = translates_within t clean in
      let T = translation (compiled t) in
      let x = P.same q c s h in
      let l : q < length (blocks t) = let z = nth_below (points t) q s h in let y = P.as_many in omega arith in
      let same = entry_same (compiled t) q c (lt-ltb q (length (kinds (blocks t))) (let z = kinds_length (blocks t) in omega arith)) m in
      let n = length T.rows in
      let r : RowWithin cols n (get_or T.rows q []) = each_get_or (RowWithin cols n) T.rows q [] w.rows (let z = rows_length cols 0 (kinds (blocks t)) in let y = kinds_length (blocks t) in omega arith) in
      let p = position_below c cols m in
      let within : EntryWithin cols n (entry T q c) = each_get_or (EntryWithin cols n) (get_or T.rows q []) (position c cols) (fresh c) r.each (let z = r.wide in omega arith) in
      let written : Some (entry T q c).write ≡ Some (or_this c ((by_blocks (compiled t)).action q c).write) = ap (λ (d : Action). d.write) same in
      record {
        write = unsome (entry T q c).write (or_this c ((by_blocks (compiled t)).action q c).write) written ∙ ap (or_this c) x.write;
        direction = ap (λ (d : Action). d.direction) same ∙ x.direction;
        next = subst (λ (y : Next). SameAfter (Numbered t) (state_after y) (point_step t s c).after) (sym (ap (λ (d : Action). d.next) same)) x.next;
        fits = within.writes;
      }
    where
      unsome : (a b : ℕ) → Some a ≡ Some b → a ≡ b
      unsome a b e = cc

  abbrev Now : Moment ℕ → Moment Point → Type 0
  Now j m = Alike t j m × TapeOf t m.tape

  stepped_alike : (T U : ℤ → ℕ) (i j : ℤ) (e : Entry) (x : Step Point) → ((y : ℤ) → T y ≡ U y) → i ≡ j → TapeOf t U → EntryLike (U j) e x → Now (stepped T i (record { write = Some e.write; direction = e.direction; after = state_after e.next })) (stepped U j x)
  stepped_alike T U i j e x h same of k = (
    record { tape = tape_alike T U i j e.write x.write h same k.write; index = ap₂ next_index same k.direction; control = k.next },
    kept_of t U j x.write of (ap (λ c. member c cols) (sym k.write) ∙ k.fits),
  )

  advance_alike : (T U : ℤ → ℕ) (i j : ℤ) (p : After ℕ) (r : After Point) → ((y : ℤ) → T y ≡ U y) → i ≡ j → TapeOf t U → SameAfter (Numbered t) p r → Now (advance (transition (translation (compiled t))) T i p) (advance (point_step t) U j r)
  advance_alike T U i j (at q) (at s) h same of k =
      subst (λ (c : ℕ). Now (stepped T i (transition (translation (compiled t)) q c)) (stepped U j (point_step t s (U j)))) (sym (h i ∙ ap U same))
      (stepped_alike T U i j (entry (translation (compiled t)) q (U j)) (point_step t s (U j)) h same of (entry_like q (U j) s k (of j)))
  advance_alike T U i j (at q) accepts h same of k = absurd k
  advance_alike T U i j (at q) rejects h same of k = absurd k
  advance_alike T U i j accepts (at s) h same of k = absurd k
  advance_alike T U i j accepts accepts h same of k = (record { tape = h; index = same; control = tt }, of)
  advance_alike T U i j accepts rejects h same of k = absurd k
  advance_alike T U i j rejects (at s) h same of k = absurd k
  advance_alike T U i j rejects accepts h same of k = absurd k
  advance_alike T U i j rejects rejects h same of k = (record { tape = h; index = same; control = tt }, of)

  alike : (n : ℕ) (j : Moment ℕ) (m : Moment Point) → TapeOf t m.tape → Alike t j m → Alike t (machine (translation (compiled t)) n j) (execute t n m)
  alike zero j m of a = a
  alike (suc n) j m of a =
      let g = advance_alike j.tape m.tape j.index m.index j.control m.control a.tape a.index of a.control in
      alike n (advance (transition (translation (compiled t))) j.tape j.index j.control) (advance (point_step t) m.tape m.index m.control) g.1 g.0

pub executes_alike : ExecutesAlike
executes_alike t e n j m of a = alike t e n j m of a
