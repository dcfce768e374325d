-- A table that writes back what a block leaves does the same.
use Rattle.std.proofs.Common.{◌≡◌, ℕ, zero, suc, ◌+◌, ◌<◌, Bool, true, false, cond, not, ◌&&◌, ◌||◌, eqb, ltb, leb, List, [], ◌∷◌, map, length, get_or, Some, None, Option, sym, refl, ap, ◌∙◌, add-zero, zero-add, arith}
use Rattle.std.proofs.lemmas.Bool.{eqb-true, ltb-true, false≢true}
use Rattle.std.proofs.lemmas.List.{set-get_or}
use Rattle.words.specs.Bytes.{Text}
use Rattle.meaning.specs.Codes.{member, position, columns}
use Rattle.meaning.specs.declared.refusals.Refusal.{Refusal}
use Rattle.meaning.specs.declared.refusals.Refusal.TheVariants.{Edge, Capacity, Verdict, Number, Symbol, Total, Fuel}
use Rattle.meaning.specs.Blocks.{Kind, Block, settled, kinds, Compiled}
use Rattle.tape.specs.Meaning.{Meaning, nonblank, at_head, at_end, moved}
use Rattle.meaning.specs.declared.machines.Action.{Action}
use Rattle.meaning.specs.Rules.{Rules, basic_action, current, kind_at, by_blocks, fresh, entry_action, by_table, or_this, action_entry, block_row, block_rows, translation}
use Rattle.meaning.specs.declared.machines.Entry.{Entry}
use Rattle.meaning.specs.Runs.{Config, Answered, over, first, write_no_room, write_after, action_here, step_refusal, number_after, status_after, after, unless, step_of, Went, onward, refused_or, steps, go_of, call, play}
use Rattle.meaning.specs.declared.calls.Call.{Call}
use Rattle.meaning.specs.declared.calls.Call.TheVariants.{Step, Go, Mark, Nudge, Restart, Window}
use Rattle.meaning.specs.declared.calls.Answer.{Answer}
use Rattle.meaning.specs.declared.calls.Answer.TheVariants.{Stepped}
use Rattle.meaning.specs.Laws.{Agreement}
use Rattle.meaning.proofs.Keeps.{some_none}

abbrev pub fill : ℕ → Action → Action
fill c d = entry_action (action_entry c d)

never : (b x : Bool) → b && (not b && x) ≡ false
never true x = refl
never false x = refl

fill_room : (t : Meaning) (w : Option ℕ) → write_no_room t (Some (or_this (at_head t) w)) ≡ write_no_room t w
fill_room t None = never (eqb (at_head t) 0) (leb t.capacity (nonblank t.cells))
fill_room t (Some c) = refl

fill_written : (t : Meaning) (w : Option ℕ) → write_after t (Some (or_this (at_head t) w)) ≡ write_after t w
fill_written t None = ap (λ (xs : List ℕ). let r : Meaning = record { capacity = t.capacity; cells = xs; head = t.head } in r) (set-get_or t.cells t.head 0)
fill_written t (Some c) = refl

abbrev placed_after : Action → Config → Meaning → Config
placed_after d k t = record { tape = moved t d.direction; number = number_after k.number d.next; status = status_after d.next; total = k.total + 1 }

fill_after : (d : Action) (k : Config) → after (fill (at_head k.tape) d) k ≡ after d k
fill_after d k = ap (placed_after d k) (fill_written k.tape d.write)

abbrev gated : Bool → Bool → Bool → Bool → Option Refusal → Option Refusal
gated b1 b2 b3 b4 x = cond b1 (Some Verdict) (cond (not b2) (Some Number) (cond b3 (Some Total) (cond (not b4) (Some Symbol) x)))

gate : (b1 b2 b3 b4 : Bool) (x y : Option Refusal) → (b2 ≡ true → b4 ≡ true → x ≡ y) → gated b1 b2 b3 b4 x ≡ gated b1 b2 b3 b4 y
gate true b2 b3 b4 x y h = refl
gate false false b3 b4 x y h = refl
gate false true true b4 x y h = refl
gate false true false false x y h = refl
gate false true false true x y h = h refl refl

opened : (b1 b2 b3 b4 : Bool) (x : Option Refusal) → gated b1 b2 b3 b4 x ≡ None → (b2 ≡ true) × (b4 ≡ true)
opened true b2 b3 b4 x e = some_none Verdict e
opened false false b3 b4 x e = some_none Number e
opened false true true b4 x e = some_none Total e
opened false true false false x e = some_none Symbol e
opened false true false true x e = (refl, refl)

abbrev ends : Meaning → Action → Option Refusal
ends t d = first ((at_end t d.direction, Edge) ∷ (write_no_room t d.write, Capacity) ∷ [])

unless_same : (o : Option Refusal) (k : Config) (x y : Answered) → (o ≡ None → x ≡ y) → unless o k x ≡ unless o k y
unless_same None k x y h = h refl
unless_same (Some n) k x y h = refl

refused_same : (o : Option Refusal) (k : Config) (x y : Went) → (o ≡ None → x ≡ y) → refused_or o k x ≡ refused_or o k y
refused_same None k x y h = h refl
refused_same (Some n) k x y h = refl

module _ (cols : List ℕ) (n : ℕ) (f g : ℕ → ℕ → Action) (h : (q c : ℕ) → ltb q n ≡ true → member c cols ≡ true → g q c ≡ fill c (f q c)) where
  abbrev R : Rules
  R = record { numbers = n; symbols = cols; action = f }

  abbrev S : Rules
  S = record { numbers = n; symbols = cols; action = g }

  ends_same : (k : Config) (d : Action) → d ≡ fill (at_head k.tape) (action_here R k) → ends k.tape (action_here R k) ≡ ends k.tape d
  ends_same k d e = sym (ap (ends k.tape) e ∙ ap (λ b. cond (at_end k.tape (action_here R k).direction) (Some Edge) (cond b (Some Capacity) None)) (fill_room k.tape (action_here R k).write))

  refusal_same : (k : Config) → step_refusal R k ≡ step_refusal S k
  refusal_same k = gate (over k.status) (ltb k.number n) (leb 1000000000 k.total) (member (at_head k.tape) cols) (ends k.tape (action_here R k)) (ends k.tape (action_here S k))
      (λ p q. ends_same k (action_here S k) (h k.number (at_head k.tape) p q))

  action_same : (k : Config) → step_refusal R k ≡ None → action_here S k ≡ fill (at_head k.tape) (action_here R k)
  action_same k e =
      let o = opened (over k.status) (ltb k.number n) (leb 1000000000 k.total) (member (at_head k.tape) cols) (ends k.tape (action_here R k)) e in
      h k.number (at_head k.tape) o.0 o.1

  step_same : (k : Config) → step_of R k ≡ step_of S k
  step_same k =
      let out : Action → Answered = λ d. (Stepped (status_after d.next), after d k) in
      unless_same (step_refusal R k) k (out (action_here R k)) (out (action_here S k))
      (λ e. sym (ap out (action_same k e) ∙ ap (λ (j : Config). let o : Answered = (Stepped (status_after (action_here R k).next), j) in o) (fill_after (action_here R k) k)))
      ∙ ap (λ o. unless o k (out (action_here S k))) (refusal_same k)

  steps_same : (m : ℕ) (k : Config) → steps R m k ≡ steps S m k
  steps_same zero k = refl
  steps_same (suc m) k =
      let out : Action → Went = λ d. onward d.next (after d k) (steps S m (after d k)) in
      ap (λ w. refused_or (step_refusal R k) k (onward (action_here R k).next (after (action_here R k) k) w)) (steps_same m (after (action_here R k) k))
      ∙ refused_same (step_refusal R k) k (out (action_here R k)) (out (action_here S k))
      (λ e. sym (ap out (action_same k e) ∙ ap (λ j. onward (action_here R k).next j (steps S m j)) (fill_after (action_here R k) k)))
      ∙ ap (λ o. refused_or o k (out (action_here S k))) (refusal_same k)

  go_same : (m : ℕ) (k : Config) → go_of R m k ≡ go_of S m k
  go_same m k = ap (refused_or (first ((ltb 65535 m, Fuel) ∷ (over k.status, Verdict) ∷ [])) k) (steps_same m k)

  call_same : (c : Call) (k : Config) → call R c k ≡ call S c k
  call_same Step k = step_same k
  call_same (Go m) k = ap (λ (w : Went). let o : Answered = (Answer.Went w.count w.ending, w.config) in o) (go_same m k)
  call_same (Mark c) k = refl
  call_same (Nudge d) k = refl
  call_same Restart k = refl
  call_same Call.Report k = refl
  call_same Window k = refl

  play_same : (cs : List Call) (k : Config) → play R cs k ≡ play S cs k
  play_same [] k = refl
  play_same (c ∷ cs) k =
      let with-now : Answered → List Answer × Config = λ o. (o.0 ∷ (play S cs o.1).0, (play S cs o.1).1) in
      ap (λ (p : List Answer × Config). let r : List Answer × Config = ((call R c k).0 ∷ p.0, p.1) in r) (play_same cs (call R c k).1)
      ∙ ap with-now (call_same c k)

row_at : (cols : List ℕ) (p : ℕ) (bs : List (Kind ℕ)) (q : ℕ) → q < length bs → get_or (block_rows cols p bs) q [] ≡ block_row cols (p + q) (kind_at bs q)
row_at cols p [] q h = absurd (omega arith)
row_at cols p (b ∷ bs) zero h = ap (λ m. block_row cols m b) (sym (add-zero p))
row_at cols p (b ∷ bs) (suc q) h = row_at cols (suc p) bs q (omega arith) ∙ ap (λ m. block_row cols m (kind_at bs q)) (omega arith)

at_column : (f : ℕ → Entry) (c : ℕ) (d : Entry) (cols : List ℕ) → member c cols ≡ true → get_or (map f cols) (position c cols) d ≡ f c
at_column f c d [] h = absurd (false≢true h)
at_column f c d (x ∷ xs) h = here (eqb c x) refl h (at_column f c d xs)
  where
    here : (b : Bool) → eqb c x ≡ b → b || member c xs ≡ true → (member c xs ≡ true → get_or (map f xs) (position c xs) d ≡ f c) → get_or (map f (x ∷ xs)) (cond b 0 (suc (position c xs))) d ≡ f c
    here true e m ih = ap f (sym (eqb-true c x e))
    here false e m ih = ih m

pub settled_length : (at : Text → ℕ) (bs : List (Block Text)) → length (settled at bs) ≡ length bs
settled_length at [] = refl
settled_length at (b ∷ bs) = ap suc (settled_length at bs)

pub rows_length : (cols : List ℕ) (p : ℕ) (bs : List (Kind ℕ)) → length (block_rows cols p bs) ≡ length bs
rows_length cols p [] = refl
rows_length cols p (b ∷ bs) = ap suc (rows_length cols (suc p) bs)

pub kinds_length : (bs : List (Block ℕ)) → length (kinds bs) ≡ length bs
kinds_length [] = refl
kinds_length (b ∷ bs) = ap suc (kinds_length bs)

pub entry_same : (p : Compiled) (q c : ℕ) → ltb q (length p.blocks) ≡ true → member c (columns p.letters) ≡ true → (by_table (translation p)).action q c ≡ fill c ((by_blocks p).action q c)
entry_same p q c l m =
    let cols = columns p.letters in
    ap (λ r. entry_action (get_or r (position c cols) (fresh c))) (row_at cols 0 p.blocks q (ltb-true q (length p.blocks) l) ∙ ap (λ i. block_row cols i (kind_at p.blocks q)) (zero-add q))
    ∙ ap entry_action (at_column (λ x. action_entry x (basic_action q (current (kind_at p.blocks q) x))) c (fresh c) cols m)

pub agreement : Agreement
agreement p cs k =
    let cols = columns p.letters in
    play_same cols (length p.blocks) (by_blocks p).action (by_table (translation p)).action (entry_same p) cs k
    ∙ ap (λ n. play (record { numbers = n; symbols = cols; action = (by_table (translation p)).action }) cs k) (sym (rows_length cols 0 p.blocks))
