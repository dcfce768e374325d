-- What is kept in memory of fixed size is what the draft holds, cut to size, as long as the draft is within the bounds.
use Rattle.std.proofs.Common.{◌≡◌, ℕ, zero, suc, ◌+◌, ◌-◌, ◌<◌, ◌≤◌, Bool, true, false, cond, not, ◌&&◌, ◌||◌, eqb, ltb, leb, ◌⊎◌, List, [], ◌∷◌, ◌++◌, length, get_or, take, set, replicate, Some, None, sym, refl, ap, ◌∙◌, subst, ap₂, inl, inr, append_assoc, arith, length-append}
use mathlib.Core.Path.{fun_ext}
use lib.Dec.{eqb-zero-suc, eqb-suc-zero, eqb-suc-suc}
use Rattle.std.proofs.lemmas.List.{take_all, take-take, take-append-le, length-take-le}
use Rattle.std.proofs.lemmas.Bool.{cases_lt, lt-ltb, le-ltb, leb-true, and_parts, and_from, or_parts, or_from, not-true, eqb-false, ne_eqb}
use Rattle.tape.specs.declared.kinds.Direction.{Direction}
use Rattle.tape.specs.Symbols.{within, letter_code}
use Rattle.words.specs.Bytes.{Text}
use Rattle.meaning.specs.declared.faults.Cause.TheVariants.{Letter, Repeated, Missing}
use Rattle.meaning.specs.Codes.{or_blank, word_code, member, different, columns}
use Rattle.meaning.specs.Blocks.{Then, next, jump, Basic, Kind, basic, switch, Block, lead}
use Rattle.meaning.specs.Faults.{too_many}
use Rattle.meaning.specs.Tables.{Each}
use Rattle.meaning.proofs.Names.{each_columns}
use Rattle.meaning.proofs.Pigeons.{at_most}
use Rattle.meaning.proofs.Ranges.{below_37, each-++}
use Rattle.draft.specs.Draft.{Entry, Pending, Letters, Draft, Seen, none_seen, seen_too, flagged as draft_flagged, all_seen as draft_seen, begun as draft_begun, name_noted as draft_name, is_column}
use Rattle.draft.specs.Building.{altered as draft_altered, filled as draft_filled, with_arms as draft_arms, Owner, numbered, arm_of, Current, fresh, last_rank, basic_from, closed, unfilled, next_begun}
use Rattle.draft.proofs.Tells.{member_mid}
use Rattle.events.specs.Event as event
use Rattle.events.specs.Event.{Event, played}
use Rattle.events.specs.Noting as noting
use Rattle.events.specs.Notes.{kept, counted, most_count, Notes, Open, State, apply, no_notes, empty_state, noted_as, flagged, with_current, letter_noted, name_noted, begun, altered, with_arms, filled, finished, next_number, basic_begun, command_noted, write_noted, turn_noted, jump_noted, switch_begun, opened, another_case, symbol_seen, symbol_noted, case_entered, all_seen, switch_ended, another_read, symbol_read, enter_read, ended_read, open_read}

-- ---- Lists cut to size.

-- one more at the end of a list cut to n
kept_take : {A : Type 0} (n : ℕ) (xs : List A) (x : A) → kept n (take n xs) x ≡ take n (xs ++ x ∷ [])
kept_take n xs x = by (cases_lt (length xs) n)
  where
    by : (length xs < n) ⊎ (n ≤ length xs) → kept n (take n xs) x ≡ take n (xs ++ x ∷ [])
    by (inl l) =
        ap (λ ys. kept n ys x) (take_all n xs (omega arith)) ∙ ap (λ b. cond b (xs ++ x ∷ []) xs) (lt-ltb (length xs) n l)
        ∙ sym (take_all n (xs ++ x ∷ []) (omega (arith, length-append xs (x ∷ []))))
    by (inr l) =
        ap (λ b. cond b (take n xs ++ x ∷ []) (take n xs)) (le-ltb (length (take n xs)) n (omega (arith, length-take-le n xs l)))
        ∙ sym (take-append-le n xs (x ∷ []) l)

-- one more at the end of a list that is short enough
kept_all : {A : Type 0} (n : ℕ) (xs : List A) (x : A) → length (xs ++ x ∷ []) ≤ n → kept n xs x ≡ xs ++ x ∷ []
kept_all n xs x l = ap (λ b. cond b (xs ++ x ∷ []) xs) (lt-ltb (length xs) n (omega (arith, length-append xs (x ∷ []))))

-- two lists, each cut, and cut again behind one another
take_joined : {A : Type 0} (n m : ℕ) (xs ys : List A) → n ≤ m → take n (take n xs ++ take m ys) ≡ take n (xs ++ ys)
take_joined zero m xs ys l = refl
take_joined (suc n) m [] ys l = take-take (suc n) m ys l
take_joined (suc n) m (x ∷ xs) ys l = ap (λ zs. x ∷ zs) (take_joined n m xs ys (omega arith))

-- arms of codes cut to n
lead_take : (n : ℕ) (cs : List ℕ) (b : Basic Text) → lead (take n cs) b ≡ take n (lead cs b)
lead_take zero cs b = refl
lead_take (suc n) [] b = refl
lead_take (suc n) (c ∷ cs) b = ap (λ as'. (c, b) ∷ as') (lead_take n cs b)

-- ---- Seen codes as a list.

-- for each code below n whether it was seen
unfoldable pub flags : ℕ → Seen → List Bool
flags zero s = []
flags (suc n) s = s 0 ∷ flags n (λ j. s (suc j))

-- before the first symbol
flags_none : (n : ℕ) → replicate n false ≡ flags n none_seen
unfolding flags
flags_none zero = refl
flags_none (suc n) = ap (λ l. false ∷ l) (flags_none n)

-- whether a code was seen
flags_get : (n : ℕ) (s : Seen) (c : ℕ) → c < n → get_or (flags n s) c false ≡ s c
unfolding flags
flags_get zero s c l = absurd (omega arith)
flags_get (suc n) s zero l = refl
flags_get (suc n) s (suc c) l = flags_get n (λ j. s (suc j)) c (omega arith)

-- one more code
flags_set : (n : ℕ) (s : Seen) (c : ℕ) → set (flags n s) c true ≡ flags n (seen_too c s)
unfolding flags
flags_set zero s c = refl
flags_set (suc n) s zero = ap (λ f. true ∷ flags n f) (fun_ext (λ j. ap (λ b. b || s (suc j)) (sym (eqb-suc-zero j))))
flags_set (suc n) s (suc c) =
    ap (λ l. s 0 ∷ l) (flags_set n (λ j. s (suc j)) c)
    ∙ ap₂ (λ b f. (b || s 0) ∷ flags n f) (sym (eqb-zero-suc c)) (fun_ext (λ j. ap (λ b. b || s (suc j)) (sym (eqb-suc-suc j c))))

-- whether all columns were seen
flags_seen : (cols : List ℕ) (s : Seen) → Each (λ c. c ≤ 36) cols → all_seen cols (flags 37 s) ≡ draft_seen cols s
flags_seen [] s h = refl
flags_seen (c ∷ cols) s h =
    ap₂ (λ (x y : Bool). cond x y false) (flags_get 37 s c (let z = h.0 in omega arith)) (flags_seen cols s h.1) ∙ by (s c) (draft_seen cols s)
  where
    by : (x y : Bool) → cond x y false ≡ (x && y)
    by true y = refl
    by false y = refl

-- ---- A state cut to size.

-- the first 37 arms of a switch
abbrev pub cut_kind : Kind Text → Kind Text
cut_kind (basic b) = basic b
cut_kind (switch arms) = switch (take 37 arms)

-- blocks without their places
abbrev pub cut_blocks : List (Block Text) → List (Kind Text)
cut_blocks [] = []
cut_blocks (b ∷ bs) = cut_kind b.kind ∷ cut_blocks bs

-- the first 37 codes of a case
abbrev pub cut_owner : Owner → Owner
cut_owner (numbered q) = numbered q
cut_owner (arm_of q cs) = arm_of q (take 37 cs)

-- so of the basic block under construction
abbrev pub cut_current : Current → Current
cut_current c = record { owner = cut_owner c.owner; write = c.write; move = c.move }

-- an open switch, with a list of what was seen
abbrev pub cut_open : noting.Open → Open
cut_open o = record { number = o.number; first = o.first; seen = flags 37 o.seen; codes = take 37 o.codes }

-- open switches
abbrev pub cut_opens : List noting.Open → List Open
cut_opens [] = []
cut_opens (o ∷ os) = cut_open o ∷ cut_opens os

-- letters, a draft and the basic block under construction as notes
abbrev pub cut_notes : Letters → Draft → Current → Notes
cut_notes a x c = record {
  letters = a.letters;
  width = a.width;
  names = x.names;
  gotos = x.gotos;
  count = x.count;
  blocks = cut_blocks x.blocks;
  violation = x.violation;
  current = cut_current c;
  name_room = 3749;
  goto_room = 5000;
}

-- a state
abbrev pub cut_state : noting.State → State
cut_state u = record { notes = cut_notes u.letters u.draft u.current; switches = cut_opens u.switches }

-- ---- Blocks.

-- what changes a kind changes it cut to size
altered_cut : (bs : List (Block Text)) (q : ℕ) (f g : Kind Text → Kind Text) → ((k : Kind Text) → f (cut_kind k) ≡ cut_kind (g k))
    → altered (cut_blocks bs) q f ≡ cut_blocks (draft_altered bs q g)
altered_cut [] q f g h = refl
altered_cut (b ∷ bs) zero f g h = ap (λ k. k ∷ cut_blocks bs) (h b.kind)
altered_cut (b ∷ bs) (suc q) f g h = ap (λ ks. cut_kind b.kind ∷ ks) (altered_cut bs q f g h)

-- more arms
arms_cut : (cs : List ℕ) (b : Basic Text) (k : Kind Text) → with_arms (take 37 cs) b (cut_kind k) ≡ cut_kind (draft_arms cs b k)
arms_cut cs b (basic c) = refl
arms_cut cs b (switch arms) =
    ap (λ l. switch (take 37 (take 37 arms ++ l))) (lead_take 37 cs b) ∙ ap switch (take_joined 37 37 arms (lead cs b) (omega arith))

-- the owner's basic block
filled_cut : (o : Owner) (b : Basic Text) (bs : List (Block Text)) → filled (cut_owner o) b (cut_blocks bs) ≡ cut_blocks (draft_filled o b bs)
filled_cut (numbered q) b bs = altered_cut bs q (λ k. basic b) (λ k. basic b) (λ k. refl)
filled_cut (arm_of q cs) b bs = altered_cut bs q (with_arms (take 37 cs) b) (draft_arms cs b) (arms_cut cs b)

-- one more block
blocks_more : (bs : List (Block Text)) (b : Block Text) → cut_blocks bs ++ cut_kind b.kind ∷ [] ≡ cut_blocks (bs ++ b ∷ [])
blocks_more [] b = refl
blocks_more (c ∷ bs) b = ap (λ ks. cut_kind c.kind ∷ ks) (blocks_more bs b)

-- one more, while it is within what is counted
counted_is : (n : ℕ) → suc n ≤ most_count → counted n ≡ suc n
counted_is n h = omega arith

-- the basic block under construction is finished
finished_cut : (t : Then Text) (a : Letters) (x : Draft) (c : Current) → finished t (cut_notes a x c) ≡ cut_notes a (closed c t x) c
unfolding finished
finished_cut t a x c = λ j. record {
  letters = a.letters;
  width = a.width;
  names = x.names;
  gotos = x.gotos;
  count = x.count;
  blocks = filled_cut c.owner (basic_from c t) x.blocks j;
  violation = x.violation;
  current = cut_current c;
  name_room = 3749;
  goto_room = 5000;
}

-- a block begins
begun_cut : (p : ℕ) (k : Kind Text) (a : Letters) (x : Draft) (c : Current) → suc x.count ≤ most_count → begun p (cut_kind k) (cut_notes a x c) ≡ cut_notes a (draft_begun a p k x) c
unfolding begun
begun_cut p k a x c h = λ j. record {
  letters = a.letters;
  width = a.width;
  names = x.names;
  gotos = x.gotos;
  count = counted_is x.count h j;
  blocks = by (too_many (suc x.count) a.width) j;
  violation = (draft_begun a p k x).violation;
  current = cut_current c;
  name_room = 3749;
  goto_room = 5000;
}
  where
    by : (over : Bool) → cond over (cut_blocks x.blocks) (cut_blocks x.blocks ++ cut_kind k ∷ []) ≡ cut_blocks (cond over x.blocks (x.blocks ++ (record { index = p; kind = k } ∷ [])))
    by true = refl
    by false = blocks_more x.blocks (record { index = p; kind = k })

-- a basic block begins, and is under construction
basic_begun_cut : (p : ℕ) (a : Letters) (x : Draft) (c : Current) → suc x.count ≤ most_count
    → basic_begun p (cut_notes a x c) ≡ cut_notes a (draft_begun a p unfilled x) (fresh (numbered x.count))
unfolding basic_begun with_current
basic_begun_cut p a x c h = ap (with_current (fresh (numbered x.count))) (begun_cut p unfilled a x c h)

-- ---- Letters: they differ from one another and from blank, so there are at most 36.

-- codes are at most 36
letter_small : (b : ℕ) → or_blank (letter_code b) ≤ 36
letter_small b = at (within 97 122 b) (within 48 57 b) refl refl
  where
    at : (v w : Bool) → within 97 122 b ≡ v → within 48 57 b ≡ w → or_blank (cond v (Some (b - 96)) (cond w (Some (b - 21)) None)) ≤ 36
    at true w p q = let k = leb-true b 122 (and_parts (leb 97 b) (leb b 122) p).1 in omega arith
    at false true p q = let k = leb-true b 57 (and_parts (leb 48 b) (leb b 57) q).1 in omega arith
    at false false p q = omega arith

word_small : (w : Text) → word_code w ≤ 36
word_small [] = omega arith
word_small (b ∷ []) = letter_small b
word_small (b ∷ c ∷ cs) = omega arith

-- a letter that is no column yet
columns_more : (ls : List ℕ) (c : ℕ) → different (columns ls) ≡ true → member c (columns ls) ≡ false → different (columns (ls ++ c ∷ [])) ≡ true
columns_more [] c d m = and_from (not (member c (0 ∷ []))) true (ap not m) refl
columns_more (x ∷ xs) c d m =
    let p = and_parts (not (member x (columns xs))) (different (columns xs)) d in
    let q = or_parts (eqb c x) (member c (columns xs)) m in
    let e : member x (columns (xs ++ c ∷ [])) ≡ false =
    ap (member x) (append_assoc xs (c ∷ []) (0 ∷ [])) ∙ member_mid x c xs (0 ∷ [])
    ∙ or_from (eqb x c) (member x (columns xs)) (ne_eqb x c (λ e. eqb-false c x q.0 (sym e))) (not-true (member x (columns xs)) p.0) in
    and_from (not (member x (columns (xs ++ c ∷ [])))) (different (columns (xs ++ c ∷ []))) (ap not e) (columns_more xs c p.1 q.1)

-- letters that differ from one another and from blank, and are codes
pub record Sound (a : Letters) : Type 0 where
  pub differ : different (columns a.letters) ≡ true
  pub small : Each (λ c. c ≤ 36) a.letters

-- a draft and letters that fit
pub record Fits (v : noting.State) : Type 0 where
  pub names : length v.draft.names ≤ 3749
  pub gotos : length v.draft.gotos ≤ 5000
  pub count : v.draft.count ≤ most_count
  pub width : v.letters.width ≤ most_count

-- what an event that takes u to v makes of u cut to size
pub record Step (u v : noting.State) (s : State) : Type 0 where
  pub names : length u.draft.names ≤ length v.draft.names
  pub gotos : length u.draft.gotos ≤ length v.draft.gotos
  pub count : v.draft.count ≤ suc u.draft.count
  pub width : v.letters.width ≤ suc u.letters.width
  pub sound : Sound u.letters → Sound v.letters
  pub same : Sound u.letters → Fits v → s ≡ cut_state v

-- an event that leaves the letters, the names and the gotos as they are
plain : (u v : noting.State) (s : State) → v.letters ≡ u.letters → v.draft.names ≡ u.draft.names → v.draft.gotos ≡ u.draft.gotos
    → v.draft.count ≤ suc u.draft.count → (Sound u.letters → Fits v → s ≡ cut_state v) → Step u v s
plain u v s a n g c h = record {
  names = omega (arith, ap length n);
  gotos = omega (arith, ap length g);
  count = c;
  width = omega (arith, ap (λ (l : Letters). l.width) a);
  sound = λ d. subst Sound (sym a) d;
  same = h;
}

-- notes that are those of a draft cut to size make a state cut to size
noted_cut : (x : Notes) (u v : noting.State) → v.switches ≡ u.switches → x ≡ cut_notes v.letters v.draft v.current → noted_as x (cut_state u) ≡ cut_state v
noted_cut x u v o e = λ j. record { notes = e j; switches = cut_opens (sym o j) }

-- ---- What each event makes of a state cut to size.

letter_step : (c p : ℕ) (u : noting.State) → c ≤ 36 → Step u (noting.letter_read c p u) (noted_as (letter_noted c p (cut_state u).notes) (cut_state u))
unfolding letter_noted
letter_step c p u l = record {
  names = omega arith;
  gotos = omega arith;
  count = omega arith;
  width = omega arith;
  sound = λ s. let q = sound_by (member c (columns ls)) refl s in record { differ = q.1; small = q.0 };
  same = λ s f. λ j. record {
    notes = record {
      letters = same_letters (member c (columns ls)) refl s j;
      width = counted_is u.letters.width f.width j;
      names = u.draft.names;
      gotos = u.draft.gotos;
      count = u.draft.count;
      blocks = cut_blocks u.draft.blocks;
      violation = (noting.letter_read c p u).draft.violation;
      current = cut_current u.current;
      name_room = 3749;
      goto_room = 5000;
    };
    switches = cut_opens u.switches;
  };
}
  where
    ls : List ℕ
    ls = u.letters.letters

    sound_by : (b : Bool) → member c (columns ls) ≡ b → Sound u.letters → Each (λ d. d ≤ 36) (cond b ls (ls ++ c ∷ [])) × (different (columns (cond b ls (ls ++ c ∷ []))) ≡ true)
    sound_by true e s = (s.small, s.differ)
    sound_by false e s = (each-++ (λ d. d ≤ 36) ls (c ∷ []) s.small (l, tt), columns_more ls c s.differ e)

    same_letters : (b : Bool) → member c (columns ls) ≡ b → Sound u.letters → cond b ls (kept 36 ls c) ≡ cond b ls (ls ++ c ∷ [])
    same_letters true e s = refl
    same_letters false e s =
        let q = sound_by false e s in
        let new = ls ++ c ∷ [] in
        kept_all 36 ls c (omega (arith, at_most 37 (columns new) q.1 (below_37 (columns new) (each_columns new q.0)), length-append new (0 ∷ [])))

name_step : (w : Text) (p : ℕ) (u : noting.State) → Step u (noting.noting (event.name w) p u) (apply (event.name w) p (cut_state u))
unfolding name_noted
name_step w p u =
    let x = u.draft in
    let entry : Entry = record { name = w; first = x.count } in
    record {
      names = omega (arith, length-append x.names (entry ∷ []));
      gotos = omega arith;
      count = omega arith;
      width = omega arith;
      sound = λ s. s;
      same = λ s f. λ j. record {
        notes = record {
          letters = u.letters.letters;
          width = u.letters.width;
          names = kept_all 3749 x.names entry f.names j;
          gotos = x.gotos;
          count = x.count;
          blocks = cut_blocks x.blocks;
          violation = (draft_name w p x).violation;
          current = cut_current u.current;
          name_room = 3749;
          goto_room = 5000;
        };
        switches = cut_opens u.switches;
      };
    }

begin_step : (p : ℕ) (u : noting.State) → Step u (noting.begin_read p u) (apply event.begin p (cut_state u))
begin_step p u = plain u (noting.begin_read p u) (apply event.begin p (cut_state u)) refl refl refl (omega arith)
    (λ s f. noted_cut (basic_begun p (cut_state u).notes) u (noting.begin_read p u) refl (basic_begun_cut p u.letters u.draft u.current f.count))

begin_finish_step : (t : Then Text) (p : ℕ) (u : noting.State) → Step u (noting.noting (event.begin_finish t) p u) (apply (event.begin_finish t) p (cut_state u))
begin_finish_step t p u =
    let v = noting.begin_read p u in
    plain u (noting.finish_read t v) (apply (event.begin_finish t) p (cut_state u)) refl refl refl (omega arith)
    (λ s f. noted_cut (finished t (basic_begun p (cut_state u).notes)) u (noting.finish_read t v) refl
    (ap (finished t) (basic_begun_cut p u.letters u.draft u.current f.count) ∙ finished_cut t v.letters v.draft v.current))

command_step : (r p : ℕ) (u : noting.State) → Step u (noting.command_read r p u) (apply (event.command r) p (cut_state u))
unfolding command_noted
command_step r p u = by (ltb (last_rank u.current) r)
  where
    q : ℕ
    q = u.draft.count

    new : noting.State
    new = noting.with_progress (next_begun u.letters u.current p u.draft) u

    by : (b : Bool) → Step u (cond b u new) (noted_as (cond b (cut_state u).notes (basic_begun p (finished (next q) (cut_state u).notes))) (cut_state u))
    by true = plain u u (cut_state u) refl refl refl (omega arith) (λ s f. refl)
    by false = plain u new (noted_as (basic_begun p (finished (next q) (cut_state u).notes)) (cut_state u)) refl refl refl (omega arith)
        (λ s f. noted_cut (basic_begun p (finished (next q) (cut_state u).notes)) u new refl
        (ap (basic_begun p) (finished_cut (next q) u.letters u.draft u.current)
        ∙ basic_begun_cut p u.letters (closed u.current (next q) u.draft) u.current f.count))

write_step : (c p : ℕ) (u : noting.State) → Step u (noting.write_read c p u) (noted_as (write_noted c p (cut_state u).notes) (cut_state u))
unfolding write_noted with_current flagged
write_step c p u = plain u (noting.write_read c p u) (noted_as (write_noted c p (cut_state u).notes) (cut_state u)) refl refl refl (omega arith) (λ s f. refl)

turn_step : (d : Direction) (p : ℕ) (u : noting.State) → Step u (noting.noting (event.turn d) p u) (apply (event.turn d) p (cut_state u))
unfolding turn_noted with_current
turn_step d p u = plain u (noting.noting (event.turn d) p u) (apply (event.turn d) p (cut_state u)) refl refl refl (omega arith) (λ s f. refl)

finish_step : (t : Then Text) (p : ℕ) (u : noting.State) → Step u (noting.finish_read t u) (apply (event.finish t) p (cut_state u))
finish_step t p u = plain u (noting.finish_read t u) (apply (event.finish t) p (cut_state u)) refl refl refl (omega arith)
    (λ s f. noted_cut (finished t (cut_state u).notes) u (noting.finish_read t u) refl (finished_cut t u.letters u.draft u.current))

jump_step : (w : Text) (p : ℕ) (u : noting.State) → Step u (noting.noting (event.jump w) p u) (apply (event.jump w) p (cut_state u))
unfolding jump_noted finished
jump_step w p u =
    let x = u.draft in
    let c = u.current in
    let pending : Pending = record { name = w; index = p } in
    record {
      names = omega arith;
      gotos = omega (arith, length-append x.gotos (pending ∷ []));
      count = omega arith;
      width = omega arith;
      sound = λ s. s;
      same = λ s f. λ j. record {
        notes = record {
          letters = u.letters.letters;
          width = u.letters.width;
          names = x.names;
          gotos = kept_all 5000 x.gotos pending f.gotos j;
          count = x.count;
          blocks = filled_cut c.owner (basic_from c (jump w)) x.blocks j;
          violation = x.violation;
          current = cut_current c;
          name_room = 3749;
          goto_room = 5000;
        };
        switches = cut_opens u.switches;
      };
    }

-- a switch begins at a place
open_cut : (p : ℕ) (u : noting.State) → suc u.draft.count ≤ most_count → open_read p (cut_state u).notes (cut_opens u.switches) ≡ cut_state (noting.open_read p u)
unfolding switch_begun opened
open_cut p u h = λ j. record {
  notes = begun_cut p (switch []) u.letters u.draft u.current h j;
  switches = record { number = u.draft.count; first = p; seen = flags_none 37 j; codes = [] } ∷ cut_opens u.switches;
}

begin_switch_step : (p : ℕ) (u : noting.State) → Step u (noting.open_read p u) (apply event.begin_switch p (cut_state u))
begin_switch_step p u = plain u (noting.open_read p u) (apply event.begin_switch p (cut_state u)) refl refl refl (omega arith) (λ s f. open_cut p u f.count)

next_switch_step : (p : ℕ) (u : noting.State) → Step u (noting.noting event.next_switch p u) (apply event.next_switch p (cut_state u))
unfolding next_number
next_switch_step p u =
    let t = next u.draft.count in
    let v = noting.finish_read t u in
    plain u (noting.open_read p v) (apply event.next_switch p (cut_state u)) refl refl refl (omega arith)
    (λ s f. ap (λ x. open_read p x (cut_opens u.switches)) (finished_cut t u.letters u.draft u.current) ∙ open_cut p v f.count)

another_step : (os : List noting.Open) (u : noting.State) → Step u (noting.another_read os u) (another_read (cut_opens os) (cut_state u))
unfolding another_case
another_step [] u = plain u u (cut_state u) refl refl refl (omega arith) (λ s f. refl)
another_step (o ∷ os) u = plain u (noting.another_read (o ∷ os) u) (another_read (cut_opens (o ∷ os)) (cut_state u)) refl refl refl (omega arith) (λ s f. refl)

symbol_step : (c p : ℕ) (os : List noting.Open) (u : noting.State) → c ≤ 36 → Step u (noting.symbol_read c p os u) (symbol_read c p (cut_opens os) (cut_state u))
unfolding symbol_seen symbol_noted flagged
symbol_step c p [] u l = plain u u (cut_state u) refl refl refl (omega arith) (λ s f. refl)
symbol_step c p (o ∷ os) u l = by (is_column u.letters c)
  where
    a : Letters
    a = u.letters

    x : Draft
    x = u.draft

    y : Bool → Draft
    y b = cond b (draft_flagged (o.seen c) p Repeated x) (draft_flagged true p Letter x)

    z : Bool → Notes
    z b = cond b (flagged (get_or (flags 37 o.seen) c false) p Repeated (cut_notes a x u.current)) (flagged true p Letter (cut_notes a x u.current))

    v : Bool → noting.State
    v b = record {
      letters = a;
      draft = y b;
      current = u.current;
      switches = record { number = o.number; first = o.first; seen = seen_too c o.seen; codes = o.codes ++ c ∷ [] } ∷ os;
    }

    s : Bool → State
    s b = record { notes = z b; switches = symbol_seen c (cut_open o) ∷ cut_opens os }

    open_same : symbol_seen c (cut_open o) ≡ cut_open (record { number = o.number; first = o.first; seen = seen_too c o.seen; codes = o.codes ++ c ∷ [] })
    open_same = λ j. record { number = o.number; first = o.first; seen = flags_set 37 o.seen c j; codes = kept_take 37 o.codes c j }

    by : (b : Bool) → Step u (v b) (s b)
    by true = plain u (v true) (s true) refl refl refl (omega arith) (λ d f. λ j. record {
      notes = flagged (flags_get 37 o.seen c (omega arith) j) p Repeated (cut_notes a x u.current);
      switches = open_same j ∷ cut_opens os;
    })
    by false = plain u (v false) (s false) refl refl refl (omega arith) (λ d f. λ j. record { notes = z false; switches = open_same j ∷ cut_opens os })

enter_step : (os : List noting.Open) (u : noting.State) → os ≡ u.switches → Step u (noting.enter_read os u) (enter_read (cut_opens os) (cut_state u))
unfolding case_entered with_current
enter_step [] u e = plain u u (cut_state u) refl refl refl (omega arith) (λ s f. refl)
enter_step (o ∷ os) u e = plain u (noting.enter_read (o ∷ os) u) (enter_read (cut_opens (o ∷ os)) (cut_state u)) refl refl refl (omega arith)
    (λ s f. λ j. record { notes = cut_notes u.letters u.draft (fresh (arm_of o.number o.codes)); switches = cut_opens (e j) })

ended_step : (os : List noting.Open) (u : noting.State) → Step u (noting.ended_read os u) (ended_read (cut_opens os) (cut_state u))
unfolding switch_ended flagged
ended_step [] u = plain u u (cut_state u) refl refl refl (omega arith) (λ s f. refl)
ended_step (o ∷ os) u = plain u (noting.ended_read (o ∷ os) u) (ended_read (cut_opens (o ∷ os)) (cut_state u)) refl refl refl (omega arith)
    (λ s f. λ j. record {
      notes = flagged (not (flags_seen (columns u.letters.letters) o.seen (each_columns u.letters.letters s.small) j)) o.first Missing (cut_state u).notes;
      switches = cut_opens os;
    })

-- so of every event
step : (e : Event) (p : ℕ) (u : noting.State) → Step u (noting.noting e p u) (apply e p (cut_state u))
step event.quiet p u = plain u u (cut_state u) refl refl refl (omega arith) (λ s f. refl)
step (event.letter w) p u = letter_step (word_code w) p u (word_small w)
step (event.name w) p u = name_step w p u
step event.begin p u = begin_step p u
step (event.begin_finish t) p u = begin_finish_step t p u
step (event.command r) p u = command_step r p u
step (event.write w) p u = write_step (word_code w) p u
step (event.turn d) p u = turn_step d p u
step (event.finish t) p u = finish_step t p u
step (event.jump w) p u = jump_step w p u
step event.begin_switch p u = begin_switch_step p u
step event.next_switch p u = next_switch_step p u
step event.another p u = another_step u.switches u
step (event.symbol w) p u = symbol_step (word_code w) p u.switches u (word_small w)
step event.enter p u = enter_step u.switches u refl
step event.ended p u = ended_step u.switches u

-- ---- Events one after another.

-- names and gotos only grow
grows : (es : List Event) (ps : List ℕ) (u : noting.State)
    → (length u.draft.names ≤ length (played noting.noting es ps u).draft.names) × (length u.draft.gotos ≤ length (played noting.noting es ps u).draft.gotos)
grows [] ps u = (omega arith, omega arith)
grows (e ∷ es) [] u = (omega arith, omega arith)
grows (e ∷ es) (p ∷ ps) u =
    let s = step e p u in
    let h = grows es ps (noting.noting e p u) in
    (omega (arith, s.names, h.0), omega (arith, s.gotos, h.1))

-- where the end of the events has no more names and gotos than are kept, all that is kept is what the draft holds, cut to size
pub played_cut : (es : List Event) (ps : List ℕ) (u : noting.State) → Sound u.letters
    → length (played noting.noting es ps u).draft.names ≤ 3749 → length (played noting.noting es ps u).draft.gotos ≤ 5000
    → u.draft.count + length es ≤ most_count → u.letters.width + length es ≤ most_count
    → played apply es ps (cut_state u) ≡ cut_state (played noting.noting es ps u)
played_cut [] ps u s n g c w = refl
played_cut (e ∷ es) [] u s n g c w = refl
played_cut (e ∷ es) (p ∷ ps) u s n g c w =
    let t = step e p u in
    let v = noting.noting e p u in
    let h = grows es ps v in
    ap (played apply es ps) (t.same s (record { names = omega (arith, n, h.0); gotos = omega (arith, g, h.1); count = omega (arith, t.count, c); width = omega (arith, t.width, w) }))
    ∙ played_cut es ps v (t.sound s) n g (omega (arith, t.count, c)) (omega (arith, t.width, w))

-- so from the beginning
pub events_cut : (es : List Event) (ps : List ℕ)
    → length (played noting.noting es ps noting.empty_state).draft.names ≤ 3749 → length (played noting.noting es ps noting.empty_state).draft.gotos ≤ 5000 → length es ≤ 60000
    → played apply es ps empty_state ≡ cut_state (played noting.noting es ps noting.empty_state)
unfolding no_notes
events_cut es ps n g l = played_cut es ps noting.empty_state (record { differ = refl; small = tt }) n g (omega arith) (omega arith)
