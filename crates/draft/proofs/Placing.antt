-- What is noted at places is what is noted at indexes.
use Rattle.std.proofs.Common.{◌≡◌, ℕ, zero, suc, ◌<◌, Bool, true, false, cond, not, ◌&&◌, ◌||◌, eqb, ltb, leb, ◌⊎◌, List, [], ◌∷◌, ◌++◌, Some, None, Option, sym, refl, ap, ◌∙◌, ap₂, inl, inr, arith}
use Rattle.std.proofs.lemmas.Bool.{cases_order, lt-ltb, le-ltb, eq-eqb, ne_eqb}
use Rattle.words.specs.Bytes.{Text}
use Rattle.words.specs.Vocabulary.{ACCEPT, REJECT}
use Rattle.meaning.specs.declared.faults.Cause.{Cause}
use Rattle.meaning.specs.declared.faults.Cause.TheVariants.{Alphabet, ModuleName, Goto, Letter, Repeated, Limit}
use Rattle.meaning.specs.Numbers.{cause_number}
use Rattle.meaning.specs.Codes.{member, columns}
use Rattle.meaning.specs.Blocks.{Kind, Basic, basic, Block, settled, settled_kind, kinds}
use Rattle.meaning.specs.Faults.{Violation, before, lower, named, too_many}
use Rattle.draft.specs.Draft.{Entry, Pending, Letters, Draft, met, flagged, is_column, names_of, Seen, code_noted, resolved, first_number}
use Rattle.draft.specs.Building.{altered, Owner, numbered, arm_of, with_arms, filled}
use Rattle.draft.specs.Places.{Rises, violation_at, lowest_at, gotos_at, blocks_at, draft_at, KeepsPlaces}

gotos-++ : (at : ℕ → ℕ) (gs hs : List Pending) → gotos_at at gs ++ gotos_at at hs ≡ gotos_at at (gs ++ hs)
gotos-++ at [] hs = refl
gotos-++ at (g ∷ gs) hs = ap (λ ks. record { name = g.name; index = at g.index } ∷ ks) (gotos-++ at gs hs)

blocks-++ : (at : ℕ → ℕ) (bs cs : List (Block Text)) → blocks_at at bs ++ blocks_at at cs ≡ blocks_at at (bs ++ cs)
blocks-++ at [] cs = refl
blocks-++ at (b ∷ bs) cs = ap (λ ds. record { index = at b.index; kind = b.kind } ∷ ds) (blocks-++ at bs cs)

altered_places : (at : ℕ → ℕ) (bs : List (Block Text)) (q : ℕ) (f : Kind Text → Kind Text) → altered (blocks_at at bs) q f ≡ blocks_at at (altered bs q f)
altered_places at [] q f = refl
altered_places at (b ∷ bs) zero f = refl
altered_places at (b ∷ bs) (suc q) f = ap (λ ds. record { index = at b.index; kind = b.kind } ∷ ds) (altered_places at bs q f)

filled_places : (at : ℕ → ℕ) (o : Owner) (b : Basic Text) (bs : List (Block Text)) → filled o b (blocks_at at bs) ≡ blocks_at at (filled o b bs)
filled_places at (numbered q) b bs = altered_places at bs q (λ k. basic b)
filled_places at (arm_of q cs) b bs = altered_places at bs q (with_arms cs b)

kinds_places : (at : ℕ → ℕ) (start : Text → ℕ) (bs : List (Block Text)) → kinds (settled start (blocks_at at bs)) ≡ kinds (settled start bs)
kinds_places at start [] = refl
kinds_places at start (b ∷ bs) = ap (λ ks. settled_kind start b.kind ∷ ks) (kinds_places at start bs)

module _ (at : ℕ → ℕ) (rises : Rises at) where
  -- places are in the order of their indexes
  ltb_places : (i j : ℕ) → ltb (at i) (at j) ≡ ltb i j
  ltb_places i j = by (cases_order i j)
    where
      by : (i ≡ j) ⊎ ((i < j) ⊎ (j < i)) → ltb (at i) (at j) ≡ ltb i j
      by (inl e) = le-ltb (at i) (at j) (let z = ap at e in omega arith) ∙ sym (le-ltb i j (omega arith))
      by (inr (inl l)) = lt-ltb (at i) (at j) (rises i j l) ∙ sym (lt-ltb i j l)
      by (inr (inr l)) = le-ltb (at i) (at j) (let z = rises j i l in omega arith) ∙ sym (le-ltb i j (omega arith))

  eqb_places : (i j : ℕ) → eqb (at i) (at j) ≡ eqb i j
  eqb_places i j = by (cases_order i j)
    where
      by : (i ≡ j) ⊎ ((i < j) ⊎ (j < i)) → eqb (at i) (at j) ≡ eqb i j
      by (inl e) = eq-eqb (at i) (at j) (ap at e) ∙ sym (eq-eqb i j e)
      by (inr (inl l)) = ne_eqb (at i) (at j) (λ e. let z = rises i j l in omega arith) ∙ sym (ne_eqb i j (λ e. omega arith))
      by (inr (inr l)) = ne_eqb (at i) (at j) (λ e. let z = rises j i l in omega arith) ∙ sym (ne_eqb i j (λ e. omega arith))

  before_places : (f g : Violation) → before (violation_at at f) (violation_at at g) ≡ before f g
  before_places f g = ap₂ (λ (b c : Bool). b || (c && leb (cause_number f.cause) (cause_number g.cause))) (ltb_places f.index g.index) (eqb_places f.index g.index)

  lower_places : (f : Violation) (v : Option Violation) → lower (violation_at at f) (lowest_at at v) ≡ violation_at at (lower f v)
  lower_places f None = refl
  lower_places f (Some g) = ap (λ b. cond b (violation_at at f) (violation_at at g)) (before_places f g) ∙ by (before f g)
    where
      by : (b : Bool) → cond b (violation_at at f) (violation_at at g) ≡ violation_at at (cond b f g)
      by true = refl
      by false = refl

  met_places : (b : Bool) (i : ℕ) (n : Cause) (v : Option Violation) → met b (at i) n (lowest_at at v) ≡ lowest_at at (met b i n v)
  met_places true i n v = ap Some (lower_places (record { index = i; cause = n }) v)
  met_places false i n v = refl

  resolved_places : (ns : List Text) (gs : List Pending) (v : Option Violation) → resolved ns (gotos_at at gs) (lowest_at at v) ≡ lowest_at at (resolved ns gs v)
  resolved_places ns [] v = refl
  resolved_places ns (g ∷ gs) v =
      let b = not (named g.name ns) in
      ap (resolved ns (gotos_at at gs)) (met_places b g.index Goto v) ∙ resolved_places ns gs (met b g.index Goto v)

  begun_places : (over : Bool) (i : ℕ) (k : Kind Text) (bs : List (Block Text))
      → cond over (blocks_at at bs) (blocks_at at bs ++ (record { index = at i; kind = k } ∷ [])) ≡ blocks_at at (cond over bs (bs ++ (record { index = i; kind = k } ∷ [])))
  begun_places true i k bs = refl
  begun_places false i k bs = blocks-++ at bs (record { index = i; kind = k } ∷ [])

  flag_places : (b : Bool) (i : ℕ) (n : Cause) (x : Draft) → flagged b (at i) n (draft_at at x) ≡ draft_at at (flagged b i n x)
  flag_places b i n x = λ j. made x.names (gotos_at at x.gotos) x.count (blocks_at at x.blocks) (met_places b i n x.violation j)
    where
      made : List Entry → List Pending → ℕ → List (Block Text) → Option Violation → Draft
      made es gs c bs v = record { names = es; gotos = gs; count = c; blocks = bs; violation = v }

  code_places : (a : Letters) (c i : ℕ) (s : Seen) (x : Draft) → code_noted a c (at i) s (draft_at at x) ≡ draft_at at (code_noted a c i s x)
  code_places a c i s x = by (is_column a c)
    where
      by : (b : Bool) → cond b (flagged (s c) (at i) Repeated (draft_at at x)) (flagged true (at i) Letter (draft_at at x)) ≡ draft_at at (cond b (flagged (s c) i Repeated x) (flagged true i Letter x))
      by true = flag_places (s c) i Repeated x
      by false = flag_places true i Letter x

pub keeps_places : KeepsPlaces
keeps_places at rises = record {
  letter = λ c i x. let again = member c (columns x.letters) in
      λ j. record { letters = cond again x.letters (x.letters ++ c ∷ []); width = suc x.width; violation = met_places at rises again i Alphabet x.violation j };
  empty = λ a. refl;
  flag = flag_places at rises;
  name = λ w i x. let twice = named w (ACCEPT ∷ REJECT ∷ names_of x.names) in
      λ j. record { names = x.names ++ (record { name = w; first = x.count } ∷ []); gotos = gotos_at at x.gotos; count = x.count; blocks = blocks_at at x.blocks; violation = met_places at rises twice i ModuleName x.violation j };
  code = code_places at rises;
  goto = λ w i x j. record { names = x.names; gotos = gotos-++ at x.gotos (record { name = w; index = i } ∷ []) j; count = x.count; blocks = blocks_at at x.blocks; violation = lowest_at at x.violation };
  begin = λ a i k x. let over = too_many (suc x.count) a.width in
      λ j. record { names = x.names; gotos = gotos_at at x.gotos; count = suc x.count; blocks = begun_places at rises over i k x.blocks j; violation = met_places at rises over i Limit x.violation j };
  fill = λ o b x j. record { names = x.names; gotos = gotos_at at x.gotos; count = x.count; blocks = filled_places at o b x.blocks j; violation = lowest_at at x.violation };
  tell = λ x. resolved_places at rises (names_of x.names) x.gotos x.violation;
  finish = λ a x j. record { letters = a.letters; blocks = kinds_places at (first_number x.names) x.blocks j };
}
