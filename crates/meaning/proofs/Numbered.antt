-- Numbers are places.
use Rattle.std.proofs.Common.{◌≡◌, ℕ, zero, suc, ◌+◌, ◌≤◌, Bool, true, false, cond, ◌||◌, eqb, ltb, List, [], ◌∷◌, ◌++◌, length, Some, None, sym, refl, ap, ◌∙◌, subst, arith}
use mathlib.Core.Option.{Option as Maybe, none, some}
use Rattle.std.proofs.lemmas.Bool.{false≢true}
use Rattle.words.specs.Bytes.{Text}
use Rattle.words.specs.Vocabulary.{same}
use Rattle.grammar.specs.Tree.{Direction as WrittenDirection, Act, Flow, accept, reject, goto, Once, once_change, once_move, Body, act_cases, acts_flow, Case, if, while, Cases, no_more, more, Inside, cases, body, Module, module', Program, program}
use Rattle.grammar.specs.Render.{acts_words, symbols_words, case_words, module_words}
use Rattle.meaning.specs.Codes.{member, columns}
use Rattle.meaning.specs.Blocks.{Part, rank, first_rank, before, ending, joined, parts, Then, again, accepting, rejecting, jump, next, end, Basic, Kind, basic, switch, Block, written_move, then_of, basic_of, some_part, some_case, first_of, first_basic, once_basic, case_basic, symbols_codes, case_codes, lead, part_length, part_blocks, later_part_blocks, rest_blocks, case_blocks, cases_blocks, switch_blocks, arms, inside_blocks, modules_blocks, all_modules, modules_at, drafts, start_in, start, settled_then, settled_basic, settled_arms, settled_kind, settled, kinds}
use Rattle.meaning.specs.Rules.{next_of, or_left, basic_action, arm, current, kind_at}
use Rattle.meaning.specs.Faults.{named, module_names, known, alphabet_faults, names_faults, modules_faults, limit_faults}
use Rattle.meaning.specs.Tables.{Each}
use Rattle.meaning.specs.Endless.{After, at, accepts, rejects, Step, SameAfter}
use Rattle.meaning.specs.TuringMachine.{state_after}
use Rattle.meaning.specs.Language.{Behind, of_case, of_module, Point, point, body_start, inside_start, named_start, rest_after, flow_after, direction_of, part_step, first_step, once_step, case_step, switch_step, point_step}
use Rattle.meaning.specs.Points.{part_points, later_part_points, rest_points, case_points, cases_points, switch_points, inside_points, modules_points, points, nth, SameStep, Numbered, NumbersArePoints}
use Rattle.meaning.proofs.Agree.{settled_length}
use Rattle.meaning.proofs.Only.{index_is, only_one}
use Rattle.meaning.proofs.Ranges.{nil_parts, ThenWithin, BasicWithin, KindWithin, BlockWithin, modules_within}

-- a stretch of a list of places, from q on
abbrev Stands : List Point → ℕ → List Point → Type 0
Stands ss q [] = Unit {0}
Stands ss q (x ∷ xs) = (nth ss q ≡ Some x) × Stands ss (suc q) xs

stands_cons : (y : Point) (ss : List Point) (q : ℕ) (xs : List Point) → Stands ss q xs → Stands (y ∷ ss) (suc q) xs
stands_cons y ss q [] h = tt
stands_cons y ss q (x ∷ xs) h = (h.0, stands_cons y ss (suc q) xs h.1)

stands_own : (ss : List Point) → Stands ss 0 ss
stands_own [] = tt
stands_own (x ∷ xs) = (refl, stands_cons x xs 0 xs (stands_own xs))

stands_at : (ss : List Point) (xs : List Point) {q r : ℕ} → q ≡ r → Stands ss q xs → Stands ss r xs
stands_at ss xs e h = subst (λ (n : ℕ). Stands ss n xs) e h

stands_parts : (ss : List Point) (q : ℕ) (xs ys : List Point) → Stands ss q (xs ++ ys) → Stands ss q xs × Stands ss (q + length xs) ys
stands_parts ss q [] ys h = (tt, stands_at ss ys (let z : q ≡ q + 0 = omega arith in z) h)
stands_parts ss q (x ∷ xs) ys h =
    let r = stands_parts ss (suc q) xs ys h.1 in
    ((h.0, r.0), stands_at ss ys (let z : suc q + length xs ≡ q + suc (length xs) = omega arith in z) r.1)

-- the first basic block of the case that holds c, with names for gotos
abbrev idle : Basic Text
idle = record { write = None; move = None; then = end }

abbrev arm_of : List (ℕ × Basic Text) → ℕ → Basic Text
arm_of [] c = idle
arm_of (a ∷ others) c = cond (eqb c a.0) a.1 (arm_of others c)

abbrev current_of : Kind Text → ℕ → Basic Text
current_of (basic b) c = b
current_of (switch arms') c = arm_of arms' c

arm_lead : (c : ℕ) (cs : List ℕ) (b : Basic Text) (others : List (ℕ × Basic Text)) → arm_of (lead cs b ++ others) c ≡ cond (member c cs) b (arm_of others c)
arm_lead c [] b others = refl
arm_lead c (x ∷ xs) b others = by (eqb c x) (arm_lead c xs b others)
  where
    by : (v : Bool) → arm_of (lead xs b ++ others) c ≡ cond (member c xs) b (arm_of others c) → cond v b (arm_of (lead xs b ++ others) c) ≡ cond (v || member c xs) b (arm_of others c)
    by true e = refl
    by false e = e

-- the parts of a body are not none
joined_some : (a : Act) (ps : List Part) → 1 ≤ length (joined a ps)
joined_some a [] = omega arith
joined_some a (p ∷ ps) = by (ltb (rank a) (first_rank p))
  where
    by : (v : Bool) → 1 ≤ length (cond v (before a p ∷ ps) (before a (ending none) ∷ p ∷ ps))
    by true = omega arith
    by false = omega arith

parts_some : (xs : List Act) (f : Flow) → 1 ≤ length (parts xs (some f))
parts_some [] f = omega arith
parts_some (a ∷ xs) f = joined_some a (parts xs (some f))

direction_same : (m : Maybe WrittenDirection) → or_left (written_move m) ≡ direction_of m
direction_same none = refl
direction_same (some d) = refl

module _ (t : Program) (ss : List Point) where
  -- what comes after a block at the place `here`, and the language's
  abbrev ThenLike : Point → Then Text → After Point → Type 0
  ThenLike here again (at s) = s ≡ here
  ThenLike here again accepts = ⊥
  ThenLike here again rejects = ⊥
  ThenLike here accepting (at s) = ⊥
  ThenLike here accepting accepts = Unit {0}
  ThenLike here accepting rejects = ⊥
  ThenLike here rejecting (at s) = ⊥
  ThenLike here rejecting accepts = ⊥
  ThenLike here rejecting rejects = Unit {0}
  ThenLike here (jump w) (at s) = s ≡ named_start (all_modules t) w
  ThenLike here (jump w) accepts = ⊥
  ThenLike here (jump w) rejects = ⊥
  ThenLike here (next r) (at s) = nth ss r ≡ Some s
  ThenLike here (next r) accepts = ⊥
  ThenLike here (next r) rejects = ⊥
  ThenLike here end (at s) = ⊥
  ThenLike here end accepts = ⊥
  ThenLike here end rejects = Unit {0}

  abbrev BasicLike : Point → Basic Text → Step Point → Type 0
  BasicLike here b x = (b.write ≡ x.write) × (or_left b.move ≡ x.direction) × ThenLike here b.then x.after

  abbrev KindLike : Kind Text → Point → Type 0
  KindLike k s = (c : ℕ) → BasicLike s (current_of k c) (point_step t s c)

  -- blocks in step with places
  abbrev Paired : List (Block Text) → List Point → Type 0
  Paired [] [] = Unit {0}
  Paired [] (x ∷ xs) = ⊥
  Paired (b ∷ bs) [] = ⊥
  Paired (b ∷ bs) (x ∷ xs) = KindLike b.kind x × Paired bs xs

  paired_length : (bs : List (Block Text)) (xs : List Point) → Paired bs xs → length bs ≡ length xs
  paired_length [] [] h = refl
  paired_length [] (x ∷ xs) h = absurd h
  paired_length (b ∷ bs) [] h = absurd h
  paired_length (b ∷ bs) (x ∷ xs) h = ap suc (paired_length bs xs h.1)

  paired-++ : (bs cs : List (Block Text)) (xs ys : List Point) → Paired bs xs → Paired cs ys → Paired (bs ++ cs) (xs ++ ys)
  paired-++ [] cs [] ys h k = k
  paired-++ [] cs (x ∷ xs) ys h k = absurd h
  paired-++ (b ∷ bs) cs [] ys h k = absurd h
  paired-++ (b ∷ bs) cs (x ∷ xs) ys h k = (h.0, paired-++ bs cs xs ys h.1 k)

  -- the number q is that of the rest
  abbrev RestAt : ℕ → After Point → Type 0
  RestAt q (at s) = nth ss q ≡ Some s
  RestAt q accepts = Unit {0}
  RestAt q rejects = Unit {0}

  then_like : (here : Point) (f : Maybe Flow) (ps : List Part) (cs : Cases) (out : Behind) (q : ℕ) → RestAt q (rest_after (point ps cs out)) → ThenLike here (then_of f (some_part ps (some_case cs)) q) (flow_after t f (rest_after (point ps cs out)))
  then_like here (some accept) ps cs out q h = tt
  then_like here (some reject) ps cs out q h = tt
  then_like here (some (goto n)) ps cs out q h = refl
  then_like here none [] no_more out q h = tt
  then_like here none [] (more c cs) out q h = h
  then_like here none (p ∷ ps) cs out q h = h

  part_like : (here : Point) (p : Part) (ps : List Part) (cs : Cases) (out : Behind) (q : ℕ) → RestAt q (rest_after (point ps cs out)) → BasicLike here (basic_of p (some_part ps (some_case cs)) q) (part_step t p (rest_after (point ps cs out)))
  part_like here p ps cs out q h = (refl, direction_same p.move, then_like here p.flow ps cs out q h)

  rest_is : (ps : List Part) (cs : Cases) (out : Behind) (q : ℕ) → Stands ss q (part_points ps cs out) → RestAt (q + length (part_points ps cs out)) (rest_after (point [] cs out)) → RestAt q (rest_after (point ps cs out))
  rest_is [] cs out q h r = subst (λ (n : ℕ). RestAt n (rest_after (point [] cs out))) (let z : q + 0 ≡ q = omega arith in z) r
  rest_is (p ∷ ps) cs out q h r = h.0

  row_like : (ps : List Part) (cs : Cases) (out : Behind) (i q : ℕ) → Stands ss q (part_points ps cs out) → RestAt (q + length (part_points ps cs out)) (rest_after (point [] cs out)) → Paired (part_blocks ps (some_case cs) i q) (part_points ps cs out)
  row_like [] cs out i q h r = tt
  row_like (p ∷ ps) cs out i q h r =
      let v = subst (λ (n : ℕ). RestAt n (rest_after (point [] cs out))) (let z : q + suc (length (part_points ps cs out)) ≡ suc q + length (part_points ps cs out) = omega arith in z) r in
      ((λ c. part_like (point (p ∷ ps) cs out) p ps cs out (suc q) (rest_is ps cs out (suc q) h.1 v)), row_like ps cs out (i + part_length p) (suc q) h.1 v)

  rest_row_like : (ps : List Part) (cs : Cases) (out : Behind) (i q : ℕ) → Stands ss q (later_part_points ps cs out) → RestAt (q + length (later_part_points ps cs out)) (rest_after (point [] cs out)) → Paired (later_part_blocks ps (some_case cs) i q) (later_part_points ps cs out)
  rest_row_like [] cs out i q h r = tt
  rest_row_like (p ∷ ps) cs out i q h r = row_like ps cs out (i + part_length p) q h r

  first_like : (here : Point) (ps : List Part) (cs : Cases) (out : Behind) (q : ℕ) → Stands ss q (later_part_points ps cs out) → RestAt (q + length (later_part_points ps cs out)) (rest_after (point [] cs out)) → BasicLike here (first_of ps (some_case cs) q) (first_step t (point ps cs out))
  first_like here [] cs out q h r = part_like here (ending none) [] cs out q (rest_is [] cs out q tt r)
  first_like here (p ∷ ps) cs out q h r = part_like here p ps cs out q (rest_is ps cs out q h r)

  switch_first : (cs : Cases) (out : Behind) (q : ℕ) → Stands ss q (switch_points cs out) → RestAt q (rest_after (point [] cs out))
  switch_first no_more out q h = tt
  switch_first (more c cs) out q h = h.0

  once_like : (o : Once) (here : Point) → BasicLike here (once_basic o) (once_step o here)
  once_like (once_change s m) here = (refl, direction_same m, refl)
  once_like (once_move d) here = (refl, refl, refl)

  case_armed : (here : Point) (k : Case) (ks : Cases) (out : Behind) (c q : ℕ) (others : List (ℕ × Basic Text)) → BasicLike here (case_basic k q) (case_step t here k (of_case ks out)) → BasicLike here (arm_of others c) (switch_step t here ks out c)
      → BasicLike here (arm_of (lead (case_codes k) (case_basic k q) ++ others) c) (switch_step t here (more k ks) out c)
  case_armed here k ks out c q others h l =
      subst (λ (b : Basic Text). BasicLike here b (switch_step t here (more k ks) out c)) (sym (arm_lead c (case_codes k) (case_basic k q) others)) (by (member c (case_codes k)))
    where
      by : (v : Bool) → BasicLike here (cond v (case_basic k q) (arm_of others c)) (cond v (case_step t here k (of_case ks out)) (switch_step t here ks out c))
      by true = h
      by false = l

  body_first : (b : Body) (out : Behind) (here : Point) (q : ℕ) → Stands ss q (rest_points b out) → BasicLike here (first_basic b q) (first_step t (body_start b out))
  body_first (act_cases a xs cs) out here q h =
      let ps = parts (a ∷ xs) none in
      let s = stands_parts ss q (later_part_points ps cs out) (switch_points cs out) h in
      first_like here ps cs out q s.0 (switch_first cs out (q + length (later_part_points ps cs out)) s.1)
  body_first (acts_flow xs f) out here q h = first_like here (parts xs (some f)) no_more out q h tt

  mutual
    rest_like : (b : Body) (out : Behind) (i q : ℕ) → Stands ss q (rest_points b out) → Paired (rest_blocks b i q) (rest_points b out)
    rest_like (act_cases a xs cs) out i q h =
        let ps = parts (a ∷ xs) none in
        let rest = later_part_blocks ps (some_case cs) i q in
        let s = stands_parts ss q (later_part_points ps cs out) (switch_points cs out) h in
        let row_is = rest_row_like ps cs out i q s.0 (switch_first cs out (q + length (later_part_points ps cs out)) s.1) in
        let l = paired_length rest (later_part_points ps cs out) row_is in
        let j = i + length (acts_words (a ∷ xs)) in
        paired-++ rest (switch_blocks cs j (q + length rest)) (later_part_points ps cs out) (switch_points cs out) row_is
        (switch_like cs out j (q + length rest) (stands_at ss (switch_points cs out) (ap (λ n. q + n) (sym l)) s.1))
    rest_like (acts_flow xs f) out i q h = rest_row_like (parts xs (some f)) no_more out i q h tt

    case_like : (c : Case) (out : Behind) (here : Point) (i q : ℕ) → Stands ss q (case_points c out) → BasicLike here (case_basic c q) (case_step t here c out) × Paired (case_blocks c i q) (case_points c out)
    case_like (if ss' b) out here i q h = (body_first b out here q h, rest_like b out (i + length (symbols_words ss') + 2) q h)
    case_like (while ss' o) out here i q h = (once_like o here, tt)

    cases_like : (cs : Cases) (out : Behind) (here : Point) (i q : ℕ) → Stands ss q (cases_points cs out) → ((c : ℕ) → BasicLike here (arm_of (arms cs i q) c) (switch_step t here cs out c)) × Paired (cases_blocks cs i q) (cases_points cs out)
    cases_like no_more out here i q h = ((λ c. (refl, refl, tt)), tt)
    cases_like (more k ks) out here i q h =
        let inner = case_blocks k i q in
        let j = i + length (case_words k) in
        let s = stands_parts ss q (case_points k (of_case ks out)) (cases_points ks out) h in
        let now = case_like k (of_case ks out) here i q s.0 in
        let l = paired_length inner (case_points k (of_case ks out)) now.1 in
        let r = q + length inner in
        let later = cases_like ks out here j r (stands_at ss (cases_points ks out) (ap (λ n. q + n) (sym l)) s.1) in
        ((λ c. case_armed here k ks out c q (arms ks j r) now.0 (later.0 c)), paired-++ inner (cases_blocks ks j r) (case_points k (of_case ks out)) (cases_points ks out) now.1 later.1)

    switch_like : (cs : Cases) (out : Behind) (i q : ℕ) → Stands ss q (switch_points cs out) → Paired (switch_blocks cs i q) (switch_points cs out)
    switch_like no_more out i q h = tt
    switch_like (more k ks) out i q h =
        let here = point [] (more k ks) out in
        let inner = case_blocks k i (suc q) in
        let j = i + length (case_words k) in
        let s = stands_parts ss (suc q) (case_points k (of_case ks out)) (cases_points ks out) h.1 in
        let now = case_like k (of_case ks out) here i (suc q) s.0 in
        let l = paired_length inner (case_points k (of_case ks out)) now.1 in
        let r = suc q + length inner in
        let later = cases_like ks out here j r (stands_at ss (cases_points ks out) (ap (λ n. suc q + n) (sym l)) s.1) in
        ((λ c. case_armed here k ks out c (suc q) (arms ks j r) now.0 (later.0 c)), paired-++ inner (cases_blocks ks j r) (case_points k (of_case ks out)) (cases_points ks out) now.1 later.1)

  -- the first block of a body that a module has is basic
  first_kind : (ps : List Part) (cs : Cases) (out : Behind) (b : Basic Text) → 1 ≤ length ps → BasicLike (point ps cs out) b (first_step t (point ps cs out)) → KindLike (basic b) (point ps cs out)
  first_kind [] cs out b l h = absurd (omega arith)
  first_kind (p ∷ ps) cs out b l h = λ c. h

  body_kind : (b : Body) (out : Behind) (q : ℕ) → Stands ss q (rest_points b out) → KindLike (basic (first_basic b q)) (body_start b out)
  body_kind (act_cases a xs cs) out q h = first_kind (parts (a ∷ xs) none) cs out (first_basic (act_cases a xs cs) q) (joined_some a (parts xs none)) (body_first (act_cases a xs cs) out (body_start (act_cases a xs cs) out) q h)
  body_kind (acts_flow xs f) out q h = first_kind (parts xs (some f)) no_more out (first_basic (acts_flow xs f) q) (parts_some xs f) (body_first (acts_flow xs f) out (body_start (acts_flow xs f) out) q h)

  inside_like : (x : Inside) (out : Behind) (i q : ℕ) → Stands ss q (inside_points x out) → Paired (inside_blocks x i q) (inside_points x out)
  inside_like (cases c cs) out i q h = switch_like (more c cs) out i q h
  inside_like (body b) out i q h = (body_kind b out (suc q) h.1, rest_like b out i (suc q) h.1)

  inside_first : (x : Inside) (out : Behind) (q : ℕ) → Stands ss q (inside_points x out) → nth ss q ≡ Some (inside_start x out)
  inside_first (cases c cs) out q h = h.0
  inside_first (body b) out q h = h.0

  modules_like : (ms : List Module) (i q : ℕ) → Stands ss q (modules_points ms) → Paired (modules_blocks ms i q) (modules_points ms) × ((w : Text) → named w (module_names ms) ≡ true → nth ss (start_in ms i q w) ≡ Some (named_start ms w))
  modules_like [] i q h = (tt, λ w n. absurd (false≢true n))
  modules_like (module' nm x ∷ ms) i q h =
      let inner = inside_blocks x (i + 3) q in
      let j = i + length (module_words (module' nm x)) in
      let s = stands_parts ss q (inside_points x (of_module ms)) (modules_points ms) h in
      let now = inside_like x (of_module ms) (i + 3) q s.0 in
      let l = paired_length inner (inside_points x (of_module ms)) now in
      let r = q + length inner in
      let later = modules_like ms j r (stands_at ss (modules_points ms) (ap (λ n. q + n) (sym l)) s.1) in (
        paired-++ inner (modules_blocks ms j r) (inside_points x (of_module ms)) (modules_points ms) now later.0,
        λ w n. by w j r (same w nm.word) n (inside_first x (of_module ms) q s.0) (later.1 w),
      )
    where
      by : (w : Text) (j r : ℕ) (v : Bool) → v || named w (module_names ms) ≡ true → nth ss q ≡ Some (inside_start x (of_module ms)) → (named w (module_names ms) ≡ true → nth ss (start_in ms j r w) ≡ Some (named_start ms w))
          → nth ss (cond v q (start_in ms j r w)) ≡ Some (cond v (inside_start x (of_module ms)) (named_start ms w))
      by w j r true m f g = f
      by w j r false m f g = g m

-- gotos settled
arm_settled : (at' : Text → ℕ) (c : ℕ) (as' : List (ℕ × Basic Text)) → arm (settled_arms at' as') c ≡ settled_basic at' (arm_of as' c)
arm_settled at' c [] = refl
arm_settled at' c (a ∷ others) = by (eqb c a.0) (arm_settled at' c others)
  where
    by : (v : Bool) → arm (settled_arms at' others) c ≡ settled_basic at' (arm_of others c) → cond v (settled_basic at' a.1) (arm (settled_arms at' others) c) ≡ settled_basic at' (cond v a.1 (arm_of others c))
    by true e = refl
    by false e = e

current_settled : (at' : Text → ℕ) (c : ℕ) (k : Kind Text) → current (settled_kind at' k) c ≡ settled_basic at' (current_of k c)
current_settled at' c (basic b) = refl
current_settled at' c (switch as') = arm_settled at' c as'

module _ (t : Program) (cols : List ℕ) (ns : List Text) (n : ℕ) (known_start : (w : Text) → named w ns ≡ true → nth (points t) (start t w) ≡ Some (named_start (all_modules t) w)) where
  arm_known : (as' : List (ℕ × Basic Text)) (c : ℕ) → Each (λ (a : ℕ × Basic Text). BasicWithin cols ns n a.1) as' → ThenWithin ns n (arm_of as' c).then
  arm_known [] c w = tt
  arm_known (a ∷ others) c w = by (eqb c a.0) (arm_known others c w.1)
    where
      by : (v : Bool) → ThenWithin ns n (arm_of others c).then → ThenWithin ns n (cond v a.1 (arm_of others c)).then
      by true h = w.0.1
      by false h = h

  current_known : (k : Kind Text) (c : ℕ) → KindWithin cols ns n k → ThenWithin ns n (current_of k c).then
  current_known (basic b) c w = w.1
  current_known (switch as') c w = arm_known as' c w

  next_same : (q : ℕ) (s : Point) (x : Then Text) (y : After Point) → Numbered t q s → ThenWithin ns n x → ThenLike t (points t) s x y → SameAfter (Numbered t) (state_after (next_of q (settled_then (start t) x))) y
  next_same q s again (at s') e w h = e ∙ ap Some (sym h)
  next_same q s again accepts e w h = absurd h
  next_same q s again rejects e w h = absurd h
  next_same q s accepting (at s') e w h = absurd h
  next_same q s accepting accepts e w h = tt
  next_same q s accepting rejects e w h = absurd h
  next_same q s rejecting (at s') e w h = absurd h
  next_same q s rejecting accepts e w h = absurd h
  next_same q s rejecting rejects e w h = tt
  next_same q s (jump m) (at s') e w h = known_start m w ∙ ap Some (sym h)
  next_same q s (jump m) accepts e w h = absurd h
  next_same q s (jump m) rejects e w h = absurd h
  next_same q s (next r) (at s') e w h = h
  next_same q s (next r) accepts e w h = absurd h
  next_same q s (next r) rejects e w h = absurd h
  next_same q s end (at s') e w h = absurd h
  next_same q s end accepts e w h = absurd h
  next_same q s end rejects e w h = tt

  basic_same : (q : ℕ) (s : Point) (b : Basic Text) (x : Step Point) → Numbered t q s → ThenWithin ns n b.then → BasicLike t (points t) s b x → SameStep (Numbered t) (basic_action q (settled_basic (start t) b)) x
  basic_same q s b x e w h = record { write = h.0; direction = h.1; next = next_same q s b.then x.after e w h.2 }

  kind_same : (q c : ℕ) (s : Point) (k : Kind Text) → Numbered t q s → KindWithin cols ns n k → KindLike t (points t) k s → SameStep (Numbered t) (basic_action q (current (settled_kind (start t) k) c)) (point_step t s c)
  kind_same q c s k e w h = subst (λ (b : Basic ℕ). SameStep (Numbered t) (basic_action q b) (point_step t s c)) (sym (current_settled (start t) c k)) (basic_same q s (current_of k c) (point_step t s c) e (current_known k c w) (h c))

  -- the block at p in a list, and the place at p in its list
  at_number : (bs : List (Block Text)) (xs : List Point) (p q c : ℕ) (s : Point) → Paired t (points t) bs xs → Each (BlockWithin cols ns n) bs → nth xs p ≡ Some s → Numbered t q s
      → SameStep (Numbered t) (basic_action q (current (kind_at (kinds (settled (start t) bs)) p) c)) (point_step t s c)
  at_number [] [] p q c s h w f e = absurd (none_some s f)
    where
      none_some : (s : Point) → None ≡ Some s → ⊥
      none_some s f = cc
  at_number [] (x ∷ xs) p q c s h w f e = absurd h
  at_number (b ∷ bs) [] p q c s h w f e = absurd h
  at_number (b ∷ bs) (x ∷ xs) zero q c s h w f e =
      let g : x ≡ s = cc in
      subst (λ (y : Point). SameStep (Numbered t) (basic_action q (current (settled_kind (start t) b.kind) c)) (point_step t y c)) g (kind_same q c x b.kind (e ∙ sym f) w.0 h.0)
  at_number (b ∷ bs) (x ∷ xs) (suc p) q c s h w f e = at_number bs xs p q c s h.1 w.1 f e

pub numbers_are_points : NumbersArePoints
numbers_are_points (program ss (module' nm x) ms) e =
    let t = program ss (module' nm x) ms in
    let letters = symbols_codes ss in
    let cols = columns letters in
    let i = modules_at t in
    let mods = module' nm x ∷ ms in
    let ns = module_names mods in
    let bs = drafts t in
    let f₁ = nil_parts (alphabet_faults (0 ∷ []) letters 3 ++ names_faults [] mods i ++ modules_faults (known t) mods i) (limit_faults (length cols) 0 bs) e in
    let f₂ = nil_parts (alphabet_faults (0 ∷ []) letters 3 ++ names_faults [] mods i) (modules_faults (known t) mods i) f₁.0 in
    let own = stands_own (points t) in
    let m = modules_like t (points t) mods i 0 own in
    let w = modules_within cols ns mods i 0 (length bs) i f₂.1 (omega arith) in
    record {
      as_many = settled_length (start t) bs ∙ paired_length t (points t) bs (points t) m.0;
      index = λ q s h. index_is t q s h;
      only = λ q r s h k. only_one t q r s h k;
      first = inside_first t (points t) x (of_module ms) 0 (stands_parts (points t) 0 (inside_points x (of_module ms)) (modules_points ms) own).0;
      same = λ q c s h. at_number t cols ns (length bs) m.1 bs (points t) q q c s m.0 w h h;
    }
