-- How many names and gotos a draft has.
use Rattle.std.proofs.Common.{◌≡◌, ℕ, ◌+◌, Bool, true, false, cond, ltb, List, [], ◌∷◌, length, refl, ap, ◌∙◌, arith, length-append}
use Rattle.words.specs.Words.{words}
use Rattle.grammar.specs.Tree.{Act, change, move, Flow, accept, reject, goto, Once, once_change, once_move, Body, act_cases, acts_flow, Case, if, while, Cases, no_more, more, Inside, cases, body, Module, module', Program, program}
use Rattle.grammar.specs.Render.{acts_words, symbols_words, case_words, module_words}
use Rattle.grammar.specs.Places.{texts}
use Rattle.grammar.proofs.Laws.{reads_programs}
use Rattle.meaning.specs.declared.faults.Cause.TheVariants.{Letter, Repeated}
use Rattle.meaning.specs.Blocks.{rank, switch, symbols_codes, case_codes, modules_at, all_modules}
use Rattle.draft.specs.Draft.{Entry, Pending, Letters, Draft, flagged, is_column, empty_draft, name_noted, Seen, none_seen, seen_too, code_noted, begun}
use Rattle.draft.specs.Building.{Owner, numbered, arm_of, Current, fresh, last_rank, with_act, closed, unfilled, next_begun, command_noted}
use Rattle.draft.specs.Noted.{act_noted, acts_noted, flow_noted, once_noted, codes_noted, seen_with, behind, body_noted, case_noted, cases_noted, switch_noted, inside_noted, modules_noted, letters_of, draft_of}
use Rattle.draft.specs.Bounds.{least_bytes, flow_gotos, body_gotos, case_gotos, cases_gotos, inside_gotos, modules_gotos, More, Counts, Bounds}
use Rattle.draft.proofs.Spacing.{words_take}
use Rattle.draft.proofs.Sizes.{pieces}

same : (x : Draft) → More 0 x x
same x = (refl, omega arith)

then : (m n : ℕ) (x y z : Draft) → More m x y → More n y z → More (m + n) x z
then m n x y z p q = (q.0 ∙ p.0, let r = p.1 in let s = q.1 in omega (arith, r, s))

-- after a step without gotos
on : (n : ℕ) (x y z : Draft) → More 0 x y → More n y z → More n x z
on n x y z p q = (q.0 ∙ p.0, let r = p.1 in let s = q.1 in omega (arith, r, s))

act_counts : (a : Letters) (act : Act) (i : ℕ) (x : Draft) → More 0 x (act_noted a act i x)
act_counts a (change s) i x = (refl, omega arith)
act_counts a (move d) i x = (refl, omega arith)

command_counts : (a : Letters) (c : Current) (i : ℕ) (x : Draft) (b : Bool) → More 0 x (cond b (record { current = c; draft = x }) (next_begun a c i x)).draft
command_counts a c i x true = (refl, omega arith)
command_counts a c i x false = (refl, omega arith)

acts_counts : (a : Letters) (xs : List Act) (c : Current) (i : ℕ) (x : Draft) → More 0 x (acts_noted a xs c i x).draft
acts_counts a [] c i x = same x
acts_counts a (act ∷ xs) c i x =
    let w = command_noted a act c i x in
    let y = act_noted a act i w.draft in
    on 0 x y (acts_noted a (act ∷ xs) c i x).draft
    (on 0 x w.draft y (command_counts a c i x (ltb (last_rank c) (rank act))) (act_counts a act i w.draft))
    (acts_counts a xs (with_act act w.current) (i + 2) y)

flow_counts : (f : Flow) (c : Current) (i : ℕ) (x : Draft) → More (flow_gotos f) x (flow_noted f c i x)
flow_counts accept c i x = (refl, omega arith)
flow_counts reject c i x = (refl, omega arith)
flow_counts (goto n) c i x = (refl, let one : Pending = record { name = n.word; index = i + 1 } in length-append x.gotos (one ∷ []))

once_counts : (a : Letters) (o : Once) (w : Owner) (i : ℕ) (x : Draft) → More 0 x (once_noted a o w i x)
once_counts a (once_change s m) w i x = (refl, omega arith)
once_counts a (once_move d) w i x = (refl, omega arith)

code_counts : (a : Letters) (c i : ℕ) (s : Seen) (x : Draft) (b : Bool) → More 0 x (cond b (flagged (s c) i Repeated x) (flagged true i Letter x))
code_counts a c i s x true = (refl, omega arith)
code_counts a c i s x false = (refl, omega arith)

codes_counts : (a : Letters) (cs : List ℕ) (i : ℕ) (s : Seen) (x : Draft) → More 0 x (codes_noted a cs i s x)
codes_counts a [] i s x = same x
codes_counts a (c ∷ cs) i s x =
    let y = code_noted a c i s x in
    on 0 x y (codes_noted a (c ∷ cs) i s x) (code_counts a c i s x (is_column a c)) (codes_counts a cs (i + 2) (seen_too c s) y)

mutual
  body_counts : (b : Body) (a : Letters) (o : Owner) (i : ℕ) (x : Draft) → More (body_gotos b) x (body_noted b a o i x)
  body_counts (act_cases act xs cs) a o i x =
      let w = acts_noted a (act ∷ xs) (fresh o) i x in
      let y = closed w.current (behind cs w.draft.count) w.draft in
      on (cases_gotos cs) x y (body_noted (act_cases act xs cs) a o i x) (acts_counts a (act ∷ xs) (fresh o) i x) (switch_counts cs a (i + length (acts_words (act ∷ xs))) y)
  body_counts (acts_flow xs f) a o i x =
      let w = acts_noted a xs (fresh o) i x in
      on (flow_gotos f) x w.draft (body_noted (acts_flow xs f) a o i x) (acts_counts a xs (fresh o) i x) (flow_counts f w.current (i + length (acts_words xs)) w.draft)

  case_counts : (c : Case) (a : Letters) (q : ℕ) (s : Seen) (i : ℕ) (x : Draft) → More (case_gotos c) x (case_noted c a q s i x)
  case_counts (if ss b) a q s i x =
      let cs = symbols_codes ss in
      let y = codes_noted a cs (i + 1) s x in
      on (body_gotos b) x y (case_noted (if ss b) a q s i x) (codes_counts a cs (i + 1) s x) (body_counts b a (arm_of q cs) (i + length (symbols_words ss) + 2) y)
  case_counts (while ss o) a q s i x =
      let cs = symbols_codes ss in
      let y = codes_noted a cs (i + 1) s x in
      on 0 x y (case_noted (while ss o) a q s i x) (codes_counts a cs (i + 1) s x) (once_counts a o (arm_of q cs) (i + length (symbols_words ss) + 2) y)

  cases_counts : (cs : Cases) (a : Letters) (q p : ℕ) (s : Seen) (i : ℕ) (x : Draft) → More (cases_gotos cs) x (cases_noted cs a q p s i x)
  cases_counts no_more a q p s i x = (refl, omega arith)
  cases_counts (more c cs) a q p s i x =
      let y = case_noted c a q s i x in
      then (case_gotos c) (cases_gotos cs) x y (cases_noted (more c cs) a q p s i x) (case_counts c a q s i x) (cases_counts cs a q p (seen_with (case_codes c) s) (i + length (case_words c)) y)

  switch_counts : (cs : Cases) (a : Letters) (i : ℕ) (x : Draft) → More (cases_gotos cs) x (switch_noted cs a i x)
  switch_counts no_more a i x = (refl, omega arith)
  switch_counts (more c cs) a i x =
      let q = x.count in
      let z = begun a i (switch []) x in
      let y = case_noted c a q none_seen i z in
      then (case_gotos c) (cases_gotos cs) x y (switch_noted (more c cs) a i x) (case_counts c a q none_seen i z) (cases_counts cs a q i (seen_with (case_codes c) none_seen) (i + length (case_words c)) y)

inside_counts : (v : Inside) (a : Letters) (i : ℕ) (x : Draft) → More (inside_gotos v) x (inside_noted a v i x)
inside_counts (cases c cs) a i x = switch_counts (more c cs) a i x
inside_counts (body b) a i x = body_counts b a (numbered x.count) i (begun a i unfilled x)

modules_count : (ms : List Module) (a : Letters) (i : ℕ) (x : Draft)
    → (length (modules_noted a ms i x).names ≡ length x.names + length ms) × (length (modules_noted a ms i x).gotos ≡ length x.gotos + modules_gotos ms)
modules_count [] a i x = (omega arith, omega arith)
modules_count (module' n v ∷ ms) a i x =
    let z = name_noted n.word (i + 1) x in
    let r = inside_counts v a (i + 3) z in
    let t = modules_count ms a (i + length (module_words (module' n v))) (inside_noted a v (i + 3) z) in
    let entry : Entry = record { name = n.word; first = x.count } in
    let l = length-append x.names (entry ∷ []) in
    (omega (arith, r.0, t.0, l), omega (arith, r.1, t.1))

draft_counts : (t : Program) → (length (draft_of t).names ≡ length (all_modules t)) × (length (draft_of t).gotos ≡ modules_gotos (all_modules t))
draft_counts (program ss m ms) =
    let t = program ss m ms in
    let a = letters_of t in
    let r = modules_count (m ∷ ms) a (modules_at t) (empty_draft a) in
    (omega (arith, r.0), omega (arith, r.1))

pub counts : Counts
counts = record {
  body_counts = body_counts;
  case_counts = case_counts;
  cases_counts = cases_counts;
  inside_counts = inside_counts;
  names_count = λ t. (draft_counts t).0;
  gotos_count = λ t. (draft_counts t).1;
}

pub bounds : Bounds
bounds source t h e =
    let c = draft_counts t in
    let l = ap least_bytes ((reads_programs (texts (words source)) t).0 e).words in
    let z = (words_take source).takes_all in
    let m = pieces.program_takes t in
    let g = pieces.program_gotos t in
    record { names = omega (arith, c.0, l, z, m, h); gotos = omega (arith, c.1, l, z, g, h) }
