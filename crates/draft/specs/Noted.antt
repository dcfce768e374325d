-- What a tree adds to a draft, in the order of its words: a definition for each function of a recursive descent.
-- The index of the tree's first word is i.
use Rattle.std.specs.Prelude.{ℕ, ◌+◌, List, [], ◌∷◌, length, Option}
use Rattle.words.specs.Bytes.{Text}
use Rattle.grammar.specs.Tree.{Act, change, move, Flow, accept, reject, goto, Once, once_change, once_move, Body, act_cases, acts_flow, Case, if, while, Cases, no_more, more, Inside, cases, body, Module, module', Program, program}
use Rattle.grammar.specs.Render.{acts_words, symbols_words, case_words, module_words}
use Rattle.meaning.specs.Blocks.{Then, end, next, accepting, rejecting, jump, Block, switch, symbols_codes, case_codes, once_basic, modules_at, settled, Compiled, kinds}
use Rattle.meaning.specs.Faults.{Violation}
use Rattle.draft.specs.Draft.{Letters, Draft, no_letters, empty_draft, letter_noted, name_noted, symbol_noted, Seen, none_seen, seen_too, code_noted, switch_ended, goto_noted, begun, resolved, names_of, first_number}
use Rattle.draft.specs.Building.{Owner, numbered, arm_of, basic_noted, Current, fresh, with_act, closed, unfilled, Progress, command_noted}

-- letters of the alphabet; commas stand between them
abbrev pub letters_noted : List ℕ → ℕ → Letters → Letters
letters_noted [] i x = x
letters_noted (c ∷ cs) i x = letters_noted cs (i + 2) (letter_noted c i x)

-- what an act may break
abbrev pub act_noted : Letters → Act → ℕ → Draft → Draft
act_noted a (change s) i x = symbol_noted a s (i + 1) x
act_noted a (move d) i x = x

-- acts, one after another
abbrev pub acts_noted : Letters → List Act → Current → ℕ → Draft → Progress
acts_noted a [] c i x = record { current = c; draft = x }
acts_noted a (act ∷ xs) c i x =
    let w = command_noted a act c i x in
    acts_noted a xs (with_act act w.current) (i + 2) (act_noted a act i w.draft)

-- a flow, which finishes the block under construction
abbrev pub flow_noted : Flow → Current → ℕ → Draft → Draft
flow_noted accept c i x = closed c accepting x
flow_noted reject c i x = closed c rejecting x
flow_noted (goto n) c i x = goto_noted n.word (i + 1) (closed c (jump n.word) x)

-- the commands of a while case
abbrev pub once_noted : Letters → Once → Owner → ℕ → Draft → Draft
once_noted a (once_change s m) o i x = basic_noted o (once_basic (once_change s m)) (symbol_noted a s (i + 1) x)
once_noted a (once_move d) o i x = basic_noted o (once_basic (once_move d)) x

-- the symbols of a case, after those seen in its switch
abbrev pub codes_noted : Letters → List ℕ → ℕ → Seen → Draft → Draft
codes_noted a [] i s x = x
codes_noted a (c ∷ cs) i s x = codes_noted a cs (i + 2) (seen_too c s) (code_noted a c i s x)

-- what has been seen with these codes, too
abbrev pub seen_with : List ℕ → Seen → Seen
seen_with [] s = s
seen_with (c ∷ cs) s = seen_with cs (seen_too c s)

-- what comes after the last command of a body that has no flow, where the next number is q
abbrev pub behind : Cases → ℕ → Then Text
behind no_more q = end
behind (more k ks) q = next q

abbrev mutual
  -- a body, whose first basic block has this owner
  pub body_noted : Body → Letters → Owner → ℕ → Draft → Draft
  body_noted (act_cases act xs cs) a o i x =
      let w = acts_noted a (act ∷ xs) (fresh o) i x in
      switch_noted cs a (i + length (acts_words (act ∷ xs))) (closed w.current (behind cs w.draft.count) w.draft)
  body_noted (acts_flow xs f) a o i x =
      let w = acts_noted a xs (fresh o) i x in
      flow_noted f w.current (i + length (acts_words xs)) w.draft

  -- a case of the switch numbered q, after the codes s
  pub case_noted : Case → Letters → ℕ → Seen → ℕ → Draft → Draft
  case_noted (if ss b) a q s i x = body_noted b a (arm_of q (symbols_codes ss)) (i + length (symbols_words ss) + 2) (codes_noted a (symbols_codes ss) (i + 1) s x)
  case_noted (while ss o) a q s i x = once_noted a o (arm_of q (symbols_codes ss)) (i + length (symbols_words ss) + 2) (codes_noted a (symbols_codes ss) (i + 1) s x)

  -- the other cases of the switch numbered q, whose first began at the word p
  pub cases_noted : Cases → Letters → ℕ → ℕ → Seen → ℕ → Draft → Draft
  cases_noted no_more a q p s i x = switch_ended a p s x
  cases_noted (more k ks) a q p s i x = cases_noted ks a q p (seen_with (case_codes k) s) (i + length (case_words k)) (case_noted k a q s i x)

  -- a switch, if there are cases
  pub switch_noted : Cases → Letters → ℕ → Draft → Draft
  switch_noted no_more a i x = x
  switch_noted (more k ks) a i x =
      cases_noted ks a x.count i (seen_with (case_codes k) none_seen) (i + length (case_words k))
      (case_noted k a x.count none_seen i (begun a i (switch []) x))

-- what stands in a module
abbrev pub inside_noted : Letters → Inside → ℕ → Draft → Draft
inside_noted a (cases k ks) i x = switch_noted (more k ks) a i x
inside_noted a (body b) i x = body_noted b a (numbered x.count) i (begun a i unfilled x)

-- modules, one after another
abbrev pub modules_noted : Letters → List Module → ℕ → Draft → Draft
modules_noted a [] i x = x
modules_noted a (module' n inside ∷ ms) i x =
    modules_noted a ms (i + length (module_words (module' n inside))) (inside_noted a inside (i + 3) (name_noted n.word (i + 1) x))

-- the letters of a program
abbrev pub letters_of : Program → Letters
letters_of (program ss m ms) = letters_noted (symbols_codes ss) 3 no_letters

-- the draft of a program
abbrev pub draft_of : Program → Draft
draft_of (program ss m ms) = let a = letters_of (program ss m ms) in modules_noted a (m ∷ ms) (modules_at (program ss m ms)) (empty_draft a)

-- the lowest violation of a finished draft
abbrev pub told : Draft → Option Violation
told x = resolved (names_of x.names) x.gotos x.violation

-- the blocks of a finished draft, with their gotos settled
abbrev pub settled_blocks : Draft → List (Block ℕ)
settled_blocks x = settled (first_number x.names) x.blocks

-- the program that a finished draft stands for
abbrev pub finished : Letters → Draft → Compiled
finished a x = record { letters = a.letters; blocks = kinds (settled_blocks x) }
