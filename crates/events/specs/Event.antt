-- What a compiler notes at a word: an event for each word of a program, in the order of its words.
use Rattle.std.specs.Prelude.{ℕ, List, [], ◌∷◌}
use Rattle.std.proofs.Math.Option.{Option as Maybe, none, some}
use Rattle.tape.specs.declared.kinds.Direction.{Direction}
use Rattle.words.specs.Bytes.{Text}
use Rattle.words.specs.Vocabulary.{Symbol}
use Rattle.grammar.specs.Tree.{Direction as WrittenDirection, Act, change, move, Flow, accept, reject, goto, Once, once_change, once_move, Symbols, symbols, Body, act_cases, acts_flow, Case, if, while, Cases, no_more, more, Inside, cases, body, Module, module', Program, program}
use Rattle.meaning.specs.Codes.{meant}
use Rattle.meaning.specs.Blocks.{Then, again, accepting, rejecting, end}

-- what a word adds
pub data Event : Type 0 where
  quiet : Event  -- nothing
  letter : Text → Event  -- a symbol of the alphabet
  name : Text → Event  -- a module's name
  begin : Event  -- a module's body begins with a basic block
  begin_finish : Then Text → Event  -- and that block is finished with the same word
  command : ℕ → Event  -- a command of this rank behind another
  write : Text → Event  -- the symbol of a changeto
  turn : Direction → Event  -- the direction of a move
  finish : Then Text → Event  -- the basic block under construction is finished
  jump : Text → Event  -- the name of a goto, which finishes it too
  begin_switch : Event  -- a switch begins a module
  next_switch : Event  -- a switch begins behind commands, whose basic block it finishes
  another : Event  -- another case of the switch begins
  symbol : Text → Event  -- a symbol of a case
  enter : Event  -- the body of a case begins
  ended : Event  -- the switch ends

-- The events of each piece of a program, in front of those of what follows it: one for each word.

-- of symbols behind commas
abbrev pub commas_events : (Text → Event) → List Symbol → List Event → List Event
commas_events f [] es = es
commas_events f (s ∷ ss) es = quiet ∷ f s.word ∷ commas_events f ss es

-- of symbols with commas between them
abbrev pub symbols_events : (Text → Event) → Symbols → List Event → List Event
symbols_events f (symbols s ss) es = f s.word ∷ commas_events f ss es

-- of the commands of a while case that come behind its changeto
abbrev pub option_events : Maybe WrittenDirection → List Event → List Event
option_events none es = es
option_events (some d) es = quiet ∷ turn (meant d) ∷ es

-- of the commands of a while case
abbrev pub once_events : Once → List Event → List Event
once_events (once_change s m) es = quiet ∷ write s.word ∷ option_events m es
once_events (once_move d) es = quiet ∷ turn (meant d) ∷ es

-- of an act whose first word has this event, or one by its rank
abbrev pub act_events : (ℕ → Event) → Act → List Event → List Event
act_events f (change s) es = f 1 ∷ write s.word ∷ es
act_events f (move d) es = f 2 ∷ turn (meant d) ∷ es

-- of acts behind another
abbrev pub acts_events : List Act → List Event → List Event
acts_events [] es = es
acts_events (a ∷ xs) es = act_events command a (acts_events xs es)

-- of a flow behind acts, or at the beginning of a case's body
abbrev pub flow_events : Flow → List Event → List Event
flow_events accept es = finish accepting ∷ es
flow_events reject es = finish rejecting ∷ es
flow_events (goto n) es = quiet ∷ jump n.word ∷ es

-- of a flow at the beginning of a module
abbrev pub first_flow_events : Flow → List Event → List Event
first_flow_events accept es = begin_finish accepting ∷ es
first_flow_events reject es = begin_finish rejecting ∷ es
first_flow_events (goto n) es = begin ∷ jump n.word ∷ es

-- where a body stands: in a module, or in a case, whose basic block is begun already
pub data Place : Type 0 where
  in_module in_case : Place

-- of the first act's first word
abbrev pub first_event : Place → ℕ → Event
first_event in_module r = begin
first_event in_case r = quiet

-- of a flow that is the whole body
abbrev pub only_flow_events : Place → Flow → List Event → List Event
only_flow_events in_module f es = first_flow_events f es
only_flow_events in_case f es = flow_events f es

abbrev mutual
  -- of a body and the brace behind it
  pub body_events : Body → Place → List Event → List Event
  body_events (act_cases a xs cs) p es = act_events (first_event p) a (acts_events xs (switch_events cs es))
  body_events (acts_flow [] f) p es = only_flow_events p f (quiet ∷ es)
  body_events (acts_flow (a ∷ xs) f) p es = act_events (first_event p) a (acts_events xs (flow_events f (quiet ∷ es)))

  -- of a case, whose first word has this event
  pub case_events : Case → Event → List Event → List Event
  case_events (if ss b) e es = e ∷ symbols_events symbol ss (enter ∷ body_events b in_case es)
  case_events (while ss o) e es = e ∷ symbols_events symbol ss (enter ∷ once_events o (finish again ∷ es))

  -- of the other cases of a switch, and the brace behind them
  pub cases_events : Cases → List Event → List Event
  cases_events no_more es = ended ∷ es
  cases_events (more c cs) es = case_events c another (cases_events cs es)

  -- of a switch behind acts, if there are cases, and the brace
  pub switch_events : Cases → List Event → List Event
  switch_events no_more es = finish end ∷ es
  switch_events (more c cs) es = case_events c next_switch (cases_events cs es)

-- of what stands in a module, and the brace behind it
abbrev pub inside_events : Inside → List Event → List Event
inside_events (cases c cs) es = case_events c begin_switch (cases_events cs es)
inside_events (body b) es = body_events b in_module es

-- of a module
abbrev pub module_events : Module → List Event → List Event
module_events (module' n i) es = quiet ∷ name n.word ∷ quiet ∷ inside_events i es

-- of modules, one after another
abbrev pub modules_events : List Module → List Event
modules_events [] = []
modules_events (m ∷ ms) = module_events m (modules_events ms)

-- of the alphabet
abbrev pub alphabet_events : Symbols → List Event → List Event
alphabet_events ss es = quiet ∷ quiet ∷ quiet ∷ symbols_events letter ss (quiet ∷ es)

-- of a program
abbrev pub events : Program → List Event
events (program ss m ms) = alphabet_events ss (module_events m (modules_events ms))

-- what events at places make of a state, by what each makes of it
abbrev pub played : {S : Type 0} → (Event → ℕ → S → S) → List Event → List ℕ → S → S
played apply [] ps s = s
played apply (e ∷ es) [] s = s
played apply (e ∷ es) (p ∷ ps) s = played apply es ps (apply e p s)
