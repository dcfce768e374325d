use Rattle.std.proofs.Common.{◌≡◌, ℕ, List, None, Ok, Err, Result, rules, arith, ◌∙◌}
use Rattle.words.specs.Bytes.{Text}
use Rattle.words.specs.Tokens.{Kind}
use Rattle.meaning.specs.declared.faults.Fault.{Fault}
use Rattle.events.specs.Event.{Event}
use Rattle.events.specs.Descent.{Edge, act_edges, pick, fault}
use Rattle.compiler.specs.Reading.{command_in, Ending, Same, Answers}
use Rattle.compiler.proofs.parser.Parser.+in_case.Goals as goal

-- what comes of the words before is what comes of them on the way
by_way : {A : Type 0} (r : Result A Fault) (before middle now : Ending) → Same before middle → Answers r middle now → Answers r before now
by_way (Ok a) before middle now e h = λ k os. e k os ∙ h k os
by_way (Err f) before middle now e h = λ k os. e k os ∙ h k os

-- or it is a fault
refused : {A : Type 0} (r : Result A Fault) (f : Fault) (before now : Ending) → r ≡ Err f → Same before (λ k os. fault f.cause f.place) → Answers r before now
refused r f before now e h = rw e h

-- a word that begins no command takes none of its edges
no_command : (κ : Kind) (w : Text) (d : ℕ) (f : ℕ → Event) (es : List Edge) → command_in κ ≡ None → pick (act_edges d f es) κ w ≡ pick es κ w
no_command κ w d f es e = grind arith

pub acted-returns-in_default : goal.acted-returns-in_default
acted-returns-in_default t c = (search rules, by_way c.last.result _ _ _ (λ k os. c.loop-word.invariant.1 k os ∙ grind (arith, no_command)) c.last.ensures.1)

pub switch-returns-in_default : goal.switch-returns-in_default
switch-returns-in_default t c = (search rules, by_way c.switch_end.result _ _ _ (λ k os. c.loop-word.invariant.1 k os ∙ search rules) c.switch_end.ensures.1)

pub switch-returns-in_err-case-2 : goal.switch-returns-in_err-case-2
switch-returns-in_err-case-2 t c = (
  search rules,
  refused c.from_residual-in_err-case-2.result c.in_err-case-2.field-0.0 _ _ (search rules) (λ k os.
      let h = c.in_err-case-2.ensures.1 k os in
      c.loop-word.invariant.1 k os ∙ search (rules, h)),
)
