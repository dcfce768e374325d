-- What is answered and stored by the outcome of a source is so in the words of the subject.
use Rattle.std.proofs.Common.{◌≡◌, Ok, Err, Result, sym, refl, ap, ◌∙◌}
use Rattle.words.specs.Bytes.{Text}
use Rattle.grammar.specs.Tree.{Program}
use Rattle.meaning.specs.declared.faults.Fault.{Fault}
use Rattle.meaning.specs.Blocks.{Compiled}
use Rattle.meaning.specs.Outcome.{outcome, compile_answer, compile_after}
use Rattle.meaning.specs.Exact.{Accepted, Refused}
use Rattle.meaning.proofs.Exactly.{exact}
use Rattle.compiler.specs.Compiling.{Compiles}

module _ (source : Text) where
  -- done says that some program is accepted
  done : (o : Result Program Fault) → outcome source ≡ o → compile_answer o ≡ Ok tt → (t : Program) × Accepted source t
  done (Ok t) e a = (t, (exact source (Ok t)).0 e)
  done (Err f) e a = absurd cc

  -- a fault says that the source has it
  faulty : (o : Result Program Fault) (f : Fault) → outcome source ≡ o → compile_answer o ≡ Err f → Refused source f
  faulty (Ok t) f e a = absurd cc
  faulty (Err g) f e a = (exact source (Err f)).0 cc

  accepted : (t : Program) → Accepted source t → outcome source ≡ Ok t
  accepted t a = (exact source (Ok t)).1 a

  refused : (f : Fault) → Refused source f → outcome source ≡ Err f
  refused f a = (exact source (Err f)).1 a

  pub compiles : (answer : Result (Unit {0}) Fault) (before after : Compiled) → answer ≡ compile_answer (outcome source) → after ≡ compile_after before (outcome source) → Compiles source answer before after
  compiles answer before after a s = record {
    accepts = (λ e. done (outcome source) refl (sym a ∙ e), λ p. a ∙ ap compile_answer (accepted p.0 p.1));
    refuses = λ f. (λ e. faulty (outcome source) f refl (sym a ∙ e), λ r. a ∙ ap compile_answer (refused f r));
    only = λ t u p q. let x = accepted t p in let y = accepted u q in cc;
    stores = λ t p. s ∙ ap (compile_after before) (accepted t p);
    keeps = λ f r. s ∙ ap (compile_after before) (refused f r);
  }
