-- When two answers are the same, and that `==` says so.
use Rattle.std.specs.Prelude.{◌≡◌, Bool, true, false, ◌&&◌, ◌==◌, Decides}
use Rattle.std.specs.Cmp.{IsEquivalence}
use Rattle.std.specs.Str.{bytes_eq}
use Rattle.meaning.specs.declared.calls.Answer.{Answer}
use Rattle.meaning.specs.declared.calls.Answer.TheVariants.{Stepped, Went, Done, Refused, Reported, Shown}
use Rattle.meaning.specs.contracts.calls.StatusPartialEq.TheImpl as status
use Rattle.meaning.specs.contracts.calls.EndingPartialEq.TheImpl as ending
use Rattle.meaning.specs.contracts.refusals.RefusalPartialEq.TheImpl as refusal
use Rattle.meaning.specs.contracts.calls.ReportPartialEq.TheImpl as report
use Rattle.meaning.specs.contracts.calls.AnswerPartialEq.TheImpl as answer

-- answers of one kind, with the same parts
abbrev pub same_answer : Answer → Answer → Bool
same_answer (Stepped a) (Stepped b) = (status.ghosts).eq a b
same_answer (Went m a) (Went n b) = m == n && (ending.ghosts).eq a b
same_answer Done Done = true
same_answer (Refused a) (Refused b) = (refusal.ghosts).eq a b
same_answer (Reported a) (Reported b) = (report.ghosts).eq a b
same_answer (Shown a) (Shown b) = bytes_eq a b
same_answer _ _ = false

-- `==` tells whether two answers are the same, which they are exactly if they are equal
pub record AnswersEqual : Type 0 where
  pub tells : (x y : Answer) → (answer.ghosts).eq x y ≡ same_answer x y
  pub decides : (x y : Answer) → Decides (same_answer x y) (x ≡ y)
  pub laws : IsEquivalence same_answer
