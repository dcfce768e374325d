-- That answers are the same exactly if they are equal, and that `==` says so.
use Rattle.std.proofs.Common.{◌≡◌, refl, sym, ap, rules, arith}
use Rattle.std.specs.Prelude.{Decides}
use Rattle.std.specs.Cmp.{IsEquivalence, both_ways}
use Rattle.meaning.specs.declared.calls.Answer.{Answer}
use Rattle.meaning.specs.contracts.calls.AnswerPartialEq.TheImpl as answer
use Rattle.meaning.specs.Equal.{same_answer, AnswersEqual}

same_answer_tells : (x y : Answer) → (answer.ghosts).eq x y ≡ same_answer x y
same_answer_tells x y = grind arith

pub same_answer_decides : (x y : Answer) → Decides (same_answer x y) (x ≡ y)
same_answer_decides x y = search rules

pub same_answer_laws : IsEquivalence same_answer
same_answer_laws = record {
  refl = λ x. (same_answer_decides x x).1 refl;
  symm = λ x y. both_ways (same_answer x y) (same_answer y x) (λ e. (same_answer_decides y x).1 (sym ((same_answer_decides x y).0 e))) (λ e. (same_answer_decides x y).1 (sym ((same_answer_decides y x).0 e)));
  congr = λ x y z e. ap (λ v. same_answer v z) ((same_answer_decides x y).0 e);
}

pub answers_equal : AnswersEqual
answers_equal = record { tells = same_answer_tells; decides = same_answer_decides; laws = same_answer_laws }
