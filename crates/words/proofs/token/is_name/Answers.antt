use Rattle.std.proofs.Common.{◌≡◌, ◌<◌, [], ◌∷◌, length, refl, ◌∙◌, arith, rules, tests}
use Rattle.std.proofs.lemmas.Iterator.{YieldsList-from_slice}
use Rattle.std.proofs.lemmas.Iterator.Search.{all_from_yields_List}
use Rattle.words.specs.Bytes.{Text, is_alpha}
use Rattle.words.specs.Vocabulary.{alphas, is_name_text}
use Rattle.words.proofs.token.is_name.Goals as goal

-- one or more letters are a name
named : (w : Text) → 0 < length w → alphas w ≡ is_name_text w
named [] some = absurd (omega arith)
named (b ∷ bs) some = refl

pub returns-then-not-is_empty : goal.returns-then-not-is_empty
returns-then-not-is_empty c =
    all_from_yields_List is_alpha _ _ _ c.all.ensures.ran (YieldsList-from_slice c.args.text.now cc) (λ x b q k. search (rules, tests))
    ∙ named c.args.text.now (grind arith)
