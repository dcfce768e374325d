use Rattle.std.proofs.Common.{eqb, ◌∙◌, rules, tests}
use Rattle.std.proofs.lemmas.Iterator.{YieldsList-from_slice}
use Rattle.std.proofs.lemmas.Iterator.Search.{any_from_yields_List}
use Rattle.program.proofs.Switches.{member_arm}
use Rattle.program.proofs.arms.has_arm.Goals as goal

pub returns : goal.returns
returns c =
    any_from_yields_List (λ a. eqb c.args.code a.code) _ _ _ c.any.ensures.ran (YieldsList-from_slice c.args.arms.now (cc)) (λ x b q k. search (rules, tests))
    ∙ member_arm c.args.code c.args.arms.now
