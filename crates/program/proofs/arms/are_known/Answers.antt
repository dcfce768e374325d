use Rattle.std.proofs.Common.{◌∙◌, rules, tests}
use Rattle.std.proofs.lemmas.Iterator.{YieldsList-from_slice}
use Rattle.std.proofs.lemmas.Iterator.Search.{all_from_yields_List}
use Rattle.meaning.specs.Codes.{member, columns}
use Rattle.alphabet.specs.Alphabets.{letters_of}
use Rattle.program.proofs.Switches.{among_arms}
use Rattle.program.proofs.arms.are_known.Goals as goal

pub returns : goal.returns
returns c =
    let cols = columns (letters_of c.args.alphabet.now) in
    all_from_yields_List (λ a. member a.code cols) _ _ _ c.all.ensures.ran (YieldsList-from_slice c.args.arms.now (cc)) (λ x b q k. search (rules, tests))
    ∙ among_arms cols c.args.arms.now
