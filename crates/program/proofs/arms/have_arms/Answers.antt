use Rattle.std.proofs.Common.{◌≡◌, true, ◌&&◌, sym, ap, ◌∙◌, rules, tests}
use Rattle.std.proofs.lemmas.Iterator.{YieldsList-from_slice}
use Rattle.std.proofs.lemmas.Iterator.Search.{all_from_yields_List}
use Rattle.meaning.specs.Codes.{member}
use Rattle.alphabet.specs.Alphabets.{letters_of}
use Rattle.program.specs.Store.{all_among}
use Rattle.program.specs.Arms.{codes_of}
use Rattle.program.proofs.Switches.{among_columns}
use Rattle.program.proofs.arms.have_arms.Goals as goal

pub returns-then-all : goal.returns-then-all
returns-then-all c =
    let ls = letters_of c.args.alphabet.now in
    let codes = codes_of c.args.arms.now in
    let all : c.all.result ≡ all_among ls codes = all_from_yields_List (λ x. member x codes) _ _ _ c.all.ensures.ran (YieldsList-from_slice ls (cc)) (λ x b q k. search (rules, tests)) in
    let told : all_among ls codes ≡ true = sym all ∙ c.if-all.true in
    c.has_arm.ensures ∙ sym (among_columns ls codes ∙ ap (λ b. b && member 0 codes) told)
