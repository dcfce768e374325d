use Rattle.std.proofs.Common.{◌≡◌, eqb, length, ap, ◌∙◌, arith, rules, tests}
use Rattle.std.proofs.lemmas.Iterator.{YieldsList-from_slice}
use Rattle.std.proofs.lemmas.Iterator.Search.{position_from_yields_List}
use Rattle.std.specs.List.{position as first_place}
use Rattle.std.specs.Option.{option_or}
use Rattle.bounded.specs.Inline.{items_of}
use Rattle.alphabet.proofs.Members.{behind, column_letter}
use Rattle.alphabet.proofs.letters.operations.column_in.Goals as goal
use Rattle.alphabet.proofs.letters.operations.column_in.Goals.{then-code-eq0, else-code-eq0}

pub returns : goal.returns
returns c =
    let ls = items_of c.args.letters.now in
    let found : c.position-place.result ≡ first_place (λ x. eqb c.args.code x) ls =
    position_from_yields_List (λ x. eqb c.args.code x) _ _ c.position-place.result c.position-place.ensures.ran (YieldsList-from_slice ls (cc)) (λ x b q k. search (rules, tests)) in
    let code = c.args.code in
    let blank : c.if-code-eq0.behind ≡ behind code (length ls) = elim c.if-code-eq0.branch [ then-code-eq0 w ↦ grind arith | else-code-eq0 w ↦ grind arith ] in
    let same : c.map.result ≡ c.or.result = search rules in
    same ∙ c.or.ensures ∙ ap (λ x. option_or x c.if-code-eq0.behind) found ∙ ap (option_or (first_place (λ x. eqb code x) ls)) blank ∙ column_letter code ls
