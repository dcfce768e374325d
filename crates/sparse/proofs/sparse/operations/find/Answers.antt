use Rattle.std.proofs.Common.{nat_le, arith, rules, tests}
use Rattle.std.proofs.lemmas.Bool.Decides.{nat_tests}
use Rattle.std.proofs.lemmas.Iterator.{YieldsList-from_slice}
use Rattle.std.proofs.lemmas.Iterator.Search.{find_from_yields_List}
use Rattle.sparse.specs.declared.record.NonblankCell.{NonblankCell}
use Rattle.sparse.proofs.Codes.{code_by_first}
use Rattle.sparse.proofs.sparse.operations.find.Goals as goal

pub returns : goal.returns
returns c =
    let first = find_from_yields_List (λ (r : NonblankCell). nat_le c.args.cell r.cell) _ _ c.find.result c.find.ensures.ran (YieldsList-from_slice c.args.records.now cc) (λ x b q called. search (rules, tests)) in
    let code = code_by_first _ _ c.args.cell c.args.records.now c.requires.2 in
    grind (arith, nat_tests)
