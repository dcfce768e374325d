use Rattle.std.proofs.Common.{◌∙◌, sym, arith}
use Rattle.std.proofs.lemmas.List.{at_drop_all}
use Rattle.program.specs.Place.{columns_of, count_of}
use Rattle.program.specs.Built.{built}
use Rattle.program.specs.InRange.{blocks_fit}
use Rattle.program.proofs.Rows.{counted}
use Rattle.program.proofs.builder.Builder.blocks_fit.Goals as goal

pub returns : goal.returns
returns c =
    let s = c.args.self.now.store in
    sym (c.loop-number.invariant ∙ at_drop_all (blocks_fit (columns_of s) (count_of s)) (built c.args.self.now).blocks c.loop-number.number (omega (arith, counted s, c.loop-number-test.false, c.count-number-end.ensures.number)))
