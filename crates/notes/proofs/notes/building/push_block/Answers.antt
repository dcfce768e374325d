use Rattle.std.proofs.Common.{◌≡◌, sym, ap, ◌∙◌, arith}
use Rattle.std.proofs.lemmas.Bool.Decides.{nat_tests}
use Rattle.meaning.specs.Blocks.{switch}
use Rattle.program.specs.Arms.{arms_in}
use Rattle.program.specs.Built.{built}
use Rattle.notes.specs.Settled.{kind_settled}
use Rattle.notes.proofs.Settled.{switch_taken}
use Rattle.notes.proofs.notes.building.push_block.Goals as goal

pub returns-in-Switch-clause-answer : goal.returns-in-Switch-clause-answer
returns-in-Switch-clause-answer c =
    let arms = c.as_slice.result.now in
    let same : switch (arms_in arms) ≡ kind_settled c.args.source.now c.args.modules.now c.args.block.now = ap (λ l. switch (arms_in l)) c.as_slice.ensures ∙ ap switch c.settle_arms-arms.ensures ∙ sym (ap (kind_settled c.args.source.now c.args.modules.now) c.in-Switch.is) in
    let taken = switch_taken (built c.args.builder.now) arms (kind_settled c.args.source.now c.args.modules.now c.args.block.now) same in
    grind (arith, nat_tests)

pub returns-in-Switch-clause-blocks : goal.returns-in-Switch-clause-blocks
returns-in-Switch-clause-blocks c =
    let arms = c.as_slice.result.now in
    let same : switch (arms_in arms) ≡ kind_settled c.args.source.now c.args.modules.now c.args.block.now = ap (λ l. switch (arms_in l)) c.as_slice.ensures ∙ ap switch c.settle_arms-arms.ensures ∙ sym (ap (kind_settled c.args.source.now c.args.modules.now) c.in-Switch.is) in
    let taken = switch_taken (built c.args.builder.now) arms (kind_settled c.args.source.now c.args.modules.now c.args.block.now) same in
    c.push_switch.ensures.blocks ∙ grind (arith, nat_tests)
