use Rattle.std.proofs.Common.{length, take, None, sym, ap, ◌∙◌, arith}
use Rattle.std.proofs.lemmas.List.{length-take, take_more}
use Rattle.bounded.specs.Inline.{items_of}
use Rattle.meaning.specs.Blocks.{settled_arms}
use Rattle.draft.specs.Draft.{first_number}
use Rattle.program.specs.declared.blocks.Then.TheVariants.{Again}
use Rattle.program.specs.Store.{arms_as}
use Rattle.program.specs.Arms.{arms_in}
use Rattle.notes.specs.Kinds.{entries_of, text_in}
use Rattle.notes.proofs.Settled.{arm_settled}
use Rattle.notes.proofs.notes.settling.settle_arms.Goals as goal

pub loop-arm-preserved : goal.loop-arm-preserved
loop-arm-preserved c =
    let target = text_in c.args.source.now in
    let at = first_number (entries_of c.args.source.now c.args.modules.now) in
    let xs = c.as_slice-arm-items.result.now in
    let i = c.loop-arm.arm-index in
    let few = length-take i xs in
    let long = ap length c.as_slice-arm-items.ensures ∙ length-take c.args.arms.now.count c.args.arms.now.items in
    let most = c.args.arms.now.within in
    ap arms_in c.push.ensures.items
    ∙ arm_settled target at 37 (take i xs) (items_of c.loop-arm.settled) _ c.settle_basic.result (omega (arith, c.loop-arm-test.true)) c.loop-arm.invariant c.settle_basic.ensures
    ∙ ap (λ l. settled_arms at (arms_as target l)) (sym (take_more xs i (record { code = 0; basic = record { write = None; movement = None; then = Again } }) c.loop-arm-test.true))
