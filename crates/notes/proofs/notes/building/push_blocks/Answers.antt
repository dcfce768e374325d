use Rattle.std.proofs.Common.{◌≡◌, ◌+◌, ◌∷◌, drop, sym, ap, ◌∙◌}
use Rattle.std.proofs.lemmas.List.{drop_more}
use Rattle.program.specs.Built.{built}
use Rattle.program.specs.Taken.{takes_blocks, with_blocks}
use Rattle.notes.specs.Settled.{kind_settled, kinds_settled}
use Rattle.notes.proofs.Settled.{block_taken}
use Rattle.notes.proofs.notes.building.push_blocks.Goals as goal

pub loop-block-preserved : goal.loop-block-preserved
loop-block-preserved c =
    let s = c.args.source.now in
    let ms = c.args.modules.now in
    let rows = c.args.rows.now in
    let i = c.loop-block.block-index in
    let b = c.block-item.result in
    let behind = drop (i + 1) rows in
    let p = built c.loop-block.builder in
    let left : b ∷ behind ≡ drop i rows = ap (λ x. x ∷ behind) c.block-item.is ∙ sym (drop_more rows i b c.loop-block-test.true) in
    let taken = block_taken p (built c.push_block.new.builder) (kind_settled s ms b) (kinds_settled s ms behind) (sym c.in_ok-push_block.was ∙ c.push_block.ensures.answer) c.push_block.ensures.blocks in
    (taken.0 ∙ ap (λ l. takes_blocks p (kinds_settled s ms l)) left ∙ c.loop-block.invariant.0, taken.1 ∙ ap (λ l. with_blocks p (kinds_settled s ms l)) left ∙ c.loop-block.invariant.1)
