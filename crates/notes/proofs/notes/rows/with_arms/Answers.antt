use Rattle.std.proofs.Common.{◌++◌, take, sym, ap, ◌∙◌, arith}
use Rattle.std.proofs.lemmas.List.{length-take, take_all, take_more}
use Rattle.bounded.specs.Inline.{items_of}
use Rattle.meaning.specs.Blocks.{lead, switch}
use Rattle.events.specs.Notes.{most_arms, with_arms}
use Rattle.program.specs.Store.{basic_as, arms_as}
use Rattle.notes.specs.Noted.{kind_as}
use Rattle.notes.proofs.Rows.{arms_start, arms_step}
use Rattle.notes.proofs.notes.rows.with_arms.Goals as goal

pub loop-code-init : goal.loop-code-init
loop-code-init g c = λ target.
    let l = length-take c.in-Switch.arms.count c.in-Switch.arms.items in
    let few = c.in-Switch.arms.within in
    arms_start target most_arms (items_of c.in-Switch.arms) (basic_as target c.args.basic) (omega arith)

pub loop-code-preserved : goal.loop-code-preserved
loop-code-preserved g c = λ target.
    let xs = items_of c.in-Switch.arms in
    let cs = c.args.codes.now in
    let i = c.loop-code.code-index in
    let l = length-take c.loop-code.arms.count c.loop-code.arms.items in
    let few = c.loop-code.arms.within in
    ap (arms_as target) c.push.ensures.items
    ∙ arms_step target most_arms xs (items_of c.loop-code.arms) (take i cs) _ c.args.basic (omega arith) (c.loop-code.invariant target)
    ∙ ap (λ ds. take most_arms (arms_as target xs ++ lead ds (basic_as target c.args.basic))) (sym (take_more cs i 0 c.loop-code-test.true))

pub returns : goal.returns
returns g c = λ target.
    let xs = items_of c.in-Switch.arms in
    let cs = c.args.codes.now in
    let b = basic_as target c.args.basic in
    ap switch (c.loop-code.invariant target ∙ ap (λ ds. take most_arms (arms_as target xs ++ lead ds b)) (take_all c.loop-code.code-index cs (omega arith)))
    ∙ sym (ap (λ k. with_arms cs b (kind_as target k)) c.in-Switch.is)
