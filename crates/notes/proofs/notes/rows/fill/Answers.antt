use Rattle.std.proofs.Common.{◌≡◌, Some, None, sym, ap, ◌∙◌}
use Rattle.std.specs.List.{slice_get}
use Rattle.bounded.specs.Inline.{items_of}
use Rattle.events.specs.Notes.{altered}
use Rattle.program.specs.Store.{basic_as}
use Rattle.notes.specs.Kinds.{owner_of}
use Rattle.notes.specs.Noted.{kinds_as, kind_filled}
use Rattle.notes.proofs.Rows.{item_at, no_item, kinds_set, kinds_past, filled_altered}
use Rattle.notes.proofs.notes.rows.fill.Goals as goal

pub returns-in-Some-clause-blocks : goal.returns-in-Some-clause-blocks
returns-in-Some-clause-blocks g c = λ target.
    let bs = items_of c.args.rows.now in
    let n = c.number-number.result in
    let o = owner_of c.args.owner in
    let b = basic_as target c.args.basic in
    let here : slice_get bs n ≡ Some c.in-Some.block.now = ap (λ l. slice_get l n) (sym c.as_slice.ensures) ∙ item_at _ _ c.in-Some.block c.in-Some.ensures.lookup in
    ap (kinds_as target) c.replace.ensures.items
    ∙ kinds_set target (kind_filled o b) bs n c.in-Some.block.now c.filled-block.result here (c.filled-block.ensures target)
    ∙ ap (λ q. altered (kinds_as target bs) q (kind_filled o b)) c.number-number.ensures
    ∙ filled_altered o b (kinds_as target bs)

pub returns-in_default-clause-blocks : goal.returns-in_default-clause-blocks
returns-in_default-clause-blocks g c = λ target.
    let bs = items_of c.args.rows.now in
    let n = c.number-number.result in
    let o = owner_of c.args.owner in
    let b = basic_as target c.args.basic in
    let past : slice_get bs n ≡ None = ap (λ l. slice_get l n) (sym c.as_slice.ensures) ∙ no_item _ _ c.in_default.ensures.lookup in
    kinds_past target (kind_filled o b) bs n past
    ∙ ap (λ q. altered (kinds_as target bs) q (kind_filled o b)) c.number-number.ensures
    ∙ filled_altered o b (kinds_as target bs)
