use Rattle.std.proofs.Common.{sym, ◌∙◌}
use Rattle.bounded.specs.Inline.{items_of}
use Rattle.program.proofs.Pushed.{basic_kept}
use Rattle.program.proofs.builder.Builder.push_basic.Goals as goal

pub invariant_of-store : goal.invariant_of-store
invariant_of-store c =
    let k = basic_kept c.args.self.now.store c.in_ok-place.place (sym c.in_ok-place.was ∙ c.next_row.ensures) c.args.basic (items_of c.push.new.self) c.push.ensures.items in
    record { listed = k.listed; whole = k.whole; room = k.room; covered = k.covered; bare = k.bare; spare = k.spare }
