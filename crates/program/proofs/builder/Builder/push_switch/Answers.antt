use Rattle.std.proofs.Common.{sym, ◌∙◌}
use Rattle.bounded.specs.Inline.{items_of}
use Rattle.program.proofs.Pushed.{switch_kept}
use Rattle.program.proofs.builder.Builder.push_switch.Goals as goal

pub invariant_of-store : goal.invariant_of-store
invariant_of-store c =
    let k = switch_kept c.args.self.now.store c.in_ok-base.base (sym c.in_ok-base.was ∙ c.next_row.ensures) c.args.arms.now (sym c.are_whole.ensures ∙ c.if-not-are_whole.false) (items_of c.push.new.self) c.push.ensures.items
    c.write_codes.new.order c.write_codes.ensures c.write_slots.new.slots c.write_slots.ensures in
    record { listed = k.listed; whole = k.whole; room = k.room; covered = k.covered; bare = k.bare; spare = k.spare }
