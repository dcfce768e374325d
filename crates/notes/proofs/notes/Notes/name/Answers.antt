use Rattle.std.proofs.Common.{arith}
use Rattle.std.proofs.lemmas.Bool.Decides.{nat_tests}
use Rattle.bounded.specs.Held.{held}
use Rattle.events.specs.Notes.{name_noted, flagged}
use Rattle.notes.specs.declared.kinds.Module.{Module}
use Rattle.notes.specs.Kinds.{entry_of}
use Rattle.notes.specs.Noted.{notes_of, name_told}
use Rattle.notes.proofs.Lists.{push_kept, room_push}
use Rattle.notes.proofs.notes.Notes.name.Goals as goal

pub returns : goal.returns
unfolding notes_of name_noted name_told flagged
returns c =
    let n = c.check_name.new.self in
    let m : Module = record { name = c.args.name; first = n.count } in
    grind (arith, nat_tests, push_kept (entry_of c.args.source.now) (held n.modules.now) m n.module_end, room_push (held n.modules.now) m)
