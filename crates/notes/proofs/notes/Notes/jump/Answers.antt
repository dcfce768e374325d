use Rattle.std.proofs.Common.{arith}
use Rattle.std.proofs.lemmas.Bool.Decides.{nat_tests}
use Rattle.bounded.specs.Held.{held}
use Rattle.events.specs.Notes.{jump_noted, finished}
use Rattle.notes.specs.Kinds.{pending_of}
use Rattle.notes.specs.Noted.{notes_of}
use Rattle.notes.proofs.Lists.{push_kept, room_push}
use Rattle.notes.proofs.notes.Notes.jump.Goals as goal

pub returns : goal.returns
unfolding notes_of jump_noted finished
returns c = λ source.
    let n = c.finish.new.self in
    grind (arith, nat_tests, c.finish.ensures source, push_kept (pending_of source) (held n.gotos.now) c.args.name n.goto_end, room_push (held n.gotos.now) c.args.name)
