use Rattle.std.proofs.Common.{refl}
use Rattle.std.proofs.lemmas.List.{drop-drop}
use Rattle.bounded.proofs.list.BoundedList.delete.Goals as goal

pub returns-clause-after : goal.returns-clause-after
returns-clause-after g c =
    let l = c.args.self.now in
    let further = drop-drop 1 l.back l.records.now in
    record { held = cc; lent = refl }
