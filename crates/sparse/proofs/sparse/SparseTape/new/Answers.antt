use Rattle.std.proofs.Common.{[], length, replicate, sym, ap, ◌∙◌}
use Rattle.std.proofs.lemmas.List.{length-replicate, get_or-replicate}
use Rattle.std.proofs.lemmas.List.FromFn.{fill_by_all}
use Rattle.sparse.proofs.Calls.{of_list}
use Rattle.sparse.specs.Records.{code_at}
use Rattle.sparse.proofs.sparse.SparseTape.new.Goals as goal

pub returns-clause-meaning : goal.returns-clause-meaning
returns-clause-meaning c =
    let n = c.args.size in
    let blank = fill_by_all (code_at []) (replicate n 0) n 0 (length-replicate n 0) (λ k lt. get_or-replicate n k 0 0 lt) in
    ap (of_list n c.args.head) c.clear.ensures.held ∙ ap (λ cs. record { capacity = length c.args.records.now.records.now; cells = cs; head = c.args.head }) (sym blank)
