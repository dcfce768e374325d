use Rattle.std.proofs.Common.{◌≡◌, ℕ, inl, inr, get_or, replicate, arith}
use Rattle.std.proofs.lemmas.List.{length-replicate, get_or-replicate, get_or_past}
use Rattle.std.proofs.lemmas.Bool.{cases_lt}
use Rattle.program.specs.Store.{unused}
use Rattle.program.proofs.builder.Builder.new.Goals as goal

-- nothing stands among so many unused slots, nor past them
none_there : (n i : ℕ) → get_or (replicate n unused) i unused ≡ unused
none_there n i = elim (cases_lt i n) [ inl l ↦ get_or-replicate n i unused unused l | inr h ↦ get_or_past (replicate n unused) i unused (omega (arith, length-replicate n unused)) ]

pub invariant_of-result-clause-spare : goal.invariant_of-result-clause-spare
invariant_of-result-clause-spare c = λ i h. none_there 1024 i
