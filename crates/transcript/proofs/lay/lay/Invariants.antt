use Rattle.std.proofs.Common.{◌≡◌}
use Rattle.std.specs.Iterator.Adapters.{rev_source}
use Rattle.std.specs.Slice.Iter.{iter_rest}
use Rattle.transcript.specs.Lay.{laid}
use Rattle.transcript.proofs.lay.lay.Given as goal

-- what is left, laid on the tape as it is, is all of it laid on the tape as it was
abbrev pub invariant-loop-code : goal.invariant-loop-code
invariant-loop-code g l = record {
  rest : laid (iter_rest (rev_source l.code-iterator)) (g.T.Tape.meaning l.tape) ≡ laid l.codes (g.T.Tape.meaning l.initial.tape);
  lent : g.T.Tape.lent l.tape ≡ g.T.Tape.lent l.initial.tape;
}
