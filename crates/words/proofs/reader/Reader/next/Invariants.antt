use Rattle.std.proofs.Common.{◌≡◌, ◌≤◌, drop}
use Rattle.words.specs.Words.{scan}
use Rattle.words.specs.Reading.{left}
use Rattle.words.proofs.Places.{start}
use Rattle.words.proofs.reader.Reader.next.Given as goal

-- the words from here on are those that were left at the call
abbrev pub invariant-loop-here : goal.invariant-loop-here
invariant-loop-here l = record {
  same : l.self ≡ l.initial.self;
  begun : start l.condition l.here ≤ l.here;
  reads : scan l.self.source.now l.condition l.here (drop l.here l.self.source.now) ≡ left l.self;
}
