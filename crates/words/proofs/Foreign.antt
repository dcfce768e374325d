-- The first foreign byte of a source is what its definition says.
use Rattle.std.proofs.Common.{arith}
use Rattle.std.proofs.lemmas.List.Sums.{passes_at_first, fails_before_first}
use Rattle.words.specs.Bytes.{Text, first_foreign, FirstForeign}

pub first : (source : Text) → FirstForeign source (first_foreign source)
first source = grind (arith, passes_at_first, fails_before_first)
