use Rattle.std.proofs.Common.{◌≡◌, ℕ, ◌-◌, min, List, length, take, drop, arith}
use Rattle.std.proofs.lemmas.List.{take_rest, take_all, drop_all}
use Rattle.std.proofs.lemmas.Bool.Decides.{nat_tests}
use Rattle.notes.proofs.names.text.Goals as goal

-- a stretch of a list, as far as the list goes
clipped : {A : Type 0} (xs : List A) (s n i k : ℕ) → i ≡ min s (length xs) → k ≡ min n (length (take (length xs - i) (drop i xs))) → take k (take (length xs - i) (drop i xs)) ≡ take n (drop s xs)
clipped xs s n i k ei ek = grind (arith, nat_tests, take_rest xs i, take_all k (drop s xs), take_all n (drop s xs), drop_all s xs, drop_all i xs)

pub returns : goal.returns
returns c = clipped c.args.source.now c.args.span.start c.args.span.length _ _ c.min-start.ensures c.min-length.ensures
