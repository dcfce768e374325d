-- Every stored program keeps the ranges.
use Rattle.std.proofs.Common.{arith, ◌≡◌, ℕ, ◌≤◌, true, leb, List, [], ◌∷◌}
use lib.ListN.{length-map}
use Rattle.std.proofs.lemmas.Bool.{and_parts, leb-true}
use Rattle.tape.specs.Meaning.{all_codes}
use Rattle.meaning.specs.Blocks.{Basic, Kind, basic, switch}
use Rattle.meaning.specs.Tables.{Each}
use Rattle.alphabet.proofs.Places.{letters_most}
use Rattle.program.specs.declared.program.Program.{Program}
use Rattle.program.specs.Store.{basic_fits}
use Rattle.program.specs.Arms.{arms_fit, switch_fits}
use Rattle.program.specs.Ranges.{arm_codes, KindWithin, Ranges}
use Rattle.program.specs.InRange.{kind_fits, blocks_fit}
use Rattle.program.specs.Stored.{compiled}
use Rattle.program.specs.Sound.{range_parts}

codes_small : (ls : List ℕ) → all_codes ls ≡ true → Each (λ c. c ≤ 36) ls
codes_small [] a = tt
codes_small (c ∷ cs) a = let p = and_parts (leb c 36) (all_codes cs) a in (leb-true c 36 p.0, codes_small cs p.1)

-- what fits is within the ranges
module _ (cols : List ℕ) (n : ℕ) where
  arms_within : (arms : List (ℕ × Basic ℕ)) → arms_fit cols n arms ≡ true → Each (λ (a : ℕ × Basic ℕ). basic_fits cols n a.1 ≡ true) arms
  arms_within [] f = tt
  arms_within (a ∷ arms) f = let p = and_parts (basic_fits cols n a.1) (arms_fit cols n arms) f in (p.0, arms_within arms p.1)

  kind_within : (k : Kind ℕ) → kind_fits cols n k ≡ true → KindWithin cols n k
  kind_within (basic b) f = f
  kind_within (switch arms) f =
      let p = and_parts (switch_fits cols (arm_codes arms)) (arms_fit cols n arms) f in
      (grind (arith, length-map arms (λ (a : ℕ × Basic ℕ). a.0)), grind arith, arms_within arms p.1)

  kinds_within : (ks : List (Kind ℕ)) → blocks_fit cols n ks ≡ true → Each (KindWithin cols n) ks
  kinds_within [] f = tt
  kinds_within (k ∷ ks) f = let p = and_parts (kind_fits cols n k) (blocks_fit cols n ks) f in (kind_within k p.0, kinds_within ks p.1)

pub program_within : (p : Program) → Ranges (compiled p)
program_within p =
    let a = p.store.alphabet in
    let parts = range_parts (compiled p) p.ranged in
    record {
      lettered = a.lettered;
      most = letters_most a;
      codes = codes_small (compiled p).letters a.codes;
      differ = a.differ;
      numbered = parts.numbered;
      few = parts.few;
      kinds = kinds_within _ _ (compiled p).blocks parts.fit;
    }
