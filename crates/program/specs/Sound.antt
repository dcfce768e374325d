-- Every stored program is a sound machine.
use Rattle.std.specs.Prelude.{◌≡◌, ℕ, ◌<◌, ◌≤◌, true, false, not, List, [], ◌∷◌, length, Some, None, Option, nat_lt, refl}
use Rattle.std.proofs.Common.{arith}
use Rattle.std.proofs.lemmas.Bool.{and_parts, not-true, leb-true, ltb-true}
use Rattle.std.proofs.lemmas.List.Elements.{All-get_or}
use Rattle.std.proofs.lemmas.List.Sums.{AllPass-from_list_all}
use Rattle.tape.specs.Meaning.{all_codes}
use Rattle.meaning.specs.Codes.{member, columns}
use Rattle.meaning.specs.Blocks.{Then, again, accepting, rejecting, jump, next, end, Basic, Kind, basic, switch, Compiled}
use Rattle.meaning.specs.Rules.{by_blocks, next_of, nothing, arm, current, kind_at}
use Rattle.meaning.specs.Faults.{too_many}
use Rattle.meaning.specs.Tables.{NextWithin}
use Rattle.meaning.specs.Laws.{SmallWrite}
use Rattle.machine.specs.Actions.{Sound}
use Rattle.program.specs.declared.program.Program.{Program}
use Rattle.program.specs.Store.{write_fits, then_fits, basic_fits}
use Rattle.program.specs.Arms.{switch_fits, arms_fit}
use Rattle.program.specs.Ranges.{arm_codes}
use Rattle.program.specs.InRange.{kind_fits, blocks_fit, in_range}
use Rattle.program.specs.Stored.{compiled}

-- the columns are codes
column_small : (ls : List ℕ) (c : ℕ) → all_codes ls ≡ true → member c (columns ls) ≡ true → c ≤ 36
column_small [] c a m = grind arith
column_small (d ∷ ls) c a m = grind (arith, column_small ls c)

write_small : (ls : List ℕ) (w : Option ℕ) → all_codes ls ≡ true → write_fits (columns ls) w ≡ true → SmallWrite w
write_small ls None a f = tt
write_small ls (Some c) a f = column_small ls c a f

next_small : (n q : ℕ) (t : Then ℕ) → q < n → then_fits n t ≡ true → NextWithin n (next_of q t)
next_small n q again h f = h
next_small n q accepting h f = tt
next_small n q rejecting h f = tt
next_small n q (jump r) h f = ltb-true r n f
next_small n q (next r) h f = ltb-true r n f
next_small n q end h f = tt

-- what a block gives at a symbol fits, where the block does
arm_fits : (cols : List ℕ) (n : ℕ) (arms : List (ℕ × Basic ℕ)) (c : ℕ) → arms_fit cols n arms ≡ true → basic_fits cols n (arm arms c) ≡ true
arm_fits cols n [] c a = refl
arm_fits cols n (x ∷ arms) c a = grind (arith, arm_fits cols n arms c)

pub current_fits : (cols : List ℕ) (n : ℕ) (k : Kind ℕ) (c : ℕ) → kind_fits cols n k ≡ true → basic_fits cols n (current k c) ≡ true
current_fits cols n (basic b) c f = f
current_fits cols n (switch arms) c f = arm_fits cols n arms c (and_parts (switch_fits cols (arm_codes arms)) (arms_fit cols n arms) f).1

-- the parts of being in range
pub record Parts (p : Compiled) : Type 0 where
  pub numbered : 1 ≤ length p.blocks
  pub few : too_many (length p.blocks) (length (columns p.letters)) ≡ false
  pub fit : blocks_fit (columns p.letters) (length p.blocks) p.blocks ≡ true

pub range_parts : (p : Compiled) → in_range p ≡ true → Parts p
range_parts p r =
    let a = and_parts _ _ r in
    let b = and_parts (not (too_many (length p.blocks) (length (columns p.letters)))) _ a.1 in
    record { numbered = leb-true 1 (length p.blocks) a.0; few = not-true (too_many (length p.blocks) (length (columns p.letters))) b.0; fit = b.1 }

-- the block with a number that there is
pub kind_there : (cols : List ℕ) (n : ℕ) (ks : List (Kind ℕ)) (q : ℕ) → q < length ks → blocks_fit cols n ks ≡ true → kind_fits cols n (kind_at ks q) ≡ true
kind_there cols n ks q h fit = All-get_or (λ k. kind_fits cols n k ≡ true) ks q (basic nothing) h (AllPass-from_list_all (kind_fits cols n) ks fit)

module _ (p : Compiled) (codes : all_codes p.letters ≡ true) (ranged : in_range p ≡ true) where
  fits : (q c : ℕ) → nat_lt q (length p.blocks) ≡ true → basic_fits (columns p.letters) (length p.blocks) (current (kind_at p.blocks q) c) ≡ true
  fits q c l = current_fits (columns p.letters) (length p.blocks) (kind_at p.blocks q) c (kind_there (columns p.letters) (length p.blocks) p.blocks q (ltb-true q (length p.blocks) l) (range_parts p ranged).fit)

  pub sound : Sound (by_blocks p)
  sound = record {
    begins = (let z = (range_parts p ranged).numbered in omega arith);
    writes = λ q c l m. write_small p.letters _ codes (and_parts _ _ (fits q c l)).0;
    leads = λ q c l m. next_small (length p.blocks) q _ (ltb-true q (length p.blocks) l) (and_parts _ _ (fits q c l)).1;
  }

pub program_sound : (p : Program) → Sound (by_blocks (compiled p))
program_sound p = sound (compiled p) p.store.alphabet.codes p.ranged
