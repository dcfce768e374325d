-- The ranges that every stored program keeps.
use Rattle.std.specs.Prelude.{◌≡◌, ℕ, ◌≤◌, true, false, List, map, length}
use Rattle.meaning.specs.Codes.{different, columns}
use Rattle.meaning.specs.Blocks.{Basic, Kind, basic, switch, Compiled}
use Rattle.meaning.specs.Faults.{too_many}
use Rattle.meaning.specs.Tables.{Each}
use Rattle.program.specs.Store.{covers, basic_fits}
use Rattle.program.specs.declared.blocks.Shape.TheVariants.{Switch}

-- the symbols of arms
abbrev pub arm_codes : List (ℕ × Basic ℕ) → List ℕ
arm_codes arms = map (λ a. a.0) arms

-- a switch has exactly one arm for each column; every basic block writes a symbol of the columns, if anything, and leads to one of n numbers, if to any
abbrev pub KindWithin : List ℕ → ℕ → Kind ℕ → Type 0
KindWithin cols n (basic b) = basic_fits cols n b ≡ true
KindWithin cols n (switch arms) = (length arms ≡ length cols) × (covers cols Switch (arm_codes arms) ≡ true) × Each (λ (a : ℕ × Basic ℕ). basic_fits cols n a.1 ≡ true) arms

-- 1 to 36 letters, which differ from one another and from blank; 1 to 128 numbers, with at most 1,024 slots
pub record Ranges (p : Compiled) : Type 0 where
  pub lettered : 1 ≤ length p.letters
  pub most : length p.letters ≤ 36
  pub codes : Each (λ c. c ≤ 36) p.letters
  pub differ : different (columns p.letters) ≡ true
  pub numbered : 1 ≤ length p.blocks
  pub few : too_many (length p.blocks) (length (columns p.letters)) ≡ false
  pub kinds : Each (KindWithin (columns p.letters) (length p.blocks)) p.blocks
