-- A program in range can be put together, block by block.
use Rattle.std.proofs.Common.{◌≡◌, ℕ, ◌+◌, ◌≤◌, true, false, not, ◌&&◌, List, [], ◌∷◌, length, nat_le, refl, ap, arith, length-append}
use Rattle.std.proofs.lemmas.Bool.{and_parts}
use Rattle.std.proofs.lemmas.Bool.Decides.{nat_tests}
use Rattle.std.proofs.lemmas.List.{append_assoc}
use Rattle.meaning.specs.Codes.{columns}
use Rattle.meaning.specs.Blocks.{Kind, basic, switch, Compiled}
use Rattle.meaning.specs.Faults.{too_many}
use Rattle.program.specs.declared.blocks.Arm.{Arm}
use Rattle.program.specs.Ranges.{arm_codes}
use Rattle.program.specs.Arms.{codes_of, arms_in, switch_fits, arms_fit}
use Rattle.program.specs.InRange.{kind_fits, blocks_fit, in_range}
use Rattle.program.specs.Built.{no_blocks, with_block, has_room}
use Rattle.program.specs.Taken.{takes_block, takes_blocks, with_blocks}
use Rattle.program.proofs.Rows.{row_end}

-- the codes of arms as a switch has them
pub codes_kept : (arms : List (Arm ℕ)) → arm_codes (arms_in arms) ≡ codes_of arms
codes_kept [] = refl
codes_kept (a ∷ arms) = ap (λ l. a.code ∷ l) (codes_kept arms)

-- one block more, and then the others
pub one_then : (p : Compiled) (k : Kind ℕ) (ks : List (Kind ℕ)) → with_blocks (with_block p k) ks ≡ with_blocks p (k ∷ ks)
one_then p k ks = ap (λ l. record { letters = p.letters; blocks = l }) (append_assoc p.blocks (k ∷ []) ks)

-- where so many numbers are within the limits, there is room for fewer
room_below : (p : Compiled) (n : ℕ) → too_many n (length (columns p.letters)) ≡ false → length p.blocks + 1 ≤ n → has_room p ≡ true
room_below p n few le =
    let w = length (columns p.letters) in
    let below = row_end (length p.blocks) n w (omega arith) in
    grind (arith, nat_tests)

one_taken : (p : Compiled) (n : ℕ) (k : Kind ℕ) → has_room p ≡ true → kind_fits (columns p.letters) n k ≡ true → takes_block p k ≡ true
one_taken p n (basic b) room fits = room
one_taken p n (switch arms) room fits =
    let parts = and_parts (switch_fits (columns p.letters) (arm_codes arms)) (arms_fit (columns p.letters) n arms) fits in
    grind (arith, parts.0)

-- blocks that fit are taken, as far as the numbers go
pub all_taken : (p : Compiled) (n : ℕ) (ks : List (Kind ℕ)) → too_many n (length (columns p.letters)) ≡ false → length p.blocks + length ks ≤ n → blocks_fit (columns p.letters) n ks ≡ true → takes_blocks p ks ≡ true
all_taken p n [] few le fit = refl
all_taken p n (k ∷ ks) few le fit =
    let parts = and_parts (kind_fits (columns p.letters) n k) (blocks_fit (columns p.letters) n ks) fit in
    let one = one_taken p n k (room_below p n few (omega arith)) parts.0 in
    let rest = all_taken (with_block p k) n ks few (omega (arith, length-append p.blocks (k ∷ []))) parts.1 in
    grind (arith, one, rest)

-- a program in range is taken from its first block on
pub range_taken : (p : Compiled) → in_range p ≡ true → takes_blocks (no_blocks p.letters) p.blocks ≡ true
range_taken p fits =
    let cols = columns p.letters in
    let n = length p.blocks in
    let within = not (too_many n (length cols)) in
    let each = blocks_fit cols n p.blocks in
    let parts = and_parts within each (and_parts (nat_le 1 n) (within && each) fits).1 in
    let few : too_many n (length cols) ≡ false = grind (arith, parts.0) in
    all_taken (no_blocks p.letters) n p.blocks few (omega arith) parts.1
