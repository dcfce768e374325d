-- A tape with a record for each nonblank cell: what it means, and what it can be made of.
use Rattle.std.specs.Prelude.{ℕ, ◌≤◌, Bool, cond, ◌&&◌, replicate, Ok, Err, Result, nat_le, nat_lt}
use Rattle.std.proofs.Common.{arith}
use Rattle.std.proofs.lemmas.List.{length-take-le, length-drop}
use Rattle.bounded.specs.Held.{held, all, count}
use Rattle.tape.specs.declared.kinds.TapeRefusal.{TapeRefusal}
use Rattle.tape.specs.declared.kinds.TapeRefusal.TheVariants.{Shape}
use Rattle.tape.specs.Meaning.{Meaning, Valid}
use Rattle.sparse.specs.declared.sparse.SparseTape.{SparseTape}
use Rattle.sparse.specs.Records.{of_records}
use Rattle.sparse.specs.Sound.{sound}

-- as many cells may be nonblank as there is room for records
abbrev pub sparse : SparseTape → Meaning
sparse t = of_records (held t.records.now).capacity t.size (all (held t.records.now)) t.head

-- n blank cells, of which k may become nonblank
abbrev pub blank_tape : ℕ → ℕ → ℕ → Meaning
blank_tape k n h = record { capacity = k; cells = replicate n 0; head = h }

-- a tape can be made of these: 1 to 4,096 cells, no more records than cells, the head on a cell
abbrev pub sparse_fits : ℕ → ℕ → ℕ → Bool
sparse_fits k n h = nat_lt h n && (nat_le n 4096 && nat_le k n)

abbrev pub sparse_check : ℕ → ℕ → ℕ → Result (Unit {0}) TapeRefusal
sparse_check k n h = cond (sparse_fits k n h) (Ok tt) (Err Shape)

pub sparse_sound : (t : SparseTape) → Valid (sparse t)
sparse_sound t =
    let l = t.records.now in
    let front = length-take-le l.front l.records.now (omega arith) in
    let few : count (held l) ≤ (held l).capacity = simp length-drop (omega arith) in
    sound t.size t.head (held l) t.kept few
