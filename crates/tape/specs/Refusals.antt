-- The number of each refusal of a tape.
use Rattle.std.specs.Prelude.{ℕ}
use Rattle.tape.specs.declared.kinds.TapeRefusal.{TapeRefusal}
use Rattle.tape.specs.declared.kinds.TapeRefusal.TheVariants.{Code, Edge, Capacity, Shape}

abbrev pub refusal_number : TapeRefusal → ℕ
refusal_number Code = 12
refusal_number Edge = 13
refusal_number Capacity = 14
refusal_number Shape = 20
