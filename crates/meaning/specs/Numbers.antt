-- The number of each cause of a fault and of each refusal, and the layer of each cause.
use Rattle.std.specs.Prelude.{ℕ}
use Rattle.tape.specs.declared.kinds.TapeRefusal.{TapeRefusal}
use Rattle.tape.specs.declared.kinds.TapeRefusal.TheVariants.{Shape}
use Rattle.meaning.specs.declared.faults.Cause.{Cause}
use Rattle.meaning.specs.declared.faults.Cause.TheVariants.{Length, Byte, Word, Depth, Alphabet, ModuleName, Goto, Letter, Repeated, Missing, Limit}
use Rattle.meaning.specs.declared.faults.Layer.{Layer}
use Rattle.meaning.specs.declared.faults.Layer.TheVariants.{Bytes, Words, Rules}
use Rattle.meaning.specs.declared.refusals.Refusal.{Refusal}
use Rattle.meaning.specs.declared.refusals.Refusal.TheVariants.{Code, Edge, Capacity, Verdict, Number, Symbol, Total, Fuel}

-- the number of a fault's cause
abbrev pub cause_number : Cause → ℕ
cause_number Length = 1
cause_number Byte = 2
cause_number Word = 3
cause_number Depth = 4
cause_number Alphabet = 5
cause_number ModuleName = 6
cause_number Goto = 7
cause_number Letter = 8
cause_number Repeated = 9
cause_number Missing = 10
cause_number Limit = 11

-- the layer of a fault's cause
abbrev pub cause_layer : Cause → Layer
cause_layer Length = Bytes
cause_layer Byte = Bytes
cause_layer Word = Words
cause_layer Depth = Words
cause_layer Alphabet = Rules
cause_layer ModuleName = Rules
cause_layer Goto = Rules
cause_layer Letter = Rules
cause_layer Repeated = Rules
cause_layer Missing = Rules
cause_layer Limit = Rules

-- the number of a refusal
abbrev pub refusal_number : Refusal → ℕ
refusal_number Code = 12
refusal_number Edge = 13
refusal_number Capacity = 14
refusal_number Verdict = 15
refusal_number Number = 16
refusal_number Symbol = 17
refusal_number Total = 18
refusal_number Fuel = 19

-- a tape's refusal as a run's; no call on a tape answers Shape, which is for its making
abbrev pub from_tape : TapeRefusal → Refusal
from_tape TapeRefusal.Code = Code
from_tape TapeRefusal.Edge = Edge
from_tape TapeRefusal.Capacity = Capacity
from_tape Shape = Code
