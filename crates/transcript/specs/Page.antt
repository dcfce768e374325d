-- Text at the front of a buffer.
use Rattle.std.specs.Prelude.{ℕ, cond, List, ◌++◌, length, drop, Ok, Err, Result, nat_lt}
use Rattle.transcript.specs.declared.page.TooShort.{TooShort}

-- a buffer with this text at its front, and the rest as it was
abbrev pub begun : List ℕ → List ℕ → List ℕ
begun text buffer = text ++ drop (length text) buffer

-- the text's length; or, where the buffer is shorter, a refusal with the bytes needed
abbrev pub print_answer : List ℕ → List ℕ → Result ℕ TooShort
print_answer text buffer = cond (nat_lt (length buffer) (length text)) (Err (record { needed = length text })) (Ok (length text))

-- a buffer that is shorter stays as it was
abbrev pub print_after : List ℕ → List ℕ → List ℕ
print_after text buffer = cond (nat_lt (length buffer) (length text)) buffer (begun text buffer)

-- the number of the refusal
abbrev pub too_short_number : ℕ
too_short_number = 21
