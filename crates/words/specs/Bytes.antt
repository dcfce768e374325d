-- The classes of bytes, and the first byte that no source may hold.
use Rattle.std.specs.Prelude.{◌≡◌, ℕ, ◌<◌, Bool, true, false, cond, ◌&&◌, ◌||◌, List, length, position, Some, None, Option, ◌==◌, nat_le, slice_index}
use Rattle.words.specs.declared.bytes.Class.{Class}
use Rattle.words.specs.declared.bytes.Class.TheVariants.{Part, Mark, Separator, Foreign}

-- a text is its bytes
abbrev pub Text : Type 0
Text = List ℕ

-- a byte from low to high
abbrev pub between : ℕ → ℕ → ℕ → Bool
between low high b = nat_le low b && nat_le b high

-- an ASCII letter: a to z, or A to Z
abbrev pub is_alpha : ℕ → Bool
is_alpha b = between 97 122 b || between 65 90 b

-- an ASCII digit
abbrev pub is_digit : ℕ → Bool
is_digit b = between 48 57 b

-- one of { } , =
abbrev pub is_mark_byte : ℕ → Bool
is_mark_byte b = b == 123 || b == 125 || b == 44 || b == 61

-- space, tab, CR or LF
abbrev pub is_separator : ℕ → Bool
is_separator b = b == 32 || b == 9 || b == 13 || b == 10

-- the class of a byte
abbrev pub class : ℕ → Class
class b = cond (is_alpha b || is_digit b) Part (cond (is_mark_byte b) Mark (cond (is_separator b) Separator Foreign))

-- the source has a byte of a class at a place
abbrev pub Holds : Text → ℕ → Class → Type 0
Holds source i k = (i < length source) × (class (slice_index source i) ≡ k)

-- the class of a byte that no source may hold
abbrev pub is_foreign : Class → Bool
is_foreign Part = false
is_foreign Mark = false
is_foreign Separator = false
is_foreign Foreign = true

-- the place of the first foreign byte
abbrev pub first_foreign : Text → Option ℕ
first_foreign source = position (λ b. is_foreign (class b)) source

-- no byte is foreign, or the one at the place is, and none before it
abbrev pub FirstForeign : Text → Option ℕ → Type 0
FirstForeign source None = (i : ℕ) → Holds source i Foreign → ⊥
FirstForeign source (Some p) = Holds source p Foreign × ((i : ℕ) → i < p → Holds source i Foreign → ⊥)
