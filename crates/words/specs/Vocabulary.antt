-- The fixed words of the grammar, and the tests for names, letters and symbols.
use Rattle.std.specs.Prelude.{Bool, false, ◌&&◌, ◌||◌, T, [], ◌∷◌, codes}
use Rattle.std.specs.List.{list_all}
use Rattle.std.specs.Str.{bytes_eq}
use Rattle.words.specs.Bytes.{Text, between, is_alpha, is_digit}

-- the marks
abbrev pub OPEN : Text
OPEN = codes "{"

abbrev pub CLOSE : Text
CLOSE = codes "}"

abbrev pub COMMA : Text
COMMA = codes ","

abbrev pub EQUALS : Text
EQUALS = codes "="

-- the keywords
abbrev pub ALPHABET : Text
ALPHABET = codes "alphabet"

abbrev pub MODULE : Text
MODULE = codes "module"

abbrev pub IF : Text
IF = codes "if"

abbrev pub WHILE : Text
WHILE = codes "while"

abbrev pub CHANGETO : Text
CHANGETO = codes "changeto"

abbrev pub MOVE : Text
MOVE = codes "move"

abbrev pub LEFT : Text
LEFT = codes "left"

abbrev pub RIGHT : Text
RIGHT = codes "right"

abbrev pub ACCEPT : Text
ACCEPT = codes "accept"

abbrev pub REJECT : Text
REJECT = codes "reject"

abbrev pub GOTO : Text
GOTO = codes "goto"

-- the symbol of an empty cell
abbrev pub BLANK : Text
BLANK = codes "blank"

-- two texts are the same, byte by byte
abbrev pub same : Text → Text → Bool
same v w = bytes_eq v w

-- every byte is an ASCII letter
abbrev pub alphas : Text → Bool
alphas w = list_all is_alpha w

-- a name: one or more ASCII letters
abbrev pub is_name_text : Text → Bool
is_name_text [] = false
is_name_text (b ∷ bs) = is_alpha b && alphas bs

-- a letter of an alphabet: one byte from a to z or 0 to 9
abbrev pub is_letter_text : Text → Bool
is_letter_text [] = false
is_letter_text (b ∷ []) = between 97 122 b || is_digit b
is_letter_text (b ∷ c ∷ bs) = false

-- a symbol: a letter, or blank
abbrev pub is_symbol_text : Text → Bool
is_symbol_text w = is_letter_text w || same w BLANK

-- a text that passes a test
pub record Such (test : Text → Bool) : Type 0 where
  pub word : Text
  pub fits : T (test word)

-- a text that is a name
abbrev pub Name : Type 0
Name = Such is_name_text

-- a text that is a symbol
abbrev pub Symbol : Type 0
Symbol = Such is_symbol_text
