-- What a word is to the grammar: a symbol, a keyword, a mark, a name, or nothing.
use Rattle.std.specs.Prelude.{◌≡◌, true, false, cond, List, [], ◌∷◌, Some, None, Option, ◌≢◌}
use Rattle.words.specs.declared.token.Keyword.{Keyword}
use Rattle.words.specs.declared.token.Keyword.TheVariants.{Alphabet, Module, If, While, Changeto, Move, Left, Right, Accept, Reject, Goto}
use Rattle.words.specs.declared.token.Mark.{Mark}
use Rattle.words.specs.declared.token.Mark.TheVariants.{Open, Close, Comma, Equals}
use Rattle.words.specs.declared.token.Token.{Token}
use Rattle.words.specs.declared.token.Token.TheVariants.{Name, Symbol, Keyword as Key, Mark as Marked}
use Rattle.words.specs.Bytes.{Text}
use Rattle.words.specs.Vocabulary.{same, is_name_text, is_symbol_text, OPEN, CLOSE, COMMA, EQUALS, ALPHABET, MODULE, IF, WHILE, CHANGETO, MOVE, LEFT, RIGHT, ACCEPT, REJECT, GOTO}

-- how a keyword is written
abbrev pub keyword_text : Keyword → Text
keyword_text Alphabet = ALPHABET
keyword_text Module = MODULE
keyword_text If = IF
keyword_text While = WHILE
keyword_text Changeto = CHANGETO
keyword_text Move = MOVE
keyword_text Left = LEFT
keyword_text Right = RIGHT
keyword_text Accept = ACCEPT
keyword_text Reject = REJECT
keyword_text Goto = GOTO

-- how a mark is written
abbrev pub mark_text : Mark → Text
mark_text Open = OPEN
mark_text Close = CLOSE
mark_text Comma = COMMA
mark_text Equals = EQUALS

-- the first of a list that is written so
abbrev pub written : {A : Type 0} → (A → Text) → List A → Text → Option A
written text [] w = None
written text (x ∷ xs) w = cond (same w (text x)) (Some x) (written text xs w)

-- every keyword
abbrev pub keywords : List Keyword
keywords = Alphabet ∷ Module ∷ If ∷ While ∷ Changeto ∷ Move ∷ Left ∷ Right ∷ Accept ∷ Reject ∷ Goto ∷ []

-- every mark
abbrev pub marks : List Mark
marks = Open ∷ Close ∷ Comma ∷ Equals ∷ []

-- the keyword that is written so
abbrev pub keyword_in : Text → Option Keyword
keyword_in w = written keyword_text keywords w

-- the mark that is written so
abbrev pub mark_in : Text → Option Mark
mark_in w = written mark_text marks w

-- what a word is to the grammar
pub data Kind : Type 0 where
  symbol : Kind
  key : Keyword → Kind
  mark : Mark → Kind
  name : Kind
  none : Kind

-- the kind of a text that is no symbol and no keyword
abbrev pub plain_kind : Option Mark → Text → Kind
plain_kind (Some m) w = mark m
plain_kind None w = cond (is_name_text w) name none

-- the kind of a text that is no symbol
abbrev pub fixed_kind : Option Keyword → Text → Kind
fixed_kind (Some k) w = key k
fixed_kind None w = plain_kind (mark_in w) w

-- the kind of a text
unfoldable pub kind : Text → Kind
kind w = cond (is_symbol_text w) symbol (fixed_kind (keyword_in w) w)

-- what a text of a kind is
abbrev pub Means : Text → Kind → Type 0
Means w symbol = is_symbol_text w ≡ true
Means w (key k) = w ≡ keyword_text k
Means w (mark m) = w ≡ mark_text m
Means w name = (is_name_text w ≡ true) × (is_symbol_text w ≡ false) × ((k : Keyword) → w ≢ keyword_text k)
Means w none = (is_name_text w ≡ false) × (is_symbol_text w ≡ false) × ((m : Mark) → w ≢ mark_text m)

-- a text is what its kind says, and of no other kind
pub record OnlyKindOf (w : Text) (k : Kind) : Type 0 where
  pub is : Means w k
  pub only : (j : Kind) → Means w j → j ≡ k

-- the kind that a token tells
abbrev pub kind_of : Option Token → Kind
kind_of None = none
kind_of (Some (Name t)) = name
kind_of (Some (Symbol t)) = symbol
kind_of (Some (Key k t)) = key k
kind_of (Some (Marked m t)) = mark m

-- the text that a token borrows
abbrev pub text_of : Token → Text
text_of (Name t) = t.now
text_of (Symbol t) = t.now
text_of (Key k t) = t.now
text_of (Marked m t) = t.now
