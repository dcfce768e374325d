-- The words of a text, read line by line.
use Rattle.std.proofs.Common.{◌≡◌, ℕ, ◌+◌, ◌-◌, Bool, true, cond, not, ◌&&◌, ◌||◌, List, [], ◌∷◌, ◌++◌, length, take, drop, None, sym, refl, ap, ◌∙◌, ap₂, append_assoc, append-nil, arith, length-append}
use lib.Seq.{take-append_seam, drop-append_seam}
use Rattle.std.specs.List.{list_all, position}
use Rattle.std.proofs.lemmas.Bool.{and_parts, and_from}
use Rattle.words.specs.Bytes.{Text, is_alpha, is_digit, is_mark_byte, is_separator, class, is_foreign, first_foreign}
use Rattle.words.specs.Words.{cut, turn, scan, words}
use Rattle.grammar.specs.Places.{texts}
use Rattle.words.specs.declared.bytes.Class.{Class}
use Rattle.words.specs.declared.bytes.Class.TheVariants.{Part, Mark, Separator, Foreign}
use Rattle.words.specs.declared.reader.Condition.TheVariants.{Between, Inside}
use Rattle.meaning.specs.Text.{Line, text_of}

abbrev pub close : Text → List Text → List Text
close [] ws = ws
close (a ∷ w) ws = (a ∷ w) ∷ ws

abbrev pub spell_by : Class → ℕ → Text → (Text → List Text) → List Text
spell_by Part b acc later = later (acc ++ b ∷ [])
spell_by Mark b acc later = close acc ((b ∷ []) ∷ later [])
spell_by Separator b acc later = close acc (later [])
spell_by Foreign b acc later = close acc (later [])

-- the words of some bytes, after a word begun
abbrev pub spell : Text → List ℕ → List Text
spell acc [] = close acc []
spell acc (b ∷ bs) = spell_by (class b) b acc (λ a. spell a bs)

close-++ : (acc : Text) (ws vs : List Text) → close acc (ws ++ vs) ≡ close acc ws ++ vs
close-++ [] ws vs = refl
close-++ (a ∷ w) ws vs = refl

by-++ : (c : Class) (b : ℕ) (acc : Text) (f g : Text → List Text) (vs : List Text) → ((a : Text) → f a ≡ g a ++ vs) → spell_by c b acc f ≡ spell_by c b acc g ++ vs
by-++ Part b acc f g vs h = h (acc ++ b ∷ [])
by-++ Mark b acc f g vs h = ap (λ ws. close acc ((b ∷ []) ∷ ws)) (h []) ∙ close-++ acc ((b ∷ []) ∷ g []) vs
by-++ Separator b acc f g vs h = ap (close acc) (h []) ∙ close-++ acc (g []) vs
by-++ Foreign b acc f g vs h = ap (close acc) (h []) ∙ close-++ acc (g []) vs

-- a space, a line's end or a mark ends a word
pub at_space : (l : List ℕ) (acc : Text) (rest : List ℕ) → spell acc (l ++ 32 ∷ rest) ≡ spell acc l ++ spell [] rest
at_space [] acc rest = close-++ acc [] (spell [] rest)
at_space (b ∷ l) acc rest = by-++ (class b) b acc (λ a. spell a (l ++ 32 ∷ rest)) (λ a. spell a l) (spell [] rest) (λ a. at_space l a rest)

pub at_line : (l : List ℕ) (acc : Text) (rest : List ℕ) → spell acc (l ++ 10 ∷ rest) ≡ spell acc l ++ spell [] rest
at_line [] acc rest = close-++ acc [] (spell [] rest)
at_line (b ∷ l) acc rest = by-++ (class b) b acc (λ a. spell a (l ++ 10 ∷ rest)) (λ a. spell a l) (spell [] rest) (λ a. at_line l a rest)

pub at_comma : (l : List ℕ) (acc : Text) (rest : List ℕ) → spell acc (l ++ 44 ∷ rest) ≡ spell acc l ++ (44 ∷ []) ∷ spell [] rest
at_comma [] acc rest = close-++ acc [] ((44 ∷ []) ∷ spell [] rest)
at_comma (b ∷ l) acc rest = by-++ (class b) b acc (λ a. spell a (l ++ 44 ∷ rest)) (λ a. spell a l) ((44 ∷ []) ∷ spell [] rest) (λ a. at_comma l a rest)

pub at_close : (l : List ℕ) (acc : Text) → spell acc (l ++ 125 ∷ []) ≡ spell acc l ++ (125 ∷ []) ∷ []
at_close [] acc = close-++ acc [] ((125 ∷ []) ∷ [])
at_close (b ∷ l) acc = by-++ (class b) b acc (λ a. spell a (l ++ 125 ∷ [])) (λ a. spell a l) ((125 ∷ []) ∷ []) (λ a. at_close l a)

-- a byte of a word
abbrev pub is_part_byte : ℕ → Bool
is_part_byte b = is_alpha b || is_digit b

abbrev pub all_part : List ℕ → Bool
all_part [] = true
all_part (b ∷ bs) = is_part_byte b && all_part bs

parts_spell : (w acc : Text) → all_part w ≡ true → spell acc w ≡ close (acc ++ w) []
parts_spell [] acc h = ap (λ a. close a []) (sym (append-nil acc))
parts_spell (b ∷ bs) acc h =
    let p = and_parts (is_part_byte b) (all_part bs) h in
    ap (λ v. spell_by (cond v Part (cond (is_mark_byte b) Mark (cond (is_separator b) Separator Foreign))) b acc (λ a. spell a bs)) p.0
    ∙ parts_spell bs (acc ++ b ∷ []) p.1
    ∙ ap (λ a. close a []) (append_assoc acc (b ∷ []) bs)

-- a word by itself
pub one_word : (b : ℕ) (bs : Text) → all_part (b ∷ bs) ≡ true → spell [] (b ∷ bs) ≡ (b ∷ bs) ∷ []
one_word b bs h = parts_spell (b ∷ bs) [] h

abbrev pub lines_words : List Line → List Text
lines_words [] = []
lines_words (l ∷ ls) = spell [] l ++ lines_words ls

pub text_words : (ls : List Line) → spell [] (text_of ls) ≡ lines_words ls
text_words [] = refl
text_words (l ∷ ls) = at_line l [] (text_of ls) ∙ ap (λ ws. spell [] l ++ ws) (text_words ls)

-- the reader by places finds the same words
cut_is : (src pre acc rest : List ℕ) (q p : ℕ) → src ≡ pre ++ (acc ++ rest) → q ≡ length pre → p ≡ q + length acc → (cut src q p).text ≡ acc
cut_is src pre acc rest q p e l m =
    let d : p - q ≡ length acc = omega arith in
    ap₂ take d (ap₂ drop l e ∙ drop-append_seam pre (acc ++ rest)) ∙ take-append_seam acc rest

longer : (src pre : List ℕ) (b : ℕ) (bs : List ℕ) → src ≡ pre ++ b ∷ bs → src ≡ (pre ++ b ∷ []) ++ bs
longer src pre b bs e = e ∙ sym (append_assoc pre (b ∷ []) bs)

longer_length : (pre : List ℕ) (b p : ℕ) → p ≡ length pre → p + 1 ≡ length (pre ++ b ∷ [])
longer_length pre b p l = omega (arith, length-append pre (b ∷ []))

abbrev FromBetween : List ℕ → Type 0
FromBetween rest = (src pre : List ℕ) (p : ℕ) → src ≡ pre ++ rest → p ≡ length pre → texts (scan src Between p rest) ≡ spell [] rest

abbrev FromInside : List ℕ → Type 0
FromInside rest = (src pre : List ℕ) (a : ℕ) (acc : List ℕ) (q p : ℕ) → src ≡ pre ++ ((a ∷ acc) ++ rest) → q ≡ length pre → p ≡ q + length (a ∷ acc) → texts (scan src (Inside q) p rest) ≡ spell (a ∷ acc) rest

from_between : (b : ℕ) (bs : List ℕ) → FromBetween bs → FromInside bs → (c : Class) (src pre : List ℕ) (p : ℕ) → src ≡ pre ++ b ∷ bs → p ≡ length pre
    → texts (turn src Between p c (λ j. scan src j (p + 1) bs)) ≡ spell_by c b [] (λ a. spell a bs)
from_between b bs out ins Part src pre p e l = ins src pre b [] p (p + 1) e l refl
from_between b bs out ins Mark src pre p e l =
    ap₂ (λ (w : Text) (ws : List Text). w ∷ ws) (cut_is src pre (b ∷ []) bs p (p + 1) e l refl) (out src (pre ++ b ∷ []) (p + 1) (longer src pre b bs e) (longer_length pre b p l))
from_between b bs out ins Separator src pre p e l = out src (pre ++ b ∷ []) (p + 1) (longer src pre b bs e) (longer_length pre b p l)
from_between b bs out ins Foreign src pre p e l = out src (pre ++ b ∷ []) (p + 1) (longer src pre b bs e) (longer_length pre b p l)

from_inside : (b : ℕ) (bs : List ℕ) → FromBetween bs → FromInside bs → (c : Class) (src pre : List ℕ) (a : ℕ) (acc : List ℕ) (q p : ℕ) → src ≡ pre ++ ((a ∷ acc) ++ b ∷ bs) → q ≡ length pre → p ≡ q + length (a ∷ acc)
    → texts (turn src (Inside q) p c (λ j. scan src j (p + 1) bs)) ≡ spell_by c b (a ∷ acc) (λ v. spell v bs)
from_inside b bs out ins Part src pre a acc q p e l m =
    ins src pre a (acc ++ b ∷ []) q (p + 1) (e ∙ ap (λ r. pre ++ (a ∷ r)) (sym (append_assoc acc (b ∷ []) bs))) l (omega (arith, length-append acc (b ∷ [])))
from_inside b bs out ins Mark src pre a acc q p e l m =
    let e' : src ≡ (pre ++ (a ∷ acc)) ++ b ∷ bs = e ∙ sym (append_assoc pre (a ∷ acc) (b ∷ bs)) in
    let l' : p ≡ length (pre ++ (a ∷ acc)) = omega (arith, length-append pre (a ∷ acc)) in
    let ws = scan src Between (p + 1) bs in
    ap₂ (λ (v w : Text). v ∷ w ∷ texts ws) (cut_is src pre (a ∷ acc) (b ∷ bs) q p e l m) (cut_is src (pre ++ (a ∷ acc)) (b ∷ []) bs p (p + 1) e' l' refl)
    ∙ ap (λ (us : List Text). (a ∷ acc) ∷ (b ∷ []) ∷ us) (out src ((pre ++ (a ∷ acc)) ++ b ∷ []) (p + 1) (longer src (pre ++ (a ∷ acc)) b bs e') (longer_length (pre ++ (a ∷ acc)) b p l'))
from_inside b bs out ins Separator src pre a acc q p e l m =
    let e' : src ≡ (pre ++ (a ∷ acc)) ++ b ∷ bs = e ∙ sym (append_assoc pre (a ∷ acc) (b ∷ bs)) in
    let l' : p ≡ length (pre ++ (a ∷ acc)) = omega (arith, length-append pre (a ∷ acc)) in
    ap₂ (λ (v : Text) (vs : List Text). v ∷ vs) (cut_is src pre (a ∷ acc) (b ∷ bs) q p e l m) (out src ((pre ++ (a ∷ acc)) ++ b ∷ []) (p + 1) (longer src (pre ++ (a ∷ acc)) b bs e') (longer_length (pre ++ (a ∷ acc)) b p l'))
from_inside b bs out ins Foreign src pre a acc q p e l m =
    let e' : src ≡ (pre ++ (a ∷ acc)) ++ b ∷ bs = e ∙ sym (append_assoc pre (a ∷ acc) (b ∷ bs)) in
    let l' : p ≡ length (pre ++ (a ∷ acc)) = omega (arith, length-append pre (a ∷ acc)) in
    ap₂ (λ (v : Text) (vs : List Text). v ∷ vs) (cut_is src pre (a ∷ acc) (b ∷ bs) q p e l m) (out src ((pre ++ (a ∷ acc)) ++ b ∷ []) (p + 1) (longer src (pre ++ (a ∷ acc)) b bs e') (longer_length (pre ++ (a ∷ acc)) b p l'))

scanned : (rest : List ℕ) → FromBetween rest × FromInside rest
scanned [] = (λ src pre p e l. refl, λ src pre a acc q p e l m. ap (λ (w : Text). w ∷ []) (cut_is src pre (a ∷ acc) [] q p e l m))
scanned (b ∷ bs) =
    let r = scanned bs in
    (from_between b bs r.0 r.1 (class b), from_inside b bs r.0 r.1 (class b))

pub words_spell : (src : List ℕ) → texts (words src) ≡ spell [] src
words_spell src = (scanned src).0 src [] 0 refl refl

-- no byte is foreign
abbrev pub familiar : List ℕ → Bool
familiar src = list_all (λ b. not (is_foreign (class b))) src

nowhere : (test : ℕ → Bool) (xs : List ℕ) → list_all (λ x. not (test x)) xs ≡ true → position test xs ≡ None
nowhere test [] h = refl
nowhere test (x ∷ xs) h = grind (arith, nowhere test xs)

pub none_foreign : (src : List ℕ) → familiar src ≡ true → first_foreign src ≡ None
none_foreign src h = nowhere (λ b. is_foreign (class b)) src h

pub familiar-++ : (xs ys : List ℕ) → familiar xs ≡ true → familiar ys ≡ true → familiar (xs ++ ys) ≡ true
familiar-++ [] ys h l = l
familiar-++ (b ∷ bs) ys h l = let f = and_parts (not (is_foreign (class b))) (familiar bs) h in and_from (not (is_foreign (class b))) (familiar (bs ++ ys)) f.0 (familiar-++ bs ys f.1 l)

pub parts_familiar : (w : List ℕ) → all_part w ≡ true → familiar w ≡ true
parts_familiar [] h = refl
parts_familiar (b ∷ bs) h =
    let p = and_parts (is_part_byte b) (all_part bs) h in
    and_from (not (is_foreign (class b))) (familiar bs) (ap (λ v. not (is_foreign (cond v Part (cond (is_mark_byte b) Mark (cond (is_separator b) Separator Foreign))))) p.0) (parts_familiar bs p.1)

-- lines with these words, and no foreign byte
pub record Spells (ls : List Line) (ws : List Text) : Type 0 where
  pub words : lines_words ls ≡ ws
  pub bytes : familiar (text_of ls) ≡ true

pub record Says (l : Line) (ws : List Text) : Type 0 where
  pub words : spell [] l ≡ ws
  pub bytes : familiar l ≡ true

pub no_lines : Spells [] []
no_lines = record { words = refl; bytes = refl }

pub one_line : (l : Line) (ls : List Line) (vs ws : List Text) → Says l vs → Spells ls ws → Spells (l ∷ ls) (vs ++ ws)
one_line l ls vs ws p q = record { words = ap₂ ◌++◌ p.words q.words; bytes = familiar-++ l (10 ∷ text_of ls) p.bytes q.bytes }

words-++ : (ks ls : List Line) → lines_words (ks ++ ls) ≡ lines_words ks ++ lines_words ls
words-++ [] ls = refl
words-++ (k ∷ ks) ls = ap (λ ws. spell [] k ++ ws) (words-++ ks ls) ∙ sym (append_assoc (spell [] k) (lines_words ks) (lines_words ls))

pub text-++ : (ks ls : List Line) → text_of (ks ++ ls) ≡ text_of ks ++ text_of ls
text-++ [] ls = refl
text-++ (k ∷ ks) ls = ap (λ bs. k ++ 10 ∷ bs) (text-++ ks ls) ∙ sym (append_assoc k (10 ∷ text_of ks) (text_of ls))

pub lines-++ : (ks ls : List Line) (vs ws : List Text) → Spells ks vs → Spells ls ws → Spells (ks ++ ls) (vs ++ ws)
lines-++ ks ls vs ws p q = record {
  words = words-++ ks ls ∙ ap₂ ◌++◌ p.words q.words;
  bytes = ap familiar (text-++ ks ls) ∙ familiar-++ (text_of ks) (text_of ls) p.bytes q.bytes;
}

pub last_line : (l : Line) (ws : List Text) → Says l ws → Spells (l ∷ []) ws
last_line l ws p = record { words = append-nil (spell [] l) ∙ p.words; bytes = familiar-++ l (10 ∷ []) p.bytes refl }
