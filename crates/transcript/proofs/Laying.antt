-- Codes laid from the last to the first; and a word laid on blank cells.
use Rattle.std.proofs.Common.{◌≡◌, ℕ, suc, ◌+◌, ◌-◌, ◌≤◌, true, List, [], ◌∷◌, ◌++◌, length, get_or, set, replicate, Ok, Err, Result, sym, refl, ap, ◌∙◌, arith}
use Rattle.std.proofs.lemmas.Bool.Decides.{nat_tests}
use Rattle.std.proofs.lemmas.List.{append_assoc, replicate-append-replicate, replicate_more, length-replicate, length-append, length-take, get_or_at, set_at}
use Rattle.tape.specs.declared.kinds.TapeRefusal.{TapeRefusal}
use Rattle.tape.specs.Meaning.{Meaning, all_codes}
use Rattle.tape.proofs.Cells.{blank_room}
use Rattle.transcript.specs.declared.word.Word.{Word}
use Rattle.transcript.specs.Word.{codes_in}
use Rattle.transcript.specs.Lay.{Laid, and_then, lay_one, laid, blank_cells, word_cells}

abbrev of : Result (Unit {0}) TapeRefusal → Meaning → Laid
of a m = record { answer = a; tape = m }

and_nothing : (a : Result (Unit {0}) TapeRefusal) (m : Meaning) → and_then a m (of (Ok tt)) ≡ of a m
and_nothing (Ok u) m = refl
and_nothing (Err e) m = refl

and_more : (a : Result (Unit {0}) TapeRefusal) (m : Meaning) (f g : Meaning → Laid) → and_then (and_then a m f).answer (and_then a m f).tape g ≡ and_then a m (λ k. and_then (f k).answer (f k).tape g)
and_more (Ok u) m f g = refl
and_more (Err e) m f g = refl

-- a word's last code is laid first
pub laid_push : (cs : List ℕ) (c : ℕ) (m : Meaning) → laid (cs ++ c ∷ []) m ≡ and_then (lay_one c m).answer (lay_one c m).tape (laid cs)
laid_push [] c m = sym (and_nothing (lay_one c m).answer (lay_one c m).tape)
laid_push (x ∷ cs) c m = ap (λ r. and_then r.answer r.tape (lay_one x)) (laid_push cs c m) ∙ and_more (lay_one c m).answer (lay_one c m).tape (laid cs) (lay_one x)

abbrev with_head : ℕ → List ℕ → ℕ → Meaning
with_head n cs h = record { capacity = n; cells = cs; head = h }

-- a code laid into a blank cell
into_blank : (n h c : ℕ) (front behind : List ℕ) → length front ≡ h → h + 1 + length behind ≤ n → c ≤ 36 → lay_one c (with_head n (front ++ 0 ∷ behind) (h + 1)) ≡ of (Ok tt) (with_head n (front ++ c ∷ behind) h)
into_blank n h c front behind e fits code =
    let all = length-append front (0 ∷ behind) in
    let blank : get_or (front ++ 0 ∷ behind) h 0 ≡ 0 = get_or_at front 0 behind 0 h e in
    let room = blank_room (front ++ 0 ∷ behind) h (omega arith) blank in
    let put : set (front ++ 0 ∷ behind) h c ≡ front ++ c ∷ behind = set_at front 0 behind c h e in
    let back : h + 1 - 1 ≡ h = omega arith in
    rw back (grind (arith, nat_tests))

abbrev zeros : ℕ → List ℕ
zeros n = replicate n 0

one_more : (h : ℕ) (xs : List ℕ) → zeros (h + 1) ++ xs ≡ zeros h ++ 0 ∷ xs
one_more h xs = ap (λ l. l ++ xs) (sym (replicate_more h 0)) ∙ append_assoc (zeros h) (0 ∷ []) xs

-- a word laid on blank cells: the word stands there, and nothing is refused
word_laid : (n h : ℕ) (word : List ℕ) → h + length word ≤ n → all_codes word ≡ true → laid word (blank_cells n (h + length word)) ≡ of (Ok tt) (word_cells n h word)
word_laid n h [] fits codes =
    let none : h + 0 ≡ h = omega arith in
    let all : n ≡ h + (n - h) = omega arith in
    let cells : zeros n ≡ zeros h ++ zeros (n - h) = ap zeros all ∙ sym (replicate-append-replicate h (n - h) 0) in
    rw none (ap (λ l. of (Ok tt) (with_head n l h)) cells)
word_laid n h (c ∷ cs) fits codes =
    let behind : List ℕ = cs ++ zeros (n - (h + 1 + length cs)) in
    let same : h + suc (length cs) ≡ h + 1 + length cs = omega arith in
    let code : c ≤ 36 = grind (arith, nat_tests) in
    let others : all_codes cs ≡ true = grind (arith, nat_tests) in
    let on : laid cs (blank_cells n (h + 1 + length cs)) ≡ of (Ok tt) (word_cells n (h + 1) cs) = word_laid n (h + 1) cs (omega arith) others in
    rw (same, on, one_more h behind) (into_blank n h c (zeros h) behind (length-replicate h 0) (omega (arith, length-append {A = ℕ}, length-replicate {A = ℕ})) code)

-- a word that was read, laid on the console's tape
pub word_on : (w : Word) → laid (codes_in w) (blank_cells 256 (128 + length (codes_in w))) ≡ of (Ok tt) (word_cells 256 128 (codes_in w))
word_on w =
    let short = w.codes.within in
    let most = length-take w.codes.count w.codes.items in
    word_laid 256 128 (codes_in w) (omega arith) w.cells
