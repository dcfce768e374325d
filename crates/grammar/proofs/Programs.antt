-- Programs as the trees of the first stack: what the reader answers of words with places.
use Rattle.std.proofs.Common.{◌≡◌, ℕ, List, sym, refl, ap, ◌∙◌, append_assoc, arith}
use Rattle.words.specs.Bytes.{Text}
use Rattle.words.specs.Words.{Word}
use Rattle.grammar.specs.Tree.{Program, program}
use Rattle.grammar.specs.Render.{alphabet_words, module_words, modules_words, render}
use Rattle.grammar.specs.Depth.{depth}
use Rattle.grammar.specs.Automaton.{Fill, Reading, parsed, unexpected, too_deep, mapped, read, start, as_program, parse_at}
use Rattle.grammar.specs.Places.{texts, place_of}
use Rattle.grammar.specs.Laws.{Viable, ViableWithinLimit, IsParse, IsFault, IsTooDeep, Unambiguous}
use Rattle.grammar.proofs.Items.{fill_words, fill_depth}
use Rattle.grammar.proofs.Sound.{GoesOn, GoesOnWithin, Fault, TooDeep, Holds, read_holds, one_fill}

-- the trees of a program
abbrev pub fill_of : Program → Fill start
fill_of (program ss m ms) = (ss, (m, ms))

-- they make the program
pub as_program_of : (t : Program) → as_program (fill_of t) ≡ t
as_program_of (program ss m ms) = refl

-- its words and its depth are theirs
pub program_words : (t : Fill start) → render (as_program t) ≡ fill_words start t
program_words t = append_assoc (alphabet_words t.0) (module_words t.1.0) (modules_words t.1.1)

pub program_depth : (t : Fill start) → depth (as_program t) ≡ fill_depth start t
program_depth t = omega arith

pub fill_of_words : (t : Program) → fill_words start (fill_of t) ≡ render t
fill_of_words t = sym (program_words (fill_of t)) ∙ ap render (as_program_of t)

pub fill_of_depth : (t : Program) → fill_depth start (fill_of t) ≡ depth t
fill_of_depth t = sym (program_depth (fill_of t)) ∙ ap depth (as_program_of t)

-- no two programs have the same words
pub unambiguous : Unambiguous
unambiguous t u e =
    let same = one_fill (render u) start (fill_of t) (fill_of u) (fill_of_words t ∙ e) (fill_of_words u) in
    sym (as_program_of t) ∙ ap as_program same ∙ as_program_of u

-- what goes on, as programs and as trees
viable : (ps : List Text) → GoesOn start ps → Viable ps
viable ps (t, rest, e) = (as_program t, rest, program_words t ∙ e)

goes_on : (ps : List Text) → Viable ps → GoesOn start ps
goes_on ps (t, rest, e) = (fill_of t, rest, fill_of_words t ∙ e)

viable_within : (ps : List Text) → GoesOnWithin start ps → ViableWithinLimit ps
viable_within ps (t, rest, e, l) = (as_program t, rest, program_words t ∙ e, omega (arith, program_depth t))

goes_on_within : (ps : List Text) → ViableWithinLimit ps → GoesOnWithin start ps
goes_on_within ps (t, rest, e, l) = (fill_of t, rest, fill_of_words t ∙ e, omega (arith, fill_of_depth t))

-- what holds of the trees holds of programs, and of a case too deep the other way round
is_fault : (ws : List Text) (i : ℕ) → Fault start ws i → IsFault ws i
is_fault ws i f = record { within = f.within; before = viable_within _ f.before; at_word = λ l v. f.at_word l (goes_on _ v); at_end = λ l v. f.at_end l (fill_of v.0) (fill_of_words v.0 ∙ v.1) }

pub is_too_deep : (ws : List Text) (i : ℕ) → TooDeep start ws i → IsTooDeep ws i
is_too_deep ws i d = record { within = d.within; before = viable_within _ d.before; allowed = viable _ d.allowed; too_deep = λ v. d.too_deep (goes_on_within _ v) }

pub too_deep_of : (ws : List Text) (i : ℕ) → IsTooDeep ws i → TooDeep start ws i
too_deep_of ws i d = record { within = d.within; before = goes_on_within _ d.before; allowed = goes_on _ d.allowed; too_deep = λ g. d.too_deep (viable_within _ g) }

-- what an answer says of words with places
abbrev pub MeansAt : ℕ → List Word → Reading Program → Type 0
MeansAt e ws (parsed t) = IsParse (texts ws) t
MeansAt e ws (unexpected p) = (i : ℕ) × IsFault (texts ws) i × (place_of e ws i ≡ p)
MeansAt e ws (too_deep p) = (i : ℕ) × IsTooDeep (texts ws) i × (place_of e ws i ≡ p)

-- what holds of the trees holds of programs
program_means : (e : ℕ) (ws : List Word) (r : Reading (Fill start)) → Holds e start ws r → MeansAt e ws (mapped as_program r)
program_means e ws (parsed t) (p, l) = record { words = program_words t ∙ p; within_limit = omega (arith, program_depth t) }
program_means e ws (unexpected p) (i, f, h) = (i, is_fault (texts ws) i f, h)
program_means e ws (too_deep p) (i, d, h) = (i, is_too_deep (texts ws) i d, h)

-- the reader's answer to words with places is right
pub parse_at_means : (e : ℕ) (ws : List Word) → MeansAt e ws (parse_at e ws)
parse_at_means e ws = program_means e ws (read e start ws) (read_holds e ws start)
