-- How many bytes words take at the least, and so how many modules and gotos a source can have.
use Rattle.std.specs.Prelude.{◌≡◌, ℕ, ◌+◌, ◌*◌, ◌≤◌, Bool, true, false, cond, ◌&&◌, List, [], ◌∷◌, length, take, drop, slice_index}
use Rattle.words.specs.declared.bytes.Class.{Class}
use Rattle.words.specs.declared.bytes.Class.TheVariants.{Part, Mark, Separator, Foreign}
use Rattle.words.specs.Bytes.{Text, class}
use Rattle.words.specs.Words.{Word, words}
use Rattle.words.specs.Stretches.{end}
use Rattle.grammar.specs.Tree.{Flow, accept, reject, goto, Body, act_cases, acts_flow, Case, if, while, Cases, no_more, more, Inside, cases, body, Module, module', Program}
use Rattle.grammar.specs.Render.{render, body_words, case_words, module_words}
use Rattle.grammar.specs.Automaton.{parsed, parse}
use Rattle.grammar.specs.Places.{texts}
use Rattle.meaning.specs.Blocks.{all_modules}
use Rattle.meaning.specs.Outcome.{place_in}
use Rattle.draft.specs.Draft.{Letters, Draft, Seen}
use Rattle.draft.specs.Building.{Owner}
use Rattle.draft.specs.Noted.{body_noted, case_noted, cases_noted, inside_noted, draft_of}

-- the class of letters and digits
abbrev pub is_part : Class → Bool
is_part Part = true
is_part Mark = false
is_part Separator = false
is_part Foreign = false

-- a word of letters and digits, by its first byte
abbrev pub begins_part : Text → Bool
begins_part w = is_part (class (slice_index w 0))

-- the fewest bytes between two words: one where both are of letters and digits
abbrev pub gap : Text → Text → ℕ
gap v w = cond (begins_part v && begins_part w) 1 0

-- the fewest bytes that these words take, one after another
abbrev pub least_bytes : List Text → ℕ
least_bytes [] = 0
least_bytes (w ∷ []) = length w
least_bytes (v ∷ w ∷ ws) = length v + gap v w + least_bytes (w ∷ ws)

-- each word stands behind the one in front of it, with a byte between them where both are of letters and digits
abbrev pub Spaced : List Word → Type 0
Spaced [] = Unit {0}
Spaced (w ∷ []) = Unit {0}
Spaced (v ∷ w ∷ ws) = (end v + gap v.text w.text ≤ w.place) × Spaced (w ∷ ws)

-- the words of a source are spaced, and so many of them take the bytes from the place of the first to that of the next behind them
pub record Takes (source : Text) : Type 0 where
  pub spaced : Spaced (words source)
  pub takes : (i k : ℕ) → place_in source i + least_bytes (take k (drop i (texts (words source)))) ≤ place_in source (i + k)
  pub takes_all : least_bytes (texts (words source)) ≤ length source

-- so of every source
abbrev pub WordsTake : Type 0
WordsTake = (source : Text) → Takes source

-- how many gotos a flow is
abbrev pub flow_gotos : Flow → ℕ
flow_gotos accept = 0
flow_gotos reject = 0
flow_gotos (goto n) = 1

abbrev mutual
  -- how many gotos a body has
  pub body_gotos : Body → ℕ
  body_gotos (act_cases a xs cs) = cases_gotos cs
  body_gotos (acts_flow xs f) = flow_gotos f

  -- how many gotos a case has
  pub case_gotos : Case → ℕ
  case_gotos (if ss b) = body_gotos b
  case_gotos (while ss o) = 0

  -- how many gotos cases have
  pub cases_gotos : Cases → ℕ
  cases_gotos no_more = 0
  cases_gotos (more c cs) = case_gotos c + cases_gotos cs

-- how many gotos stand in a module
abbrev pub inside_gotos : Inside → ℕ
inside_gotos (cases c cs) = cases_gotos (more c cs)
inside_gotos (body b) = body_gotos b

-- how many gotos modules have
abbrev pub modules_gotos : List Module → ℕ
modules_gotos [] = 0
modules_gotos (module' n inside ∷ ms) = inside_gotos inside + modules_gotos ms

-- what the pieces of a program take
pub record Pieces : Type 0 where
  -- a body has at most one goto that is in none of its cases: it takes 6 bytes, and its case 6 more
  pub body_takes : (b : Body) → 12 * body_gotos b ≤ least_bytes (body_words b) + 6
  pub case_takes : (c : Case) → 12 * case_gotos c ≤ least_bytes (case_words c)
  -- a module takes 16 bytes, and 12 for each goto
  pub module_takes : (m : Module) → 16 ≤ least_bytes (module_words m)
  pub gotos_take : (m : Module) → 12 * modules_gotos (m ∷ []) ≤ least_bytes (module_words m)
  -- a program takes 12 bytes for its alphabet, besides its modules
  pub program_takes : (t : Program) → 12 + 16 * length (all_modules t) ≤ least_bytes (render t)
  pub program_gotos : (t : Program) → 12 * modules_gotos (all_modules t) ≤ least_bytes (render t)

-- y has the names of x, and n gotos more
abbrev pub More : ℕ → Draft → Draft → Type 0
More n x y = (length y.names ≡ length x.names) × (length y.gotos ≡ length x.gotos + n)

-- what a draft gets to hold with each piece of a program
pub record Counts : Type 0 where
  pub body_counts : (b : Body) (a : Letters) (o : Owner) (i : ℕ) (x : Draft) → More (body_gotos b) x (body_noted b a o i x)
  pub case_counts : (c : Case) (a : Letters) (q : ℕ) (s : Seen) (i : ℕ) (x : Draft) → More (case_gotos c) x (case_noted c a q s i x)
  pub cases_counts : (cs : Cases) (a : Letters) (q p : ℕ) (s : Seen) (i : ℕ) (x : Draft) → More (cases_gotos cs) x (cases_noted cs a q p s i x)
  pub inside_counts : (v : Inside) (a : Letters) (i : ℕ) (x : Draft) → More (inside_gotos v) x (inside_noted a v i x)
  pub names_count : (t : Program) → length (draft_of t).names ≡ length (all_modules t)
  pub gotos_count : (t : Program) → length (draft_of t).gotos ≡ modules_gotos (all_modules t)

-- what a draft has to hold of a source of at most 60,000 bytes
pub record Bounded (t : Program) : Type 0 where
  pub names : length (draft_of t).names ≤ 3749
  pub gotos : length (draft_of t).gotos ≤ 5000

-- so of every such source whose words are a program's
abbrev pub Bounds : Type 0
Bounds = (source : Text) (t : Program) → length source ≤ 60000 → parse (texts (words source)) ≡ parsed t → Bounded t
