-- The words of what is awaited, its depth, and the depths of the cases that its words begin.
use Rattle.std.proofs.Common.{ℕ, zero, suc, ◌+◌, max, List, [], ◌∷◌, ◌++◌}
use Rattle.words.specs.Bytes.{Text}
use Rattle.words.specs.Vocabulary.{CLOSE}
use Rattle.grammar.specs.Render.{direction_word, option_words, acts_words, flow_words, once_words, commas_words, body_words, cases_words, inside_words, module_words, modules_words, alphabet_words}
use Rattle.grammar.specs.Depth.{body_depth, cases_depth, inside_depth, module_depth, modules_depth}
use Rattle.grammar.specs.Openings.{zeros, body_openings, cases_openings, inside_openings, module_openings, modules_openings}
use Rattle.grammar.specs.Automaton.{brace_word, Item, fixed, a_symbol, a_name, a_direction, commas, once_end, move_end, body_end, acted_end, cases_end, inside_end, a_module, an_alphabet, Acted, then_cases, then_flow, Tree, Trees, Stack, modules, await, Fill}

-- the words of the rest of a body
abbrev pub acted_words : Acted → List Text
acted_words (then_cases xs cs) = acts_words xs ++ cases_words cs
acted_words (then_flow xs f) = acts_words xs ++ flow_words f

-- the words of an item
abbrev pub item_words : (i : Item) → Tree i → List Text
item_words (fixed w) t = w ∷ []
item_words a_symbol t = t.word ∷ []
item_words a_name t = t.word ∷ []
item_words a_direction t = direction_word t ∷ []
item_words (commas b) t = commas_words t ++ brace_word b ∷ []
item_words once_end t = once_words t ++ CLOSE ∷ []
item_words move_end t = option_words t ++ CLOSE ∷ []
item_words (body_end d) t = body_words t ++ CLOSE ∷ []
item_words (acted_end d) t = acted_words t ++ CLOSE ∷ []
item_words (cases_end d) t = cases_words t ++ CLOSE ∷ []
item_words inside_end t = inside_words t ++ CLOSE ∷ []
item_words a_module t = module_words t
item_words an_alphabet t = alphabet_words t

-- the words of several items
abbrev pub trees_words : (is : List Item) → Trees is → List Text
trees_words [] t = []
trees_words (i ∷ is) t = item_words i t.0 ++ trees_words is t.1

-- the words of a stack
abbrev pub fill_words : (st : Stack) → Fill st → List Text
fill_words modules t = modules_words t
fill_words (await i st) t = item_words i t.0 ++ fill_words st t.1

-- a depth, counted from outside d cases; 0 stays, for where there is no case
abbrev pub in_cases : ℕ → ℕ → ℕ
in_cases d zero = 0
in_cases d (suc n) = suc (d + n)

-- the depth of the rest of a body
abbrev pub acted_depth : Acted → ℕ
acted_depth (then_cases xs cs) = cases_depth cs
acted_depth (then_flow xs f) = 0

-- the depth of an item
abbrev pub item_depth : (i : Item) → Tree i → ℕ
item_depth (fixed w) t = 0
item_depth a_symbol t = 0
item_depth a_name t = 0
item_depth a_direction t = 0
item_depth (commas b) t = 0
item_depth once_end t = 0
item_depth move_end t = 0
item_depth (body_end d) t = in_cases d (body_depth t)
item_depth (acted_end d) t = in_cases d (acted_depth t)
item_depth (cases_end d) t = in_cases d (cases_depth t)
item_depth inside_end t = in_cases 0 (inside_depth t)
item_depth a_module t = module_depth t
item_depth an_alphabet t = 0

-- the depth of several items
abbrev pub trees_depth : (is : List Item) → Trees is → ℕ
trees_depth [] t = 0
trees_depth (i ∷ is) t = max (item_depth i t.0) (trees_depth is t.1)

-- the depth of a stack
abbrev pub fill_depth : (st : Stack) → Fill st → ℕ
fill_depth modules t = modules_depth t
fill_depth (await i st) t = max (item_depth i t.0) (fill_depth st t.1)

-- the openings of the rest of a body
abbrev pub acted_openings : ℕ → Acted → List ℕ
acted_openings d (then_cases xs cs) = zeros (acts_words xs) ++ cases_openings d cs
acted_openings d (then_flow xs f) = zeros (acts_words xs ++ flow_words f)

-- the openings of an item
abbrev pub item_openings : (i : Item) → Tree i → List ℕ
item_openings (fixed w) t = 0 ∷ []
item_openings a_symbol t = 0 ∷ []
item_openings a_name t = 0 ∷ []
item_openings a_direction t = 0 ∷ []
item_openings (commas b) t = zeros (commas_words t) ++ 0 ∷ []
item_openings once_end t = zeros (once_words t) ++ 0 ∷ []
item_openings move_end t = zeros (option_words t) ++ 0 ∷ []
item_openings (body_end d) t = body_openings d t ++ 0 ∷ []
item_openings (acted_end d) t = acted_openings d t ++ 0 ∷ []
item_openings (cases_end d) t = cases_openings d t ++ 0 ∷ []
item_openings inside_end t = inside_openings t ++ 0 ∷ []
item_openings a_module t = module_openings t
item_openings an_alphabet t = zeros (alphabet_words t)

-- the openings of several items
abbrev pub trees_openings : (is : List Item) → Trees is → List ℕ
trees_openings [] t = []
trees_openings (i ∷ is) t = item_openings i t.0 ++ trees_openings is t.1

-- the openings of a stack
abbrev pub fill_openings : (st : Stack) → Fill st → List ℕ
fill_openings modules t = modules_openings t
fill_openings (await i st) t = item_openings i t.0 ++ fill_openings st t.1

-- how many cases are around what is awaited
abbrev pub item_around : Item → ℕ
item_around (fixed w) = 0
item_around a_symbol = 0
item_around a_name = 0
item_around a_direction = 0
item_around (commas b) = 0
item_around once_end = 0
item_around move_end = 0
item_around (body_end d) = d
item_around (acted_end d) = d
item_around (cases_end d) = d
item_around inside_end = 0
item_around a_module = 0
item_around an_alphabet = 0

-- around several items
abbrev pub items_around : List Item → ℕ
items_around [] = 0
items_around (i ∷ is) = max (item_around i) (items_around is)

-- around a stack
abbrev pub stack_around : Stack → ℕ
stack_around modules = 0
stack_around (await i st) = max (item_around i) (stack_around st)
