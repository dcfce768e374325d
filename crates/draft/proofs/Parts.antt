-- The parts of a body, from its first command on: a part under construction, and those behind it.
use Rattle.std.proofs.Common.{◌≡◌, ℕ, suc, ◌+◌, Bool, true, false, cond, ltb, List, [], ◌∷◌, sym, refl, ◌∙◌}
use mathlib.Core.Option.{Option as Maybe, none, some}
use mathlib.Core.Bool.{false≢true}
use Rattle.words.specs.Vocabulary.{Symbol}
use Rattle.grammar.specs.Tree.{Direction, Act, change, move, Flow}
use Rattle.meaning.specs.Blocks.{written_move, Part, rank, first_rank, before, ending, joined, parts, basic, first_of, written_code, part_length, part_blocks, later_part_blocks}
use Rattle.draft.specs.Building.{Owner, Current, last_rank, numbered, with_act}

-- a part without flow
abbrev pub part : Maybe Symbol → Maybe Direction → Part
part w m = record { write = w; move = m; flow = none }

-- a part as the basic block under construction
abbrev pub current : Owner → Part → Current
current o p = record { owner = o; write = written_code p.write; move = written_move p.move }

-- the rank of a part's last act, or 0
abbrev pub last : Part → ℕ
last p = last_rank (current (numbered 0) p)

-- the first of these that is there
abbrev pub either : {A : Type 0} → Maybe A → Maybe A → Maybe A
either none y = y
either (some x) y = some x

-- two parts as one
abbrev pub merged : Part → Part → Part
merged c p = record { write = either c.write p.write; move = either c.move p.move; flow = p.flow }

-- parts behind the one under construction: the first joins it where its first rank is higher
abbrev pub onto : Part → List Part → List Part
onto c [] = c ∷ []
onto c (p ∷ ps) = cond (ltb (last c) (first_rank p)) (merged c p ∷ ps) (c ∷ p ∷ ps)

-- a part with one act
abbrev pub only : Act → Part
only a = before a (ending none)

-- what is written after one more act
abbrev pub wrote : Act → Maybe Symbol → Maybe Symbol
wrote (change s) w = some s
wrote (move d) w = w

-- the move after one more act
abbrev pub moved : Act → Maybe Direction → Maybe Direction
moved (change s) m = m
moved (move d) m = some d

-- one more act, by what is written and the move
pub before_part : (a : Act) (w : Maybe Symbol) (m : Maybe Direction) → before a (part w m) ≡ part (wrote a w) (moved a m)
before_part (change s) w m = refl
before_part (move d) w m = refl

-- the same of the block under construction
pub current_part : (a : Act) (o : Owner) (w : Maybe Symbol) (m : Maybe Direction) → with_act a (current o (part w m)) ≡ current o (part (wrote a w) (moved a m))
current_part (change s) o w m = refl
current_part (move d) o w m = refl

-- a part by its commands
abbrev only_part : Maybe Symbol → Maybe Direction → Maybe Flow → Part
only_part w m f = record { write = w; move = m; flow = f }

-- by cases
onto_one : (w : Maybe Symbol) (m : Maybe Direction) (a : Act) (pw : Maybe Symbol) (pm : Maybe Direction) (pf : Maybe Flow) (ps : List Part) → onto (part w m) (joined a (only_part pw pm pf ∷ ps)) ≡ cond (ltb (last (part w m)) (rank a)) (onto (before a (part w m)) (only_part pw pm pf ∷ ps)) (part w m ∷ onto (only a) (only_part pw pm pf ∷ ps))
onto_one none none (change t) none none pf ps = refl
onto_one none none (change t) (some u) none pf ps = refl
onto_one none none (change t) none (some v) pf ps = refl
onto_one none none (change t) (some u) (some v) pf ps = refl
onto_one none none (move e) none none pf ps = refl
onto_one none none (move e) (some u) none pf ps = refl
onto_one none none (move e) none (some v) pf ps = refl
onto_one none none (move e) (some u) (some v) pf ps = refl
onto_one (some s) none (change t) none none pf ps = refl
onto_one (some s) none (change t) (some u) none pf ps = refl
onto_one (some s) none (change t) none (some v) pf ps = refl
onto_one (some s) none (change t) (some u) (some v) pf ps = refl
onto_one (some s) none (move e) none none pf ps = refl
onto_one (some s) none (move e) (some u) none pf ps = refl
onto_one (some s) none (move e) none (some v) pf ps = refl
onto_one (some s) none (move e) (some u) (some v) pf ps = refl
onto_one none (some d) (change t) none none pf ps = refl
onto_one none (some d) (change t) (some u) none pf ps = refl
onto_one none (some d) (change t) none (some v) pf ps = refl
onto_one none (some d) (change t) (some u) (some v) pf ps = refl
onto_one none (some d) (move e) none none pf ps = refl
onto_one none (some d) (move e) (some u) none pf ps = refl
onto_one none (some d) (move e) none (some v) pf ps = refl
onto_one none (some d) (move e) (some u) (some v) pf ps = refl
onto_one (some s) (some d) (change t) none none pf ps = refl
onto_one (some s) (some d) (change t) (some u) none pf ps = refl
onto_one (some s) (some d) (change t) none (some v) pf ps = refl
onto_one (some s) (some d) (change t) (some u) (some v) pf ps = refl
onto_one (some s) (some d) (move e) none none pf ps = refl
onto_one (some s) (some d) (move e) (some u) none pf ps = refl
onto_one (some s) (some d) (move e) none (some v) pf ps = refl
onto_one (some s) (some d) (move e) (some u) (some v) pf ps = refl

-- an act joins the part under construction, or begins another
pub onto_joined : (w : Maybe Symbol) (m : Maybe Direction) (a : Act) (ps : List Part) → onto (part w m) (joined a ps) ≡ cond (ltb (last (part w m)) (rank a)) (onto (before a (part w m)) ps) (part w m ∷ onto (only a) ps)
onto_joined none none (change t) [] = refl
onto_joined none none (change t) (p ∷ ps) = onto_one none none (change t) p.write p.move p.flow ps
onto_joined none none (move e) [] = refl
onto_joined none none (move e) (p ∷ ps) = onto_one none none (move e) p.write p.move p.flow ps
onto_joined (some s) none (change t) [] = refl
onto_joined (some s) none (change t) (p ∷ ps) = onto_one (some s) none (change t) p.write p.move p.flow ps
onto_joined (some s) none (move e) [] = refl
onto_joined (some s) none (move e) (p ∷ ps) = onto_one (some s) none (move e) p.write p.move p.flow ps
onto_joined none (some d) (change t) [] = refl
onto_joined none (some d) (change t) (p ∷ ps) = onto_one none (some d) (change t) p.write p.move p.flow ps
onto_joined none (some d) (move e) [] = refl
onto_joined none (some d) (move e) (p ∷ ps) = onto_one none (some d) (move e) p.write p.move p.flow ps
onto_joined (some s) (some d) (change t) [] = refl
onto_joined (some s) (some d) (change t) (p ∷ ps) = onto_one (some s) (some d) (change t) p.write p.move p.flow ps
onto_joined (some s) (some d) (move e) [] = refl
onto_joined (some s) (some d) (move e) (p ∷ ps) = onto_one (some s) (some d) (move e) p.write p.move p.flow ps

-- an act in front of parts is a part with those behind it
pub joined_onto : (a : Act) (ps : List Part) → joined a ps ≡ onto (only a) ps
joined_onto (change s) [] = refl
joined_onto (move d) [] = refl
joined_onto (change s) (p ∷ ps) = refl
joined_onto (move d) (p ∷ ps) = refl

-- a part with no act takes all of the next
pub onto_fresh : (a : Act) (ps : List Part) → onto (part none none) (joined a ps) ≡ joined a ps
onto_fresh (change s) ps = onto_joined none none (change s) ps ∙ sym (joined_onto (change s) ps)
onto_fresh (move d) ps = onto_joined none none (move d) ps ∙ sym (joined_onto (move d) ps)

-- the same where a flow ends the parts
pub fresh_flow : (xs : List Act) (f : Flow) → onto (part none none) (parts xs (some f)) ≡ parts xs (some f)
fresh_flow [] f = refl
fresh_flow (a ∷ xs) f = onto_fresh a (parts xs (some f))

-- a flow stands in the part before it
pub onto_flow : (w : Maybe Symbol) (m : Maybe Direction) (f : Flow) → onto (part w m) (ending (some f) ∷ []) ≡ only_part w m (some f) ∷ []
onto_flow none none f = refl
onto_flow (some s) none f = refl
onto_flow none (some d) f = refl
onto_flow (some s) (some d) f = refl

-- the first of the blocks is that of the first part
pub part_blocks_head : (c : Part) (ps : List Part) (b : Bool) (i q : ℕ) → part_blocks (onto c ps) b i q ≡ record { index = i; kind = basic (first_of (onto c ps) b (suc q)) } ∷ later_part_blocks (onto c ps) b i (suc q)
part_blocks_head c [] b i q = refl
part_blocks_head c (p ∷ ps) b i q = at (ltb (last c) (first_rank p))
  where
    at : (d : Bool) → let js = cond d (merged c p ∷ ps) (c ∷ p ∷ ps) in part_blocks js b i q ≡ record { index = i; kind = basic (first_of js b (suc q)) } ∷ later_part_blocks js b i (suc q)
    at true = refl
    at false = refl

-- an act has two words
pub two_more : (w : Maybe Symbol) (m : Maybe Direction) (a : Act) → ltb (last (part w m)) (rank a) ≡ true → part_length (before a (part w m)) ≡ 2 + part_length (part w m)
two_more none none (change t) h = refl
two_more none none (move e) h = refl
two_more (some s) none (change t) h = absurd (false≢true h)
two_more (some s) none (move e) h = refl
two_more none (some d) (change t) h = absurd (false≢true h)
two_more none (some d) (move e) h = absurd (false≢true h)
two_more (some s) (some d) (change t) h = absurd (false≢true h)
two_more (some s) (some d) (move e) h = absurd (false≢true h)

-- every act joins a part with no act
pub fresh_rank : (a : Act) → ltb (last (part none none)) (rank a) ≡ true
fresh_rank (change s) = refl
fresh_rank (move d) = refl
