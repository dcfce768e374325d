-- The split of a body's commands is whole, and has the fewest parts.
use Rattle.std.proofs.Common.{◌≡◌, ℕ, suc, ◌≤◌, Bool, true, false, cond, ltb, List, [], ◌∷◌, length, sym, refl, ap, ◌∙◌, arith}
use mathlib.Core.Option.{Option as Maybe, none, some}
use Rattle.std.proofs.lemmas.Bool.{false≢true}
use Rattle.words.specs.Vocabulary.{Symbol}
use Rattle.grammar.specs.Tree.{Direction as WrittenDirection, Act, change, move, Flow}
use Rattle.meaning.specs.Blocks.{Part, rank, first_rank, before, ending, joined, parts}
use Rattle.meaning.specs.Splits.{Command, act, flow, commands, part_commands, all_commands, SplitsFewest}

abbrev pub part : Maybe Symbol → Maybe WrittenDirection → Maybe Flow → Part
part w m f = record { write = w; move = m; flow = f }

-- an act of lower rank goes in front
in_front : (a : Act) (w : Maybe Symbol) (m : Maybe WrittenDirection) (f : Maybe Flow) (rest : List Command) → ltb (rank a) (first_rank (part w m f)) ≡ true
    → (part_commands (before a (part w m f)) rest ≡ act a ∷ part_commands (part w m f) rest) × (first_rank (before a (part w m f)) ≡ rank a)
in_front (change s) none m f rest h = (refl, refl)
in_front (change s) (some t) m f rest h = absurd (false≢true h)
in_front (move d) none none f rest h = (refl, refl)
in_front (move d) none (some e) f rest h = absurd (false≢true h)
in_front (move d) (some t) m f rest h = absurd (false≢true h)

alone : (a : Act) (rest : List Command) → (part_commands (before a (ending none)) rest ≡ act a ∷ rest) × (first_rank (before a (ending none)) ≡ rank a)
alone (change s) rest = (refl, refl)
alone (move d) rest = (refl, refl)

abbrev lead_rank : List Part → ℕ
lead_rank [] = 0
lead_rank (p ∷ ps) = first_rank p

abbrev command_rank : Command → ℕ
command_rank (act a) = rank a
command_rank (flow f) = 3

abbrev lead_command : List Command → ℕ
lead_command [] = 0
lead_command (c ∷ cs) = command_rank c

joined_whole : (a : Act) (ps : List Part) → (all_commands (joined a ps) ≡ act a ∷ all_commands ps) × (lead_rank (joined a ps) ≡ rank a)
joined_whole a [] = alone a []
joined_whole a (p ∷ ps) = at (ltb (rank a) (first_rank p)) refl
  where
    at : (b : Bool) → ltb (rank a) (first_rank p) ≡ b → let js = cond b (before a p ∷ ps) (before a (ending none) ∷ p ∷ ps) in (all_commands js ≡ act a ∷ all_commands (p ∷ ps)) × (lead_rank js ≡ rank a)
    at true e = in_front a p.write p.move p.flow (all_commands ps) e
    at false e = alone a (all_commands (p ∷ ps))

whole : (xs : List Act) (f : Maybe Flow) → all_commands (parts xs f) ≡ commands xs f
whole [] none = refl
whole [] (some f) = refl
whole (a ∷ xs) f = (joined_whole a (parts xs f)).0 ∙ ap (λ (cs : List Command). act a ∷ cs) (whole xs f)

lead : (xs : List Act) (f : Maybe Flow) → lead_rank (parts xs f) ≡ lead_command (commands xs f)
lead [] none = refl
lead [] (some f) = refl
lead (a ∷ xs) f = (joined_whole a (parts xs f)).1

one_more : (a : Act) (ps : List Part) → length (joined a ps) ≤ suc (length ps)
one_more a [] = omega arith
one_more a (p ∷ ps) = at (ltb (rank a) (first_rank p))
  where
    at : (b : Bool) → length (cond b (before a p ∷ ps) (before a (ending none) ∷ p ∷ ps)) ≤ suc (suc (length ps))
    at true = omega arith
    at false = omega arith

no_more : (a : Act) (ps : List Part) → ltb (rank a) (lead_rank ps) ≡ true → length (joined a ps) ≡ length ps
no_more (change s) [] h = absurd (false≢true h)
no_more (move d) [] h = absurd (false≢true h)
no_more a (p ∷ ps) h = ap (λ b. length (cond b (before a p ∷ ps) (before a (ending none) ∷ p ∷ ps))) h

same_act : (a b : Act) (cs ds : List Command) → act a ∷ cs ≡ act b ∷ ds → a ≡ b
same_act a b cs ds e = cc

same_rest : (c d : Command) (cs ds : List Command) → c ∷ cs ≡ d ∷ ds → cs ≡ ds
same_rest c d cs ds e = cc

not_flow : {A : Type 0} (f : Flow) (b : Act) (cs ds : List Command) → flow f ∷ cs ≡ act b ∷ ds → A
not_flow f b cs ds e = absurd cc

not_none : {A : Type 0} (c : Command) (cs : List Command) → [] ≡ c ∷ cs → A
not_none c cs e = absurd cc

module _ (a : Act) (xs : List Act) (f : Maybe Flow) (ih : (ps : List Part) → all_commands ps ≡ commands xs f → length (parts xs f) ≤ length ps) where
  -- a stands alone in its part
  by_itself : (ps : List Part) → all_commands ps ≡ commands xs f → length (joined a (parts xs f)) ≤ suc (length ps)
  by_itself ps e = omega (arith, one_more a (parts xs f), ih ps e)

  -- or with more behind it, of higher rank
  with_more : (p : Part) (ps : List Part) → all_commands (p ∷ ps) ≡ commands xs f → ltb (rank a) (lead_command (all_commands (p ∷ ps))) ≡ true → length (joined a (parts xs f)) ≤ suc (length ps)
  with_more p ps e h = omega (arith, no_more a (parts xs f) (ap (ltb (rank a)) (lead xs f ∙ ap lead_command (sym e)) ∙ h), ih (p ∷ ps) e)

  by_part : (w : Maybe Symbol) (m : Maybe WrittenDirection) (g : Maybe Flow) (ps : List Part) → (all_commands ps ≡ act a ∷ commands xs f → length (joined a (parts xs f)) ≤ length ps)
      → part_commands (part w m g) (all_commands ps) ≡ act a ∷ commands xs f → length (joined a (parts xs f)) ≤ suc (length ps)
  by_part (some s) none none ps inner e = by_itself ps (same_rest (act (change s)) (act a) (all_commands ps) (commands xs f) e)
  by_part (some s) (some d) g ps inner e =
      with_more (part none (some d) g) ps (same_rest (act (change s)) (act a) (all_commands (part none (some d) g ∷ ps)) (commands xs f) e)
      (ap (λ b. ltb (rank b) 2) (sym (same_act (change s) a (all_commands (part none (some d) g ∷ ps)) (commands xs f) e)))
  by_part (some s) none (some g) ps inner e =
      with_more (part none none (some g)) ps (same_rest (act (change s)) (act a) (all_commands (part none none (some g) ∷ ps)) (commands xs f) e)
      (ap (λ b. ltb (rank b) 3) (sym (same_act (change s) a (all_commands (part none none (some g) ∷ ps)) (commands xs f) e)))
  by_part none (some d) none ps inner e = by_itself ps (same_rest (act (move d)) (act a) (all_commands ps) (commands xs f) e)
  by_part none (some d) (some g) ps inner e =
      with_more (part none none (some g)) ps (same_rest (act (move d)) (act a) (all_commands (part none none (some g) ∷ ps)) (commands xs f) e)
      (ap (λ b. ltb (rank b) 3) (sym (same_act (move d) a (all_commands (part none none (some g) ∷ ps)) (commands xs f) e)))
  by_part none none (some g) ps inner e = not_flow g a (all_commands ps) (commands xs f) e
  by_part none none none ps inner e = let z = inner e in omega arith

  by_parts : (ps : List Part) → all_commands ps ≡ act a ∷ commands xs f → length (joined a (parts xs f)) ≤ length ps
  by_parts [] e = not_none (act a) (commands xs f) e
  by_parts (p ∷ ps) e = by_part p.write p.move p.flow ps (by_parts ps) e

fewest : (xs : List Act) (f : Maybe Flow) (ps : List Part) → all_commands ps ≡ commands xs f → length (parts xs f) ≤ length ps
fewest [] none ps e = omega arith
fewest [] (some f) [] e = not_none (flow f) [] e
fewest [] (some f) (p ∷ ps) e = omega arith
fewest (a ∷ xs) f ps e = by_parts a xs f (fewest xs f) ps e

pub splits_fewest : SplitsFewest
splits_fewest xs f = record { whole = whole xs f; fewest = fewest xs f }
