use Rattle.std.proofs.Common.{◌≡◌, Bool, true, false, cond, List, [], ◌∷◌, Some, refl, arith, rules, tests}
use Rattle.std.specs.List.{find}
use Rattle.std.specs.Option.{option_map_or}
use Rattle.std.proofs.lemmas.Bool.Decides.{nat_tests}
use Rattle.std.proofs.lemmas.Iterator.{YieldsList-from_slice}
use Rattle.std.proofs.lemmas.Iterator.Search.{find_from_yields_List}
use Rattle.words.specs.Bytes.{Text}
use Rattle.words.specs.Vocabulary.{same}
use Rattle.draft.specs.Draft.{first_number}
use Rattle.notes.specs.declared.kinds.Module.{Module}
use Rattle.notes.specs.Kinds.{text_in, entries_of}
use Rattle.notes.proofs.names.first_number.Goals as goal

-- the first of these modules that has this name
first_found : (s w : Text) (ms : List Module) → option_map_or (λ (m : Module). m.first) (find (λ (m : Module). same w (text_in s m.name)) ms) 0 ≡ first_number (entries_of s ms) w
first_found s w [] = refl
first_found s w (m ∷ ms) = by (same w (text_in s m.name)) (first_found s w ms) where
  Found : (b : Bool) → Type 0
  Found b = option_map_or (λ (x : Module). x.first) (cond b (Some m) (find (λ (x : Module). same w (text_in s x.name)) ms)) 0 ≡ cond b m.first (first_number (entries_of s ms) w)

  by : (b : Bool) → option_map_or (λ (x : Module). x.first) (find (λ (x : Module). same w (text_in s x.name)) ms) 0 ≡ first_number (entries_of s ms) w → Found b
  by true rest = refl
  by false rest = rest

pub returns : goal.returns
returns c =
    let s = c.args.source.now in
    let w = c.args.name.now in
    let ms = c.args.modules.now in
    let found = find_from_yields_List (λ (m : Module). same w (text_in s m.name)) _ _ c.find-named.result c.find-named.ensures.ran (YieldsList-from_slice ms cc) (λ x b q called. search (rules, tests)) in
    let known = first_found s w ms in
    grind (arith, nat_tests)
