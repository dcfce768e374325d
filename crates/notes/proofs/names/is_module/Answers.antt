use Rattle.std.proofs.Common.{◌≡◌, ◌||◌, List, [], ◌∷◌, refl, ap, ◌∙◌, rules, tests}
use Rattle.std.specs.List.{list_any}
use Rattle.std.proofs.lemmas.Iterator.{YieldsList-from_slice}
use Rattle.std.proofs.lemmas.Iterator.Search.{any_from_yields_List}
use Rattle.words.specs.Bytes.{Text}
use Rattle.words.specs.Vocabulary.{same}
use Rattle.meaning.specs.Faults.{named}
use Rattle.draft.specs.Draft.{names_of}
use Rattle.notes.specs.declared.kinds.Module.{Module}
use Rattle.notes.specs.Kinds.{text_in, entries_of}
use Rattle.notes.proofs.names.is_module.Goals as goal

-- one of these modules has this name
any_named : (s w : Text) (ms : List Module) → list_any (λ (m : Module). same w (text_in s m.name)) ms ≡ named w (names_of (entries_of s ms))
any_named s w [] = refl
any_named s w (m ∷ ms) = ap (λ b. same w (text_in s m.name) || b) (any_named s w ms)

pub returns : goal.returns
returns c =
    let s = c.args.source.now in
    let w = c.args.name.now in
    let ms = c.args.modules.now in
    any_from_yields_List (λ (m : Module). same w (text_in s m.name)) _ _ _ c.any.ensures.ran (YieldsList-from_slice ms (cc)) (λ x b q k. search (rules, tests)) ∙ any_named s w ms
