use Rattle.std.proofs.Common.{◌≡◌, List, [], ◌∷◌, ◌++◌, Option, sym, refl, ap, ◌∙◌, rules}
use Rattle.std.proofs.lemmas.Fn.{fold_over, slice_gives, fronts}
use Rattle.std.specs.Borrow.{Bor}
use Rattle.bounded.specs.Held.{held}
use Rattle.words.specs.Bytes.{Text}
use Rattle.meaning.specs.declared.faults.Fault.{Fault}
use Rattle.meaning.specs.Faults.{Violation}
use Rattle.draft.specs.Draft.{Entry, resolved, names_of}
use Rattle.events.specs.Notes.{told}
use Rattle.notes.specs.declared.kinds.Span.{Span}
use Rattle.notes.specs.declared.kinds.Module.{Module}
use Rattle.notes.specs.Kinds.{entries_of, pending_of, pendings_of, violation_of}
use Rattle.notes.specs.Noted.{notes_of, goto_told}
use Rattle.notes.proofs.notes.Notes.tell.Goals as goal

-- one goto more
more : (s : Text) (es : List Entry) (gs : List Span) (g : Span) (v : Option Violation) → resolved (names_of es) (pendings_of s (gs ++ g ∷ [])) v ≡ goto_told es (pending_of s g) (resolved (names_of es) (pendings_of s gs) v)
more s es [] g v = refl
more s es (h ∷ gs) g v = more s es gs g (goto_told es (pending_of s h) v)

pub returns : goal.returns
unfolding told notes_of
returns c =
    let s = c.args.source.now in
    let n = c.args.self.now in
    let es = entries_of s c.before-modules.result.now in
    let v = violation_of n.violation in
    let Told : List Span → Option Fault → Type 0 = λ gs f. violation_of f ≡ resolved (names_of es) (pendings_of s gs) v in
    let all = fold_over fronts (λ (g : Bor Span). g.now) _ Told _
    (λ gs a g b f h k.
    let one : violation_of b ≡ goto_told es (pending_of s g.now) (violation_of a) = search rules in
    (one ∙ ap (goto_told es (pending_of s g.now)) h ∙ sym (more s es gs g.now v), search rules))
    c.iter-gotos.result c.iter-gotos.result.rest.now n.violation c.fold.result (slice_gives c.iter-gotos.result) refl c.fold.ensures.ran in
    all ∙ ap (λ (gs : List Span). resolved (names_of es) (pendings_of s gs) v) (c.iter-gotos.ensures.rest ∙ c.before-2.ensures)
    ∙ ap (λ (ms : List Module). resolved (names_of (entries_of s ms)) (pendings_of s (held n.gotos.now).before) v) c.before-modules.ensures
