use Rattle.std.proofs.Common.{◌≡◌, true, cond, Some, None, sym, ap, ◌∙◌}
use Rattle.alphabet.specs.Alphabets.{letters_if}
use Rattle.alphabet.specs.Columns.{letters_fit}
use Rattle.events.specs.Notes.{program_noted}
use Rattle.program.specs.Built.{built, compiled_if}
use Rattle.program.specs.Taken.{takes_blocks, with_blocks}
use Rattle.notes.specs.Noted.{notes_of}
use Rattle.notes.specs.Settled.{kinds_settled}
use Rattle.notes.proofs.Settled.{same_settled}
use Rattle.notes.proofs.Stored.{no_alphabet, refused, finished}
use Rattle.notes.proofs.notes.Notes.program.Goals as goal

pub returns-in_err-alphabet : goal.returns-in_err-alphabet
unfolding program_noted notes_of
returns-in_err-alphabet c =
    let p = program_noted (notes_of c.args.source.now c.args.self.now) in
    ap compiled_if c.from_residual.ensures ∙ no_alphabet p c.new.result c.in_err-alphabet.was (c.new.ensures ∙ ap (λ l. cond (letters_fit l) (Some l) None) c.as_slice.ensures)

pub returns-in_err-push_blocks : goal.returns-in_err-push_blocks
unfolding program_noted notes_of
returns-in_err-push_blocks c =
    let p = program_noted (notes_of c.args.source.now c.args.self.now) in
    let start = built c.new-builder.result in
    let fit = sym (ap letters_if c.in_ok-alphabet.was) ∙ c.new.ensures ∙ ap (λ l. cond (letters_fit l) (Some l) None) c.as_slice.ensures in
    let blocks : kinds_settled c.args.source.now c.before-2.result.now c.as_slice-2.result.now ≡ p.blocks = same_settled c.args.source.now c.before-2.ensures c.as_slice-2.ensures in
    let told = sym c.in_err-push_blocks.was ∙ c.push_blocks.ensures.answer ∙ ap (λ ks. cond (takes_blocks start ks) (Some (tt {0})) None) blocks in
    ap compiled_if c.from_residual-in_err-push_blocks.ensures ∙ refused p c.in_ok-alphabet.alphabet fit start c.new-builder.ensures told

pub returns : goal.returns
unfolding program_noted notes_of
returns c =
    let p = program_noted (notes_of c.args.source.now c.args.self.now) in
    let start = built c.new-builder.result in
    let end = built c.push_blocks.new.builder in
    let fit = sym (ap letters_if c.in_ok-alphabet.was) ∙ c.new.ensures ∙ ap (λ l. cond (letters_fit l) (Some l) None) c.as_slice.ensures in
    let blocks : kinds_settled c.args.source.now c.before-2.result.now c.as_slice-2.result.now ≡ p.blocks = same_settled c.args.source.now c.before-2.ensures c.as_slice-2.ensures in
    let told = sym c.in_ok-push_blocks.was ∙ c.push_blocks.ensures.answer ∙ ap (λ ks. cond (takes_blocks start ks) (Some (tt {0})) None) blocks in
    let all : takes_blocks start p.blocks ≡ true → end ≡ with_blocks start p.blocks = λ t. c.push_blocks.ensures.blocks (ap (takes_blocks start) blocks ∙ t) ∙ ap (with_blocks start) blocks in
    c.finish.ensures ∙ finished p c.in_ok-alphabet.alphabet fit start c.new-builder.ensures end told all
