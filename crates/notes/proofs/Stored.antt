-- Whether a program can be stored, by what the steps of its making answer.
use Rattle.std.proofs.Common.{◌≡◌, ℕ, Bool, true, false, cond, ◌&&◌, List, Some, None, Ok, Option, sym, refl, ap, ◌∙◌}
use Rattle.words.specs.Bytes.{Text}
use Rattle.grammar.specs.Tree.{Program}
use Rattle.meaning.specs.Blocks.{Compiled, compiled}
use Rattle.meaning.specs.Outcome.{outcome}
use Rattle.meaning.proofs.Sources.{accepted_sources}
use Rattle.events.specs.Notes.{Notes, told, program_noted}
use Rattle.events.specs.Laws.{Noted}
use Rattle.alphabet.specs.declared.letters.Alphabet.{Alphabet}
use Rattle.alphabet.specs.Alphabets.{letters_of, letters_if}
use Rattle.alphabet.specs.Columns.{letters_fit}
use Rattle.program.specs.InRange.{in_range}
use Rattle.program.specs.Built.{no_blocks}
use Rattle.program.specs.Taken.{takes_blocks, with_blocks}
use Rattle.program.proofs.Taken.{range_taken}
use Rattle.program.proofs.Accepted.{accepted_whole}

-- these letters and these blocks
module _ (p : Compiled) where
  -- the program, if it can be stored
  abbrev pub stored_if : Option Compiled
  stored_if = cond (letters_fit p.letters && in_range p) (Some p) None

  unfit : (b : Bool) → None ≡ cond b (Some p.letters) None → None ≡ cond (b && in_range p) (Some p) None
  unfit true e = cc
  unfit false e = refl

  -- where there is no alphabet
  pub no_alphabet : (a : Option Alphabet) → a ≡ None → letters_if a ≡ cond (letters_fit p.letters) (Some p.letters) None → None ≡ stored_if
  no_alphabet a none e = unfit (letters_fit p.letters) (sym (ap letters_if none) ∙ e)

  fit : (b : Bool) (ls : List ℕ) → Some ls ≡ cond b (Some p.letters) None → (b ≡ true) × (ls ≡ p.letters)
  fit true ls e = (refl, cc)
  fit false ls e = cc

  -- where there is one, and a builder with no block
  module _ (a : Alphabet) (alphabet : Some (letters_of a) ≡ cond (letters_fit p.letters) (Some p.letters) None) (start : Compiled) (empty : start ≡ no_blocks (letters_of a)) where
    empty_start : start ≡ no_blocks p.letters
    empty_start = empty ∙ ap no_blocks (fit (letters_fit p.letters) (letters_of a) alphabet).1

    range_only : stored_if ≡ cond (in_range p) (Some p) None
    range_only = ap (λ b. cond (b && in_range p) (Some p) None) (fit (letters_fit p.letters) (letters_of a) alphabet).0

    untaken : (t r : Bool) → None ≡ cond t (Some (tt {0})) None → (r ≡ true → t ≡ true) → None ≡ cond r (Some p) None
    untaken true r e h = cc
    untaken false true e h = let z = h refl in cc
    untaken false false e h = refl

    -- a block that is refused
    pub refused : None ≡ cond (takes_blocks start p.blocks) (Some (tt {0})) None → None ≡ stored_if
    refused e = untaken (takes_blocks start p.blocks) (in_range p) e (λ r. ap (λ s. takes_blocks s p.blocks) empty_start ∙ range_taken p r) ∙ sym range_only

    taken : (t : Bool) → Some tt ≡ cond t (Some (tt {0})) None → t ≡ true
    taken true e = refl
    taken false e = cc

    -- all blocks taken
    pub finished : (end : Compiled) → Some tt ≡ cond (takes_blocks start p.blocks) (Some (tt {0})) None → (takes_blocks start p.blocks ≡ true → end ≡ with_blocks start p.blocks)
        → cond (in_range end) (Some end) None ≡ stored_if
    finished end e h =
        let whole : end ≡ p = h (taken (takes_blocks start p.blocks) e) ∙ ap (λ s. with_blocks s p.blocks) empty_start in
        ap (λ x. cond (in_range x) (Some x) None) whole ∙ sym range_only

-- notes that tell of no violation stand for the program of their source, which can be stored
pub noted_stored : (source : Text) (x : Notes) → Noted source x → told x ≡ None → (r : Option Compiled) → r ≡ cond (letters_fit x.letters && in_range (program_noted x)) (Some (program_noted x)) None
    → (t : Program) × (outcome source ≡ Ok t) × (r ≡ Some (compiled t))
unfolding program_noted
noted_stored source x n none r e =
    let a = n.accepts none in
    let t = a.0 in
    let whole = accepted_whole t (accepted_sources source t a.1).clean in
    (t, a.1, e ∙ ap stored_if a.2 ∙ ap (λ b. cond b (Some (compiled t)) None) whole)
