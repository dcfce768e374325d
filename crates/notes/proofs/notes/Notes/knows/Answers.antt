use Rattle.std.proofs.Common.{◌≡◌, ℕ, ◌||◌, eqb, List, [], ◌∷◌, refl, arith}
use Rattle.std.proofs.lemmas.Bool.Decides.{nat_tests}
use Rattle.meaning.specs.Codes.{member, columns}
use Rattle.alphabet.proofs.Members.{contains_member}
use Rattle.events.specs.Notes.{is_column}
use Rattle.notes.specs.Noted.{notes_of}
use Rattle.notes.proofs.notes.Notes.knows.Goals as goal

-- a code among letters and blank
with_blank : (c : ℕ) (ls : List ℕ) → member c (columns ls) ≡ (eqb c 0 || member c ls)
with_blank c [] = refl
with_blank c (l ∷ ls) = grind (arith, nat_tests, with_blank c ls)

pub returns-then-code-eq0 : goal.returns-then-code-eq0
unfolding is_column notes_of
returns-then-code-eq0 c = λ source. grind (arith, nat_tests, with_blank)

pub returns-else-code-eq0 : goal.returns-else-code-eq0
unfolding is_column notes_of
returns-else-code-eq0 c = λ source. grind (arith, nat_tests, with_blank, contains_member c.args.code c.as_slice.result.now)
