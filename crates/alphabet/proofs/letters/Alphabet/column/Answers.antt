use Rattle.std.proofs.Common.{◌<◌, length, get_or, IfSome, None, Option, ℕ, sym, ap, ◌∙◌, subst, arith}
use Rattle.meaning.specs.Codes.{columns}
use Rattle.alphabet.specs.Alphabets.{letters_of}
use Rattle.alphabet.proofs.Places.{column_told, column_below}
use Rattle.alphabet.proofs.letters.Alphabet.column.Goals as goal

pub returns-clause-within : goal.returns-clause-within
returns-clause-within c =
    let a = c.args.self.now in
    let code = c.args.code in
    let cols = columns (letters_of a) in
    let Below : Option ℕ → Type 0 = λ o. IfSome o (λ k. k < length cols) in
    subst Below (sym (ap (λ m. get_or m code None) a.mapped ∙ column_told cols code (omega arith))) (column_below cols code)
