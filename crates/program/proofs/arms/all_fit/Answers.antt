use Rattle.std.proofs.Common.{rules}
use Rattle.std.proofs.lemmas.Iterator.{YieldsList-from_slice}
use Rattle.std.proofs.lemmas.Iterator.Search.{all_from_yields_List}
use Rattle.meaning.specs.Codes.{columns}
use Rattle.alphabet.specs.Alphabets.{letters_of}
use Rattle.program.specs.Store.{basic_of, basic_fits}
use Rattle.program.proofs.arms.all_fit.Goals as goal

pub returns : goal.returns
returns c =
    all_from_yields_List (λ x. basic_fits (columns (letters_of c.args.alphabet.now)) c.args.count (basic_of x)) _ _ _ c.all.ensures.ran
    (YieldsList-from_slice c.args.slots.now (cc)) (λ x b q k. (search rules, cc))
