use Rattle.std.proofs.Common.{None, rules, tests}
use Rattle.meaning.specs.Codes.{columns}
use Rattle.bounded.specs.Inline.{items_of}
use Rattle.alphabet.specs.Columns.{column_at}
use Rattle.alphabet.proofs.Made.{made_by}
use Rattle.alphabet.proofs.letters.operations.columns_in.Goals as goal

pub returns : goal.returns
returns c = made_by _ _ (column_at (columns (items_of c.args.letters.now))) (λ i y q k. search (rules, tests)) c.from_fn.result 256 None c.from_fn.ensures.items
