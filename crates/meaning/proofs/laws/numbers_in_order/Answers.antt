use Rattle.meaning.proofs.Order.{numbers_in_order}
use Rattle.meaning.proofs.laws.numbers_in_order.Goals as goal

pub returns : goal.returns
returns c = numbers_in_order
