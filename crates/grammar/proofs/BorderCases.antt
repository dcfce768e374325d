-- The border cases, by computation.
use Rattle.std.proofs.Common.{refl}
use Rattle.grammar.specs.Borders.{Borders}

-- each is what the definitions compute
pub borders : Borders
borders = record {
  empty = refl;
  no_module = refl;
  nothing_inside = refl;
  one_flow = tt;
  flow_in_while = refl;
  case_first = refl;
  sixteen = tt;
  seventeen = refl;
  while_seventeen = refl;
  first_seventeen = refl;
  name_seventeen = tt;
}
