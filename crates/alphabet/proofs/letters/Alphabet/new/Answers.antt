use Rattle.std.proofs.Common.{◌≡◌, ◌+◌, leb, [], length, true, sym, ap, ◌∙◌, arith}
use Rattle.std.proofs.lemmas.Bool.{cond-true, eqb-false, le-leb}
use Rattle.bounded.specs.Inline.{items_of, extended}
use Rattle.tape.specs.Meaning.{all_codes}
use Rattle.meaning.specs.Codes.{different, columns}
use Rattle.alphabet.proofs.Places.{apart, apart_codes, apart_differ, apart_few}
use Rattle.alphabet.proofs.letters.Alphabet.new.Goals as goal

pub invariant_of-result : goal.invariant_of-result
invariant_of-result c =
    let ls = c.args.letters.now in
    let fit : apart ls ≡ true = sym c.are_letters.ensures ∙ c.if-not-are_letters.false in
    let some = eqb-false (length ls) 0 (sym c.is_empty.ensures ∙ c.if-is_empty.false) in
    let e : items_of c.extend_from_slice.new.self ≡ ls = c.extend_from_slice.ensures.items ∙ ap (λ xs. extended 36 xs ls) c.new-stored.ensures ∙ cond-true (leb (0 + length ls) 36) ls [] (le-leb (0 + length ls) 36 (omega (arith, apart_few ls fit))) in
    record {
      lettered = omega (arith, ap length e);
      codes = ap all_codes e ∙ apart_codes ls fit;
      differ = ap (λ l. different (columns l)) e ∙ apart_differ ls fit;
      mapped = c.columns_in.ensures;
    }
