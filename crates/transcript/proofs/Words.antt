-- The codes of a text, byte by byte.
use Rattle.std.proofs.Common.{◌≡◌, ℕ, ◌+◌, ◌<◌, ◌≤◌, true, ◌&&◌, List, [], ◌∷◌, ◌++◌, Some, None, Option, length, get_or, drop, leb, sym, refl, ap, ◌∙◌, arith, le-leb}
use Rattle.std.proofs.lemmas.Bool.Decides.{nat_tests}
use Rattle.std.proofs.lemmas.List.{append_assoc, at_drop_more, length_push}
use Rattle.std.proofs.lemmas.List.Recursion.{and_push}
use Rattle.std.specs.Option.{option_map}
use Rattle.tape.specs.Meaning.{all_codes}
use Rattle.tape.specs.Symbols.{cell_code}
use Rattle.transcript.specs.Word.{before, codes_of}

-- codes that were read, and then the codes of what is left
abbrev read_on : List ℕ → Option (List ℕ) → Option (List ℕ)
read_on cs rest = option_map (λ ds. cs ++ ds) rest

-- the first i bytes of a text were read as these codes
pub record ReadTo (text cs : List ℕ) (i : ℕ) : Type 0 where
  pub each : length cs ≡ i
  pub rest : codes_of text ≡ read_on cs (codes_of (drop i text))
  pub codes : all_codes cs ≡ true

one_more : (cs : List ℕ) (c : ℕ) (rest : Option (List ℕ)) → read_on cs (before (Some c) rest) ≡ read_on (cs ++ c ∷ []) rest
one_more cs c None = refl
one_more cs c (Some ds) = ap Some (sym (append_assoc cs (c ∷ []) ds))

-- the next byte is read too
pub read_more : (text cs : List ℕ) (i c : ℕ) → ReadTo text cs i → i < length text → Some c ≡ cell_code (get_or text i 0) → ReadTo text (cs ++ c ∷ []) (i + 1)
read_more text cs i c so_far inside e =
    let code : c ≤ 36 = grind (arith, nat_tests) in
    record {
      each = length_push cs c ∙ ap (λ n. n + 1) so_far.each;
      rest = so_far.rest ∙ ap (read_on cs) (at_drop_more codes_of text i 0 inside ∙ ap (λ o. before o (codes_of (drop (i + 1) text))) (sym e)) ∙ one_more cs c (codes_of (drop (i + 1) text));
      codes = and_push all_codes (λ x. leb x 36) refl (λ _ _. refl) cs c ∙ (λ j. so_far.codes j && le-leb c 36 code j);
    }
