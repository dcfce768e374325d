use Rattle.std.proofs.Common.{◌≡◌, ◌<◌, ℕ, zero, suc, ◌+◌, List, map, get_or, subst, ◌∙◌, zero-add, add-zero, arith, rules}
use Rattle.std.specs.Array.{IsFromFnResult, IsFromFnResultFrom}
use Rattle.std.specs.Fn.{Called}
use Rattle.std.specs.List.{range_with_len}
use denote.Param.Members.{Mut}
use Rattle.std.proofs.lemmas.List.FromFn.{fill_by_all}
use Rattle.std.proofs.lemmas.Int.{ints}
use Rattle.tape.specs.Display.{shown_at}
use Rattle.tape.proofs.display.display.Goals as goal

-- what `from_fn` makes of a closure that answers h at each index, and stays as it is
module _ {F : Type 0} (g : Mut F (ℕ × Unit {0}) ℕ) (f : F) (h : ℕ → ℕ) (end : ℕ) (one : (i y : ℕ) (q : F) → i < end → Called g f (i, tt) y q → (y ≡ h i) × (q ≡ f)) where
  each_is : (n i : ℕ) (ys : List ℕ) → i + n ≡ end → IsFromFnResultFrom g f ys i n → (k : ℕ) → k < n → get_or ys (i + k) 0 ≡ h (i + k)
  each_is zero i ys e each k lt = absurd (omega arith)
  each_is (suc n) i ys e each zero lt = rw add-zero (each.2.1 0 ∙ (one i each.1 each.0 (omega arith) each.3).0)
  each_is (suc n) i ys e each (suc k) lt =
      let rest = subst (λ p. IsFromFnResultFrom g p ys (i + 1) n) (one i each.1 each.0 (omega arith) each.3).1 each.4 in
      let next : i + 1 + k ≡ i + suc k = omega arith in
      subst (λ j. get_or ys j 0 ≡ h j) next (each_is n (i + 1) ys (omega arith) rest k (omega arith))

  from_fn_is : (ys : List ℕ) → IsFromFnResult g f ys end → ys ≡ map h (range_with_len 0 end)
  from_fn_is ys made = fill_by_all h ys end 0 made.long (simp zero-add at (each_is end 0 ys (omega arith) made.each))

pub returns : goal.returns
returns g c = from_fn_is _ _ (shown_at (g.T.Tape.meaning c.args.tape.now)) 15 (λ i y q small called. search (rules, ints)) _ c.from_fn.ensures.items
