-- What `from_fn` makes.
use Rattle.std.proofs.Common.{◌≡◌, ℕ, zero, suc, ◌+◌, ◌<◌, ◌≤◌, List, map, get_or, inl, inr, sym, ap, ◌∙◌, subst, arith}
use Rattle.std.proofs.lemmas.List.FromFn.{fill_by_all}
use Rattle.std.specs.List.{range_with_len}
use Rattle.std.specs.Array.{IsFromFnResultFrom, IsFromFnResult}
use Rattle.std.specs.Fn.{Called}
use denote.Param.Members.{Mut}
use Rattle.std.proofs.lemmas.Bool.{cases_eq}

module _ {F B : Type 0} (g : Mut F (ℕ × Unit {0}) B) (f : F) (h : ℕ → B) (same : (i : ℕ) (y : B) (q : F) → Called g f (i, tt) y q → (q ≡ f) × (y ≡ h i)) where
  -- each element, by a closure that stays as it is
  made_at : (ys : List B) (n i : ℕ) → IsFromFnResultFrom g f ys i n → (k : ℕ) (d : B) → i ≤ k → k < i + n → get_or ys k d ≡ h k
  made_at ys zero i each k d l m = absurd (omega arith)
  made_at ys (suc n) i (q, y, here, called, rest) k d l m =
      let s = same i y q called in
      elim (cases_eq i k) [
        | inl e ↦ ap (λ j. get_or ys j d) (sym e) ∙ here.1 d ∙ s.1 ∙ ap h e
        | inr other ↦ made_at ys n (i + 1) (subst (λ p. IsFromFnResultFrom g p ys (i + 1) n) s.0 rest) k d (omega arith) (omega arith)
      ]

  pub made_by : (ys : List B) (n : ℕ) (d : B) → IsFromFnResult g f ys n → ys ≡ map h (range_with_len 0 n)
  made_by ys n d r = fill_by_all h ys n d r.long (λ k l. made_at ys n 0 r.each k d (omega arith) (omega arith))
