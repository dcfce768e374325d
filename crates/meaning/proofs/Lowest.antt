-- The lowest of some faults.
use Rattle.std.proofs.Common.{◌≡◌, ◌<◌, ◌≤◌, Bool, true, false, cond, ◌⊎◌, List, [], ◌∷◌, Some, None, Option, refl, ◌∙◌, subst, inl, inr, arith}
use Rattle.std.proofs.lemmas.Bool.Decides.{nat_tests}
use Rattle.meaning.specs.Numbers.{cause_number}
use Rattle.meaning.specs.Faults.{Violation, before, lower, lowest, Earlier, NoneBefore, IsLowest, TellsLowest}

-- as numbers: f is not after g
abbrev Le : Violation → Violation → Type 0
Le f g = (f.index < g.index) ⊎ ((f.index ≡ g.index) × (cause_number f.cause ≤ cause_number g.cause))

le_by : (f g : Violation) → before f g ≡ true → Le f g
le_by f g h = grind (arith, nat_tests, h)

ge_by : (f g : Violation) → before f g ≡ false → Le g f
ge_by f g h = grind (arith, nat_tests, h)

not_earlier : (f g : Violation) → Le f g → ¬ Earlier g f
not_earlier f g l = grind (arith, l)

le_trans : (f g h : Violation) → Le f g → ¬ Earlier h g → ¬ Earlier h f
le_trans f g h l n = grind (arith, l, n)

none_before : (f g : Violation) (hs : List Violation) → Le f g → NoneBefore g hs → NoneBefore f hs
none_before f g [] l n = tt
none_before f g (h ∷ hs) l n = (le_trans f g h l n.0, none_before f g hs l n.1)

some_same : (f g : Violation) → Some f ≡ Some g → f ≡ g
some_same f g e = cc

lowest_is : (fs : List Violation) (o : Option Violation) → lowest fs ≡ o → (f : Violation) → o ≡ Some f → IsLowest f fs
lowest_is [] o e f h = absurd cc
lowest_is (g ∷ gs) o e f h =
    subst (λ (x : Violation). IsLowest x (g ∷ gs)) (some_same (lower g (lowest gs)) f (e ∙ h)) (by (lowest gs) refl (lowest_is gs (lowest gs) refl))
  where
    choose : (x : Violation) → IsLowest x gs → (b : Bool) → before g x ≡ b → IsLowest (cond b g x) (g ∷ gs)
    choose x i true t = record { among = inl refl; no_earlier = (not_earlier g g (inr (refl, omega arith)), none_before g x gs (le_by g x t) i.no_earlier) }
    choose x i false t = record { among = inr i.among; no_earlier = (not_earlier x g (ge_by g x t), i.no_earlier) }

    empty : (hs : List Violation) → lowest hs ≡ None → NoneBefore g hs
    empty [] t = tt
    empty (x ∷ xs) t = absurd cc

    by : (r : Option Violation) → lowest gs ≡ r → ((x : Violation) → lowest gs ≡ Some x → IsLowest x gs) → IsLowest (lower g r) (g ∷ gs)
    by None t ih = record { among = inl refl; no_earlier = (not_earlier g g (inr (refl, omega arith)), empty gs t) }
    by (Some x) t ih = choose x (ih x t) (before g x) refl

pub tells_lowest : TellsLowest
tells_lowest fs f e = lowest_is fs (lowest fs) refl f e
