-- `lowest` is a minimum: the order in which faults are met doesn't matter.
use Rattle.std.proofs.Common.{◌≡◌, ℕ, ◌<◌, ◌≤◌, Bool, true, false, cond, ◌&&◌, eqb, ltb, leb, ◌⊎◌, List, [], ◌∷◌, ◌++◌, Some, None, Option, sym, refl, ap, ◌∙◌, inl, inr, arith}
use Rattle.std.proofs.lemmas.Bool.{or_cases, or_parts, and_parts, and_cases, ltb-true, ltb-false, leb-true, leb-false, eqb-true, eqb-false}
use Rattle.meaning.specs.declared.faults.Cause.{Cause}
use Rattle.meaning.specs.declared.faults.Cause.TheVariants.{Length, Byte, Word, Depth, Alphabet, ModuleName, Goto, Letter, Repeated, Missing, Limit}
use Rattle.meaning.specs.Numbers.{cause_number}
use Rattle.meaning.specs.Faults.{Violation, flag, before, lower, lowest}
use Rattle.draft.specs.Draft.{met}

-- f is not after g
abbrev Le : Violation → Violation → Type 0
Le f g = (f.index < g.index) ⊎ ((f.index ≡ g.index) × (cause_number f.cause ≤ cause_number g.cause))

-- what the test says
le_by : (f g : Violation) → before f g ≡ true → Le f g
le_by f g h = at (or_cases (ltb f.index g.index) (eqb f.index g.index && leb (cause_number f.cause) (cause_number g.cause)) h)
  where
    at : (ltb f.index g.index ≡ true) ⊎ (eqb f.index g.index && leb (cause_number f.cause) (cause_number g.cause) ≡ true) → Le f g
    at (inl p) = inl (ltb-true f.index g.index p)
    at (inr p) = let q = and_parts (eqb f.index g.index) (leb (cause_number f.cause) (cause_number g.cause)) p in inr (eqb-true f.index g.index q.0, leb-true (cause_number f.cause) (cause_number g.cause) q.1)

-- g strictly before f
abbrev Lt : Violation → Violation → Type 0
Lt g f = (g.index < f.index) ⊎ ((g.index ≡ f.index) × (cause_number g.cause < cause_number f.cause))

-- what the failed test says
ge_by : (f g : Violation) → before f g ≡ false → Lt g f
ge_by f g h = at (and_cases (eqb f.index g.index) (leb (cause_number f.cause) (cause_number g.cause)) p.1)
  where
    p : (ltb f.index g.index ≡ false) × (eqb f.index g.index && leb (cause_number f.cause) (cause_number g.cause) ≡ false)
    p = or_parts (ltb f.index g.index) (eqb f.index g.index && leb (cause_number f.cause) (cause_number g.cause)) h

    l : g.index ≤ f.index
    l = ltb-false f.index g.index p.0

    at : (eqb f.index g.index ≡ false) ⊎ (leb (cause_number f.cause) (cause_number g.cause) ≡ false) → Lt g f
    at (inl e) = inl (let d : f.index ≡ g.index → ⊥ = eqb-false f.index g.index e in omega (arith, l))
    at (inr e) = tie (eqb f.index g.index) refl
      where
        tie : (b : Bool) → eqb f.index g.index ≡ b → Lt g f
        tie true t = inr (sym (eqb-true f.index g.index t), let z = leb-false (cause_number f.cause) (cause_number g.cause) e in omega arith)
        tie false t = inl (let d : f.index ≡ g.index → ⊥ = eqb-false f.index g.index t in omega (arith, l))

-- a cause is told by its number
abbrev cause_of : ℕ → Cause
cause_of n =
    cond (eqb n 1) Length (cond (eqb n 2) Byte (cond (eqb n 3) Word (cond (eqb n 4) Depth (cond (eqb n 5) Alphabet (cond (eqb n 6) ModuleName (cond (eqb n 7) Goto (cond (eqb n 8) Letter (cond (eqb n 9) Repeated (cond (eqb n 10) Missing Limit)))))))))

cause_back : (c : Cause) → cause_of (cause_number c) ≡ c
cause_back Length = refl
cause_back Byte = refl
cause_back Word = refl
cause_back Depth = refl
cause_back Alphabet = refl
cause_back ModuleName = refl
cause_back Goto = refl
cause_back Letter = refl
cause_back Repeated = refl
cause_back Missing = refl
cause_back Limit = refl

-- causes with one number are one
cause_same : (c d : Cause) → cause_number c ≡ cause_number d → c ≡ d
cause_same c d e = sym (cause_back c) ∙ ap cause_of e ∙ cause_back d

-- two violations at one index with one number are one
same_violation : (f g : Violation) → f.index ≡ g.index → cause_number f.cause ≡ cause_number g.cause → f ≡ g
same_violation f g p q = λ i. record { index = p i; cause = cause_same f.cause g.cause q i }

-- a fault among those met
abbrev pub ins : Violation → Option Violation → Option Violation
ins f w = Some (lower f w)

-- violations among those met
abbrev pub plus : List Violation → Option Violation → Option Violation
plus [] w = w
plus (f ∷ fs) w = ins f (plus fs w)

-- which of two is asked first does not matter
pick : (f g : Violation) → cond (before f g) f g ≡ cond (before g f) g f
pick f g = at (before f g) (before g f) refl refl
  where
    both : Le f g → Le g f → f ≡ g
    both (inl p) (inl q) = absurd (omega arith)
    both (inl p) (inr q) = absurd (omega arith)
    both (inr p) (inl q) = absurd (omega arith)
    both (inr p) (inr q) = same_violation f g p.0 (omega arith)

    neither : Lt g f → Lt f g → ⊥
    neither (inl p) (inl q) = omega arith
    neither (inl p) (inr q) = omega arith
    neither (inr p) (inl q) = omega arith
    neither (inr p) (inr q) = omega arith

    at : (b c : Bool) → before f g ≡ b → before g f ≡ c → cond b f g ≡ cond c g f
    at true true p q = both (le_by f g p) (le_by g f q)
    at true false p q = refl
    at false true p q = refl
    at false false p q = absurd (neither (ge_by f g p) (ge_by g f q))

-- the order is transitive
le_le : (f g h : Violation) → Le f g → Le g h → Lt h f → ⊥
le_le f g h (inl p) (inl q) (inl r) = omega arith
le_le f g h (inl p) (inl q) (inr r) = omega arith
le_le f g h (inl p) (inr q) (inl r) = omega arith
le_le f g h (inl p) (inr q) (inr r) = omega arith
le_le f g h (inr p) (inl q) (inl r) = omega arith
le_le f g h (inr p) (inl q) (inr r) = omega arith
le_le f g h (inr p) (inr q) (inl r) = omega arith
le_le f g h (inr p) (inr q) (inr r) = omega arith

-- the order of two does not matter
swap : (f g : Violation) (w : Option Violation) → ins f (ins g w) ≡ ins g (ins f w)
swap f g None = ap Some (pick f g)
swap f g (Some h) = ap Some (at (before g h) (before f h) refl refl)
  where
    at : (b c : Bool) → before g h ≡ b → before f h ≡ c → cond (before f (cond b g h)) f (cond b g h) ≡ cond (before g (cond c f h)) g (cond c f h)
    at true true p q = pick f g
    at true false p q = left (before f g) refl
      where
        left : (d : Bool) → before f g ≡ d → cond d f g ≡ cond (before g h) g h
        left true r = absurd (le_le f g h (le_by f g r) (le_by g h p) (ge_by f h q))
        left false r = ap (λ d. cond d g h) (sym p)
    at false true p q = right (before g f) refl
      where
        right : (d : Bool) → before g f ≡ d → cond (before f h) f h ≡ cond d g f
        right true r = absurd (le_le g f h (le_by g f r) (le_by f h q) (ge_by g h p))
        right false r = ap (λ d. cond d f h) q
    at false false p q = ap (λ d. cond d f h) q ∙ ap (λ d. cond d g h) (sym p)

-- all of them, and no other
pub plus_none : (fs : List Violation) → plus fs None ≡ lowest fs
plus_none [] = refl
plus_none (f ∷ fs) = ap (ins f) (plus_none fs)

pub plus-++ : (xs ys : List Violation) (w : Option Violation) → plus (xs ++ ys) w ≡ plus xs (plus ys w)
plus-++ [] ys w = refl
plus-++ (x ∷ xs) ys w = ap (ins x) (plus-++ xs ys w)

-- one past many
past : (f : Violation) (ys : List Violation) (w : Option Violation) → ins f (plus ys w) ≡ plus ys (ins f w)
past f [] w = refl
past f (y ∷ ys) w = swap f y (plus ys w) ∙ ap (ins y) (past f ys w)

-- the order does not matter
pub plus_swap : (xs ys : List Violation) (w : Option Violation) → plus xs (plus ys w) ≡ plus ys (plus xs w)
plus_swap [] ys w = refl
plus_swap (x ∷ xs) ys w = ap (ins x) (plus_swap xs ys w) ∙ past x ys (plus xs w)

-- one if the test says so
pub met_plus : (b : Bool) (i : ℕ) (n : Cause) (w : Option Violation) → met b i n w ≡ plus (flag b i n) w
met_plus true i n w = refl
met_plus false i n w = refl
