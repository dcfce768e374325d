-- Blocks with their gotos settled.
use Rattle.std.proofs.Common.{◌≡◌, ℕ, suc, ◌<◌, Bool, true, false, cond, ◌&&◌, List, [], ◌∷◌, ◌++◌, length, Some, None, sym, refl, ap, ◌∙◌, arith}
use Rattle.std.proofs.lemmas.Bool.Decides.{nat_tests}
use Rattle.bounded.specs.Inline.{extended}
use Rattle.words.specs.Bytes.{Text}
use Rattle.meaning.specs.Blocks.{Kind, switch, Compiled, settled_basic, settled_arms}
use Rattle.program.specs.declared.blocks.Basic.{Basic}
use Rattle.program.specs.declared.blocks.Arm.{Arm}
use Rattle.program.specs.Store.{basic_of, basic_as, arms_as}
use Rattle.program.specs.Arms.{codes_of, arms_in}
use Rattle.program.specs.Built.{with_block, takes_switch}
use Rattle.program.specs.Taken.{takes_block, takes_blocks, with_blocks}
use Rattle.program.proofs.Taken.{codes_kept, one_then}
use Rattle.notes.specs.declared.kinds.Span.{Span}
use Rattle.notes.specs.declared.kinds.Module.{Module}
use Rattle.notes.specs.Noted.{Block}
use Rattle.notes.specs.Settled.{kinds_settled}

-- where it is known what each goto leads to as it is written, and to which number
module _ {G : Type 0} (target : G → Text) (at : Text → ℕ) where
  length_settled : (xs : List (Arm G)) → length (settled_arms at (arms_as target xs)) ≡ length xs
  length_settled [] = refl
  length_settled (x ∷ xs) = ap suc (length_settled xs)

  length_arms : (ys : List (Arm ℕ)) → length (arms_in ys) ≡ length ys
  length_arms [] = refl
  length_arms (y ∷ ys) = ap suc (length_arms ys)

  settled_more : (xs : List (Arm G)) (a : Arm G) → settled_arms at (arms_as target (xs ++ a ∷ [])) ≡ settled_arms at (arms_as target xs) ++ (a.code, settled_basic at (basic_as target a.basic)) ∷ []
  settled_more [] a = refl
  settled_more (x ∷ xs) a = ap (λ l. (x.code, settled_basic at (basic_as target x.basic)) ∷ l) (settled_more xs a)

  arms_more : (ys : List (Arm ℕ)) (b : Arm ℕ) → arms_in (ys ++ b ∷ []) ≡ arms_in ys ++ (b.code, basic_of b.basic) ∷ []
  arms_more [] b = refl
  arms_more (y ∷ ys) b = ap (λ l. (y.code, basic_of y.basic) ∷ l) (arms_more ys b)

  -- one arm more is settled
  pub arm_settled : (n : ℕ) (xs : List (Arm G)) (ys : List (Arm ℕ)) (a : Arm G) (b : Basic ℕ) → length xs < n → arms_in ys ≡ settled_arms at (arms_as target xs) → basic_of b ≡ settled_basic at (basic_as target a.basic)
      → arms_in (extended n ys (record { code = a.code; basic = b } ∷ [])) ≡ settled_arms at (arms_as target (xs ++ a ∷ []))
  arm_settled n xs ys a b lt e f =
      let long = sym (length_arms ys) ∙ ap length e ∙ length_settled xs in
      let room : extended n ys (record { code = a.code; basic = b } ∷ []) ≡ ys ++ record { code = a.code; basic = b } ∷ [] = grind (arith, nat_tests) in
      ap arms_in room ∙ arms_more ys _ ∙ ap (λ l. l ++ (a.code, basic_of b) ∷ []) e ∙ ap (λ c. settled_arms at (arms_as target xs) ++ (a.code, c) ∷ []) f ∙ sym (settled_more xs a)

-- whether a switch with these arms is taken
pub switch_taken : (p : Compiled) (arms : List (Arm ℕ)) (k : Kind ℕ) → switch (arms_in arms) ≡ k → takes_block p k ≡ takes_switch p (codes_of arms)
switch_taken p arms k e = ap (takes_block p) (sym e) ∙ ap (takes_switch p) (codes_kept arms)

-- a block that a builder answers with something is taken, and the others come behind it
answered : (b : Bool) → Some tt ≡ cond b (Some (tt {0})) None → b ≡ true
answered true e = refl
answered false e = cc

pub block_taken : (p q : Compiled) (k : Kind ℕ) (ks : List (Kind ℕ)) → Some tt ≡ cond (takes_block p k) (Some (tt {0})) None → q ≡ cond (takes_block p k) (with_block p k) p
    → (takes_blocks q ks ≡ takes_blocks p (k ∷ ks)) × (with_blocks q ks ≡ with_blocks p (k ∷ ks))
block_taken p q k ks told e =
    let taken = answered (takes_block p k) told in
    let new : q ≡ with_block p k = e ∙ ap (λ b. cond b (with_block p k) p) taken in
    (ap (λ x. takes_blocks x ks) new ∙ sym (ap (λ b. b && takes_blocks (with_block p k) ks) taken), ap (λ x. with_blocks x ks) new ∙ one_then p k ks)

-- the same blocks and modules
pub same_settled : (source : Text) {ms ns : List Module} {xs ys : List (Block Span)} → ms ≡ ns → xs ≡ ys → kinds_settled source ms xs ≡ kinds_settled source ns ys
same_settled source {ns = ns} {xs = xs} e f = ap (λ l. kinds_settled source l xs) e ∙ ap (kinds_settled source ns) f
