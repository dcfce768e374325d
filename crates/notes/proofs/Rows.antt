-- The blocks that rows stand for.
use Rattle.std.proofs.Common.{◌≡◌, ℕ, zero, suc, ◌<◌, ◌≤◌, List, [], ◌∷◌, ◌++◌, length, take, set, Some, None, sym, refl, ap, ◌∙◌, arith}
use Rattle.std.proofs.lemmas.List.{append-nil, append_assoc, length-append, map_push, take_all, take-append-le}
use Rattle.std.proofs.lemmas.Bool.Decides.{nat_tests}
use Rattle.std.proofs.lemmas.Option.{slice_get_read, slice_get_past}
use Rattle.std.specs.Borrow.{Bor}
use Rattle.std.specs.List.{slice_get}
use Rattle.std.specs.Slice.{IsItemAt}
use Rattle.bounded.specs.Inline.{extended}
use Rattle.words.specs.Bytes.{Text}
use Rattle.meaning.specs.Blocks.{Basic as Meant, Kind, lead}
use Rattle.draft.specs.Building.{Owner, numbered, arm_of}
use Rattle.events.specs.Notes.{altered, filled}
use Rattle.program.specs.declared.blocks.Basic.{Basic}
use Rattle.program.specs.declared.blocks.Arm.{Arm}
use Rattle.program.specs.Store.{basic_as, arms_as}
use Rattle.notes.specs.Kinds.{number_of}
use Rattle.notes.specs.Noted.{Block, kind_as, kinds_as, kind_filled}

-- what a look at a place of a slice gives
pub item_at : {A : Type 0} (xs : List A) (i : ℕ) (x : Bor A) → IsItemAt xs i (Some x) → slice_get xs i ≡ Some x.now
item_at xs i x h = slice_get_read xs (length xs) i x.now refl h.3.0 h.1

pub no_item : {A : Type 0} (xs : List A) (i : ℕ) → IsItemAt xs i None → slice_get xs i ≡ None
no_item xs i h = slice_get_past xs i h.3

-- the block that an owner stands in is the one that is filled
pub filled_altered : (o : Owner) (b : Meant Text) (ks : List (Kind Text)) → altered ks (number_of o) (kind_filled o b) ≡ filled o b ks
filled_altered (numbered q) b ks = refl
filled_altered (arm_of q cs) b ks = refl

-- blocks, where it is known what each goto leads to
-- symbols, then one more
lead_more : (cs : List ℕ) (c : ℕ) (b : Meant Text) → lead (cs ++ c ∷ []) b ≡ lead cs b ++ lead (c ∷ []) b
lead_more [] c b = refl
lead_more (d ∷ cs) c b = ap (λ l. (d, b) ∷ l) (lead_more cs c b)

take_twice : {A : Type 0} (n : ℕ) (xs ys : List A) → take n (take n xs ++ ys) ≡ take n (xs ++ ys)
take_twice zero xs ys = refl
take_twice (suc n) [] ys = refl
take_twice (suc n) (x ∷ xs) ys = ap (λ l. x ∷ l) (take_twice n xs ys)

module _ {G : Type 0} (target : G → Text) where
  -- one block more
  pub kinds_push : (n : ℕ) (bs : List (Block G)) (b : Block G) → length bs < n → kinds_as target (extended n bs (b ∷ [])) ≡ kinds_as target bs ++ kind_as target b ∷ []
  kinds_push n bs b lt = grind (arith, nat_tests, map_push (kind_as target) bs b)

  -- one of the blocks changed, or none
  pub kinds_set : (f : Kind Text → Kind Text) (bs : List (Block G)) (q : ℕ) (old new : Block G) → slice_get bs q ≡ Some old → kind_as target new ≡ f (kind_as target old) → kinds_as target (set bs q new) ≡ altered (kinds_as target bs) q f
  kinds_set f [] q old new here e = cc
  kinds_set f (b ∷ bs) zero old new here e = let same : b ≡ old = cc in ap (λ k. k ∷ kinds_as target bs) (e ∙ ap (λ (x : Block G). f (kind_as target x)) (sym same))
  kinds_set f (b ∷ bs) (suc q) old new here e = ap (λ ks. kind_as target b ∷ ks) (kinds_set f bs q old new here e)

  pub kinds_past : (f : Kind Text → Kind Text) (bs : List (Block G)) (q : ℕ) → slice_get bs q ≡ None → kinds_as target bs ≡ altered (kinds_as target bs) q f
  kinds_past f [] q past = refl
  kinds_past f (b ∷ bs) zero past = cc
  kinds_past f (b ∷ bs) (suc q) past = ap (λ ks. kind_as target b ∷ ks) (kinds_past f bs q past)

  -- one arm more
  arms_more : (xs : List (Arm G)) (a : Arm G) → arms_as target (xs ++ a ∷ []) ≡ arms_as target xs ++ lead (a.code ∷ []) (basic_as target a.basic)
  arms_more [] a = refl
  arms_more (x ∷ xs) a = ap (λ l. (x.code, basic_as target x.basic) ∷ l) (arms_more xs a)

  length_arms : (xs : List (Arm G)) → length (arms_as target xs) ≡ length xs
  length_arms [] = refl
  length_arms (x ∷ xs) = ap suc (length_arms xs)

  arms_push : (n : ℕ) (xs : List (Arm G)) (a : Arm G) → length xs ≤ n → arms_as target (extended n xs (a ∷ [])) ≡ take n (arms_as target xs ++ lead (a.code ∷ []) (basic_as target a.basic))
  arms_push n xs a le =
      let arms = arms_as target xs in
      let last = lead (a.code ∷ []) (basic_as target a.basic) in
      grind (arith, nat_tests, length_arms xs, arms_more xs a, length-append arms last, take_all n (arms ++ last), take_all n arms, take-append-le n arms last)

  -- arms for symbols: for none, and for one more
  pub arms_start : (n : ℕ) (xs : List (Arm G)) (b : Meant Text) → length xs ≤ n → arms_as target xs ≡ take n (arms_as target xs ++ lead [] b)
  arms_start n xs b le = let l = length_arms xs in sym (ap (take n) (append-nil (arms_as target xs)) ∙ take_all n (arms_as target xs) (omega arith))

  pub arms_step : (n : ℕ) (xs ys : List (Arm G)) (cs : List ℕ) (c : ℕ) (b : Basic G) → length ys ≤ n → arms_as target ys ≡ take n (arms_as target xs ++ lead cs (basic_as target b))
      → arms_as target (extended n ys (record { code = c; basic = b } ∷ [])) ≡ take n (arms_as target xs ++ lead (cs ++ c ∷ []) (basic_as target b))
  arms_step n xs ys cs c b le e =
      let arms = arms_as target xs in
      let first = lead cs (basic_as target b) in
      let last = lead (c ∷ []) (basic_as target b) in
      arms_push n ys (record { code = c; basic = b }) le ∙ ap (λ zs. take n (zs ++ last)) e ∙ take_twice n (arms ++ first) last ∙ ap (take n) (append_assoc arms first last ∙ ap (λ l. arms ++ l) (sym (lead_more cs c (basic_as target b))))
