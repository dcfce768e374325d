-- Tables typed in keep the ranges.
use Rattle.std.proofs.Common.{◌≡◌, ℕ, zero, suc, ◌<◌, ◌≤◌, Bool, true, false, cond, not, ◌&&◌, ◌||◌, eqb, ltb, leb, List, [], ◌∷◌, map, length, get_or, set, replicate, sym, refl, ap, ◌∙◌, subst, arith, length-append, length-set, get_or-set_other, get_or-set_same}
use Rattle.std.proofs.lemmas.List.{length-map, length-replicate}
use Rattle.std.proofs.lemmas.Option.{cond_some}
use Rattle.std.proofs.lemmas.Bool.{and_parts, not-true, leb-true, ltb-true, eqb-true, eqb-false, false≢true}
use Rattle.meaning.specs.Codes.{member, different, position, columns}
use Rattle.meaning.specs.declared.machines.Next.{Next}
use Rattle.meaning.specs.declared.machines.Next.TheVariants.{To, Accept, Reject}
use Rattle.meaning.specs.declared.machines.Entry.{Entry}
use Rattle.meaning.specs.Rules.{Table, fresh, entry}
use Rattle.meaning.specs.Faults.{too_many}
use Rattle.meaning.specs.Tables.{Each, NextWithin, EntryWithin, RowWithin, Within, new_fits, fresh_table, next_fits, set_fits, with_entry, NewAndSet}
use Rattle.tape.specs.Meaning.{all_codes}
use Rattle.meaning.proofs.Names.{each_columns}
use Rattle.meaning.proofs.Clean.{each_own}
use Rattle.meaning.proofs.Pigeons.{at_most}
use Rattle.meaning.proofs.Ranges.{below_37}

codes_each : (cs : List ℕ) → all_codes cs ≡ true → Each (λ c. c ≤ 36) cs
codes_each [] h = tt
codes_each (c ∷ cs) h = let p = and_parts (leb c 36) (all_codes cs) h in (leb-true c 36 p.0, codes_each cs p.1)

each_replicate : {A : Type 0} (P : A → Type 0) (n : ℕ) (x : A) → P x → Each P (replicate n x)
each_replicate P zero x p = tt
each_replicate P (suc n) x p = (p, each_replicate P n x p)

fresh_within : (cols : List ℕ) (n : ℕ) (cs : List ℕ) → Each (λ c. member c cols ≡ true) cs → Each (EntryWithin cols n) (map fresh cs)
fresh_within cols n [] m = tt
fresh_within cols n (c ∷ cs) m = (record { writes = m.0; leads = tt }, fresh_within cols n cs m.1)

most_letters : (letters : List ℕ) → different (columns letters) ≡ true → Each (λ c. c ≤ 36) letters → length letters ≤ 36
most_letters letters d s = omega (arith, at_most 37 (columns letters) d (below_37 (columns letters) (each_columns letters s)), length-append letters (0 ∷ []))

made_within : (letters : List ℕ) (n : ℕ) → new_fits letters n ≡ true → Within (fresh_table letters n)
made_within letters n h =
    let cols = columns letters in
    let rows = replicate n (map fresh cols) in
    let p₁ = and_parts (leb 1 (length letters) && all_codes letters && different cols && leb 1 n) (not (too_many n (length cols))) h in
    let p₂ = and_parts (leb 1 (length letters) && all_codes letters && different cols) (leb 1 n) p₁.0 in
    let p₃ = and_parts (leb 1 (length letters) && all_codes letters) (different cols) p₂.0 in
    let p₄ = and_parts (leb 1 (length letters)) (all_codes letters) p₃.0 in
    let s = codes_each letters p₄.1 in
    let l : length rows ≡ n = length-replicate n (map fresh cols) in
    record {
      lettered = leb-true 1 (length letters) p₄.0;
      most = most_letters letters p₃.1 s;
      codes = s;
      differ = p₃.1;
      stated = let z = leb-true 1 n p₂.1 in omega arith;
      few = ap (λ m. too_many m (length cols)) l ∙ not-true (too_many n (length cols)) p₁.1;
      rows = each_replicate (RowWithin cols (length rows)) n (map fresh cols) (record { wide = length-map cols fresh; each = fresh_within cols (length rows) cols (each_own cols) });
    }

each_set : {A : Type 0} (P : A → Type 0) (xs : List A) (i : ℕ) (x : A) → Each P xs → P x → Each P (set xs i x)
each_set P [] i x w p = tt
each_set P (y ∷ ys) zero x w p = (p, w.1)
each_set P (y ∷ ys) (suc i) x w p = (w.0, each_set P ys i x w.1 p)

pub each_get_or : {A : Type 0} (P : A → Type 0) (xs : List A) (i : ℕ) (d : A) → Each P xs → i < length xs → P (get_or xs i d)
each_get_or P [] i d w h = absurd (omega arith)
each_get_or P (x ∷ xs) zero d w h = w.0
each_get_or P (x ∷ xs) (suc i) d w h = each_get_or P xs i d w.1 (omega arith)

next_by : (n : ℕ) (x : Next) → next_fits n x ≡ true → NextWithin n x
next_by n (To r) h = ltb-true r n h
next_by n Accept h = tt
next_by n Reject h = tt

replaced_within : (t : Table) (q c : ℕ) (e : Entry) → Within t → set_fits t q c e ≡ true → Within (with_entry t q c e)
replaced_within t q c e w h =
    let cols = columns t.letters in
    let n = length t.rows in
    let p₁ = and_parts (ltb q n && member c cols && member e.write cols) (next_fits n e.next) h in
    let p₂ = and_parts (ltb q n && member c cols) (member e.write cols) p₁.0 in
    let p₃ = and_parts (ltb q n) (member c cols) p₂.0 in
    let old = get_or t.rows q [] in
    let i = position c cols in
    let l : length (with_entry t q c e).rows ≡ n = length-set t.rows q (set old i e) in
    let r : RowWithin cols n old = each_get_or (RowWithin cols n) t.rows q [] w.rows (ltb-true q n p₃.0) in
    let x : RowWithin cols n (set old i e) = record { wide = length-set old i e ∙ r.wide; each = each_set (EntryWithin cols n) old i e r.each (record { writes = p₂.1; leads = next_by n e.next p₁.1 }) } in
    record {
      lettered = w.lettered;
      most = w.most;
      codes = w.codes;
      differ = w.differ;
      stated = let z = w.stated in omega arith;
      few = ap (λ m. too_many m (length cols)) l ∙ w.few;
      rows = subst (λ (m : ℕ). Each (RowWithin cols m) (with_entry t q c e).rows) (sym l) (each_set (RowWithin cols n) t.rows q (set old i e) w.rows x);
    }

-- columns are found at different positions
pub position_below : (c : ℕ) (cols : List ℕ) → member c cols ≡ true → position c cols < length cols
position_below c [] m = absurd (false≢true m)
position_below c (x ∷ xs) m = at (eqb c x) m (position_below c xs)
  where
    at : (b : Bool) → b || member c xs ≡ true → (member c xs ≡ true → position c xs < length xs) → cond b 0 (suc (position c xs)) < suc (length xs)
    at true h ih = omega arith
    at false h ih = let z = ih h in omega arith

position_apart : (c d : ℕ) (cols : List ℕ) → member c cols ≡ true → (c ≡ d → ⊥) → position d cols ≡ position c cols → ⊥
position_apart c d [] m n e = absurd (false≢true m)
position_apart c d (x ∷ xs) m n e = at (eqb c x) (eqb d x) refl refl m e (position_apart c d xs)
  where
    at : (a b : Bool) → eqb c x ≡ a → eqb d x ≡ b → a || member c xs ≡ true → cond b 0 (suc (position d xs)) ≡ cond a 0 (suc (position c xs)) → (member c xs ≡ true → (c ≡ d → ⊥) → position d xs ≡ position c xs → ⊥) → ⊥
    at true true p q h f ih = n (eqb-true c x p ∙ sym (eqb-true d x q))
    at true false p q h f ih = omega arith
    at false true p q h f ih = omega arith
    at false false p q h f ih = ih h n (omega arith)

replaces : (t : Table) (q c : ℕ) (e : Entry) → Within t → set_fits t q c e ≡ true → (r d : ℕ) → ltb r (length t.rows) ≡ true → member d (columns t.letters) ≡ true
    → entry (with_entry t q c e) r d ≡ cond (eqb r q && eqb d c) e (entry t r d)
replaces t q c e w h r d l m = by_row (eqb r q) refl
  where
    cols : List ℕ
    cols = columns t.letters

    n : ℕ
    n = length t.rows

    old : List Entry
    old = get_or t.rows q []

    p₁ : (ltb q n && member c cols && member e.write cols ≡ true) × (next_fits n e.next ≡ true)
    p₁ = and_parts (ltb q n && member c cols && member e.write cols) (next_fits n e.next) h

    p₂ : (ltb q n && member c cols ≡ true) × (member e.write cols ≡ true)
    p₂ = and_parts (ltb q n && member c cols) (member e.write cols) p₁.0

    p₃ : (ltb q n ≡ true) × (member c cols ≡ true)
    p₃ = and_parts (ltb q n) (member c cols) p₂.0

    wide : length old ≡ length cols
    wide = (each_get_or (RowWithin cols n) t.rows q [] w.rows (ltb-true q n p₃.0)).wide

    by_column : (b : Bool) → eqb d c ≡ b → get_or (set old (position c cols) e) (position d cols) (fresh d) ≡ cond b e (get_or old (position d cols) (fresh d))
    by_column true f =
        ap (λ x. get_or (set old (position c cols) e) (position x cols) (fresh d)) (eqb-true d c f)
        ∙ get_or-set_same old (position c cols) e (fresh d) (let z = position_below c cols p₃.1 in omega (arith, wide))
    by_column false f = get_or-set_other old (position c cols) (position d cols) e (fresh d) (λ g. position_apart c d cols p₃.1 (λ z. eqb-false d c f (sym z)) g)

    by_row : (a : Bool) → eqb r q ≡ a → entry (with_entry t q c e) r d ≡ cond (a && eqb d c) e (entry t r d)
    by_row true f =
        ap (λ x. get_or x (position d cols) (fresh d)) (ap (λ x. get_or (set t.rows q (set old (position c cols) e)) x []) (eqb-true r q f) ∙ get_or-set_same t.rows q (set old (position c cols) e) [] (ltb-true q n p₃.0))
        ∙ by_column (eqb d c) refl
        ∙ ap (λ x. cond (eqb d c) e (get_or (get_or t.rows x []) (position d cols) (fresh d))) (sym (eqb-true r q f))
    by_row false f = ap (λ x. get_or x (position d cols) (fresh d)) (get_or-set_other t.rows q r (set old (position c cols) e) [] (eqb-false r q f))

pub new_and_set : NewAndSet
new_and_set = record {
  new_within = λ letters n t e. let p = cond_some (new_fits letters n) (fresh_table letters n) t e in subst Within p.1 (made_within letters n p.0);
  set_within = λ t q c e u w h. let p = cond_some (set_fits t q c e) (with_entry t q c e) u h in subst Within p.1 (replaced_within t q c e w p.0);
  replaces = replaces;
}
