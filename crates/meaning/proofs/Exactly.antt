-- Exactly the right outcome of a source is told.
use Rattle.std.proofs.Common.{◌≡◌, ℕ, ◌<◌, ◌≤◌, Bool, true, false, cond, ltb, List, [], ◌∷◌, length, Some, None, Ok, Err, Option, Result, sym, refl, ap, ◌∙◌, subst, inl, inr, arith}
use Rattle.std.proofs.lemmas.Bool.{ltb-true, ltb-false, lt-ltb, le-ltb}
use Rattle.words.specs.Bytes.{Text, first_foreign, FirstForeign}
use Rattle.words.specs.Words.{words}
use Rattle.words.proofs.Foreign.{first}
use Rattle.grammar.specs.Tree.{Program}
use Rattle.grammar.specs.Automaton.{Reading, parsed, unexpected, too_deep, parse}
use Rattle.grammar.specs.Places.{texts}
use Rattle.grammar.specs.Laws.{IsParse}
use Rattle.grammar.proofs.Laws.{reads_programs, finds_faults, finds_depth}
use Rattle.meaning.specs.declared.faults.Cause.{Cause}
use Rattle.meaning.specs.declared.faults.Cause.TheVariants.{Length}
use Rattle.meaning.specs.declared.faults.Fault.{Fault}
use Rattle.meaning.specs.Numbers.{cause_number}
use Rattle.meaning.specs.Faults.{Violation, lower, lowest, Among, Earlier, NoneBefore, IsLowest, faults, first_fault}
use Rattle.meaning.specs.Outcome.{refused, ruled, worded, byted, outcome}
use Rattle.meaning.specs.Exact.{Readable, Refused, too_long, foreign, broken, Means, Exact}
use Rattle.meaning.proofs.Lowest.{tells_lowest}
use Rattle.meaning.proofs.RulesAre.{rules_are}

-- the first foreign byte
none_first : (source : Text) → FirstForeign source None → first_foreign source ≡ None
none_first source h = by (first_foreign source) (first source)
  where
    by : (o : Option ℕ) → FirstForeign source o → o ≡ None
    by None g = refl
    by (Some p) g = absurd (h p g.0)

some_first : (source : Text) (p : ℕ) → FirstForeign source (Some p) → first_foreign source ≡ Some p
some_first source p h = by (first_foreign source) (first source)
  where
    by : (o : Option ℕ) → FirstForeign source o → o ≡ Some p
    by None g = absurd (g p h.0)
    by (Some q) g = ap Some (tie (ltb p q) (ltb q p) refl refl)
      where
        tie : (v w : Bool) → ltb p q ≡ v → ltb q p ≡ w → q ≡ p
        tie true w e f = absurd (g.1 p (ltb-true p q e) h.0)
        tie false true e f = absurd (h.1 q (ltb-true q p f) g.0)
        tie false false e f = let x = ltb-false p q e in let y = ltb-false q p f in omega arith

-- a cause is told by its number
one_cause : (c d : Cause) → cause_number c ≡ cause_number d → c ≡ d
one_cause c d e = grind (arith, e)

-- there is one lowest violation
not_earlier : (x f : Violation) (fs : List Violation) → Among x fs → NoneBefore f fs → ¬ Earlier x f
not_earlier x f [] m n = absurd m
not_earlier x f (g ∷ gs) (inl e) n = λ l. n.0 (subst (λ (y : Violation). Earlier y f) e l)
not_earlier x f (g ∷ gs) (inr m) n = not_earlier x f gs m n.1

same_rank : (f x : Violation) → ¬ Earlier x f → ¬ Earlier f x → f ≡ x
same_rank f x a b = λ j. record { index = same_index j; cause = same_cause j }
  where
    order : (m n : ℕ) → (m < n → ⊥) → (n < m → ⊥) → m ≡ n
    order m n p q = by (ltb m n) (ltb n m) refl refl
      where
        by : (v w : Bool) → ltb m n ≡ v → ltb n m ≡ w → m ≡ n
        by true w e g = absurd (p (ltb-true m n e))
        by false true e g = absurd (q (ltb-true n m g))
        by false false e g = let y = ltb-false m n e in let z = ltb-false n m g in omega arith

    same_index : f.index ≡ x.index
    same_index = order f.index x.index (λ l. b (inl l)) (λ l. a (inl l))

    same_number : cause_number f.cause ≡ cause_number x.cause
    same_number = order (cause_number f.cause) (cause_number x.cause) (λ l. b (inr (same_index, l))) (λ l. a (inr (sym same_index, l)))

    same_cause : f.cause ≡ x.cause
    same_cause = one_cause f.cause x.cause same_number

only_lowest : (f : Violation) (fs : List Violation) → IsLowest f fs → lowest fs ≡ Some f
only_lowest f [] h = absurd h.among
only_lowest f (g ∷ gs) h =
    let x = lower g (lowest gs) in
    let i = tells_lowest (g ∷ gs) x refl in
    ap Some (sym (same_rank f x (not_earlier x f (g ∷ gs) i.among h.no_earlier) (not_earlier f x (g ∷ gs) h.among i.no_earlier)))

-- what is told holds
module _ (source : Text) where
  by_rules : (t : Program) (fs : List Violation) → faults t ≡ fs → Readable source → IsParse (texts (words source)) t → Means source (ruled source t (lowest fs))
  by_rules t [] e r p = record { readable = r; parse = p; rules = (rules_are.program t).clean.0 e }
  by_rules t (g ∷ gs) e r p = broken t (lower g (lowest gs)) r p (subst (IsLowest (lower g (lowest gs))) (sym e) (tells_lowest (g ∷ gs) (lower g (lowest gs)) refl)) refl

  by_words : (x : Reading Program) → parse (texts (words source)) ≡ x → Readable source → Means source (worded source x)
  by_words (parsed t) e r = by_rules t (faults t) refl r ((reads_programs (texts (words source)) t).0 e)
  by_words (unexpected i) e r = Refused.unexpected i r ((finds_faults (texts (words source)) i).0 e) refl
  by_words (too_deep i) e r = Refused.too_deep i r ((finds_depth (texts (words source)) i).0 e) refl

  by_bytes : (o : Option ℕ) → FirstForeign source o → length source ≤ 60000 → Means source (byted source o)
  by_bytes (Some p) h l = foreign p l h refl
  by_bytes None h l = by_words (parse (texts (words source))) refl (record { short = l; bytes = h })

  by_length : (b : Bool) → ltb 60000 (length source) ≡ b → Means source (cond b (refused Length 60000) (byted source (first_foreign source)))
  by_length true e = too_long (ltb-true 60000 (length source) e) refl
  by_length false e = by_bytes (first_foreign source) (first source) (ltb-false 60000 (length source) e)

  means : Means source (outcome source)
  means = by_length (ltb 60000 (length source)) refl

  -- what holds is told
  at_bytes : length source ≤ 60000 → outcome source ≡ byted source (first_foreign source)
  at_bytes l = ap (λ b. cond b (refused Length 60000) (byted source (first_foreign source))) (le-ltb 60000 (length source) l)

  at_words : Readable source → outcome source ≡ worded source (parse (texts (words source)))
  at_words r = at_bytes r.short ∙ ap (byted source) (none_first source r.bytes)

  at_rules : (t : Program) → Readable source → IsParse (texts (words source)) t → outcome source ≡ ruled source t (first_fault t)
  at_rules t r p = at_words r ∙ ap (worded source) ((reads_programs (texts (words source)) t).1 p)

  told : (r : Result Program Fault) → Means source r → outcome source ≡ r
  told (Ok t) h = at_rules t h.readable h.parse ∙ ap (λ fs. ruled source t (lowest fs)) ((rules_are.program t).clean.1 h.rules)
  told (Err f) (too_long l e) = ap (λ b. cond b (refused Length 60000) (byted source (first_foreign source))) (lt-ltb 60000 (length source) l) ∙ ap Err (sym e)
  told (Err f) (foreign p l h e) = at_bytes l ∙ ap (byted source) (some_first source p h) ∙ ap Err (sym e)
  told (Err f) (Refused.unexpected i r h e) = at_words r ∙ ap (worded source) ((finds_faults (texts (words source)) i).1 h) ∙ ap Err (sym e)
  told (Err f) (Refused.too_deep i r h e) = at_words r ∙ ap (worded source) ((finds_depth (texts (words source)) i).1 h) ∙ ap Err (sym e)
  told (Err f) (broken t v r p h e) = at_rules t r p ∙ ap (ruled source t) (only_lowest v (faults t) h) ∙ ap Err (sym e)

pub exact : Exact
exact source r = (λ e. subst (Means source) e (means source), told source r)
