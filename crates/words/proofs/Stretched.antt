-- The words of a source are its marks and its longest stretches of parts.
use Rattle.std.proofs.Common.{◌≡◌, ℕ, ◌+◌, ◌-◌, ◌<◌, ◌≤◌, ◌≢◌, ◌⊎◌, List, [], ◌∷◌, length, get_or, take, drop, sym, refl, ap, ◌∙◌, subst, inl, inr, ⊎_elim, arith, below_more}
use Rattle.std.specs.List.{AllByRecursion}
use Rattle.std.proofs.lemmas.List.{length-take, length-drop}
use Rattle.std.proofs.lemmas.Bool.{cases_lt}
use Rattle.words.specs.declared.bytes.Class.{Class}
use Rattle.words.specs.declared.bytes.Class.TheVariants.{Part, Mark, Separator, Foreign}
use Rattle.words.specs.declared.reader.Condition.{Condition}
use Rattle.words.specs.declared.reader.Condition.TheVariants.{Between, Inside}
use Rattle.words.specs.Bytes.{Text, Holds, class}
use Rattle.words.specs.Words.{Word, cut, turn, last, scan, words}
use Rattle.words.specs.Stretches.{end, Covered, Stretch, Single, Longest, Apart}
use Rattle.words.proofs.Places.{start, begins}

-- a part or a mark, which some word has to cover
abbrev pub Spoken : Text → ℕ → Type 0
Spoken source i = Holds source i Part ⊎ Holds source i Mark

-- what is so of the words from a place on
pub record From (source : Text) (p : ℕ) (ws : List Word) : Type 0 where
  pub stretches : AllByRecursion (Stretch source) ws
  pub kinds : AllByRecursion (λ w. Single source w ⊎ Longest source w) ws
  pub apart : Apart p ws
  pub whole : (i : ℕ) → p ≤ i → Spoken source i → Covered ws i

-- a word that is being read began before this place
abbrev Begun : Condition → ℕ → Type 0
Begun Between p = Unit {0}
Begun (Inside q) p = q < p

-- what is so of a condition at a place: the word that is being read has only parts, and no part comes before it
record State (source : Text) (k : Condition) (p : ℕ) : Type 0 where
  begun : Begun k p
  parts : (i : ℕ) → start k p ≤ i → i < p → Holds source i Part
  border : (i : ℕ) → i + 1 ≡ start k p → Holds source i Part → Holds source (start k p) Part → ⊥

-- between words, behind a byte that is no part or before one
between_behind : (source : Text) (p : ℕ) → (Holds source p Part → ⊥) → State source Between (p + 1)
between_behind source p not = record {
  begun = tt;
  parts = λ i l h. absurd (omega arith);
  border = λ i e here next. not (let s : i ≡ p = omega arith in subst (λ j. Holds source j Part) s here);
}

between_before : (source : Text) (p : ℕ) → (Holds source p Part → ⊥) → State source Between p
between_before source p not = grind (arith, not)

module _ (source : Text) (q p : ℕ) (order : q ≤ p) (fits : p ≤ length source) where
  cut_length : length (cut source q p).text ≡ p - q
  cut_length = simp (length-take, length-drop) (omega arith)

  cut_end : end (cut source q p) ≡ p
  cut_end = omega (arith, cut_length)

  cut_stretch : Stretch source (cut source q p)
  cut_stretch = record { within = omega (arith, cut_end); text = ap (λ n. take n (drop q source)) (sym cut_length) }

  -- a word in front of those from the place where it ends
  in_front : (ws : List Word) → Single source (cut source q p) ⊎ Longest source (cut source q p) → From source p ws → From source q (cut source q p ∷ ws)
  in_front ws kind rest = record {
    stretches = (cut_stretch, rest.stretches);
    kinds = (kind, rest.kinds);
    apart = (omega arith, subst (λ e. Apart e ws) (sym cut_end) rest.apart);
    whole = λ i l y. grind (arith, cut_end, rest.whole i);
  }

-- the word that is being read ends at a place with no part
closed : (source : Text) (q p : ℕ) (ws : List Word) → State source (Inside q) p → (Holds source p Part → ⊥) → From source p ws → From source q (cut source q p ∷ ws)
closed source q p ws s not rest =
    let order : q ≤ p = omega (arith, s.begun) in
    let last-part = s.parts (p - 1) (omega (arith, s.begun)) (omega (arith, s.begun)) in
    let fits : p ≤ length source = omega (arith, last-part.0) in
    let ending = cut_end source q p order fits in
    in_front source q p order fits ws
    (inr (record {
      nonempty = omega (arith, cut_length source q p order fits, s.begun);
      parts = λ i h. s.parts i h.0 (omega (arith, ending, h.1));
      before = λ i e here. s.border i e here (s.parts q (omega arith) s.begun);
      behind = λ y. not (subst (λ j. Holds source j Part) ending y);
    }))
    rest

-- a mark, in front of the words behind it
marked : (source : Text) (p : ℕ) (ws : List Word) → Holds source p Mark → From source (p + 1) ws → From source p (cut source p (p + 1) ∷ ws)
marked source p ws here rest =
    let order : p ≤ p + 1 = omega arith in
    let fits : p + 1 ≤ length source = omega (arith, here.0) in
    in_front source p (p + 1) order fits ws (inl (record { one = omega (arith, cut_length source p (p + 1) order fits); mark = here })) rest

-- words from a later place on, where nothing has to be covered before it
later_apart : (p : ℕ) (ws : List Word) → Apart (p + 1) ws → Apart p ws
later_apart p [] h = tt
later_apart p (w ∷ ws) h = (omega (arith, h.0), h.1)

skipped : (source : Text) (p : ℕ) (ws : List Word) → (Spoken source p → ⊥) → From source (p + 1) ws → From source p ws
skipped source p ws not rest = record {
  stretches = rest.stretches;
  kinds = rest.kinds;
  apart = later_apart p ws rest.apart;
  whole = λ i l y. ⊎_elim (λ h. let s : i ≡ p = omega arith in absurd (not (subst (Spoken source) s y))) (λ h. rest.whole i h y) (cases_lt i (p + 1));
}

module _ (source : Text) (p : ℕ) (here : p < length source) (later : Condition → List Word) (rest : (k : Condition) → State source k (p + 1) → From source (start k (p + 1)) (later k)) where
  -- a byte that is neither a part nor a mark, read between words
  silent : (c : Class) → class (get_or source p 0) ≡ c → c ≢ Part → c ≢ Mark → From source p (later Between)
  silent c e no_part no_mark =
      let not_part : Holds source p Part → ⊥ = λ h. no_part (sym e ∙ h.1) in
      skipped source p (later Between) (⊎_elim not_part (λ h. no_mark (sym e ∙ h.1))) (rest Between (between_behind source p not_part))

  -- a byte of a known class, read between words
  from_between : (c : Class) → class (get_or source p 0) ≡ c → State source Between p → From source p (turn source Between p c later)
  from_between Part e s = rest (Inside p) (record {
    begun = omega arith;
    parts = λ i l h. let same : i ≡ p = omega arith in subst (λ j. Holds source j Part) (sym same) (here, e);
    border = s.border;
  })
  from_between Mark e s = marked source p (later Between) (here, e) (rest Between (between_behind source p (λ h. let part = h.1 in cc)))
  from_between Separator e s = silent Separator e (λ same. cc) (λ same. cc)
  from_between Foreign e s = silent Foreign e (λ same. cc) (λ same. cc)

  -- a byte that is no part ends a word, and is read as between words
  ends_word : (q : ℕ) (c : Class) → class (get_or source p 0) ≡ c → c ≢ Part → State source (Inside q) p → From source q (cut source q p ∷ turn source Between p c later)
  ends_word q c e no_part s =
      let not : Holds source p Part → ⊥ = λ h. no_part (sym e ∙ h.1) in
      closed source q p (turn source Between p c later) s not (from_between c e (between_before source p not))

  -- a byte of a known class, read inside a word
  from_inside : (q : ℕ) (c : Class) → class (get_or source p 0) ≡ c → State source (Inside q) p → From source q (turn source (Inside q) p c later)
  from_inside q Part e s = rest (Inside q) (record {
    begun = omega (arith, s.begun);
    parts = λ i l h. below_more (λ j. q ≤ j → Holds source j Part) p (λ j h l. s.parts j l h) (λ l. (here, e)) i h l;
    border = s.border;
  })
  from_inside q Mark e s = ends_word q Mark e (λ same. cc) s
  from_inside q Separator e s = ends_word q Separator e (λ same. cc) s
  from_inside q Foreign e s = ends_word q Foreign e (λ same. cc) s

  -- a byte of a known class
  from_byte : (k : Condition) (c : Class) → class (get_or source p 0) ≡ c → State source k p → From source (start k p) (turn source k p c later)
  from_byte Between c e s = from_between c e s
  from_byte (Inside q) c e s = from_inside q c e s

-- the end of a source
nothing : (source : Text) (p : ℕ) → length source ≤ p → From source p []
nothing source p h = grind arith

at_end : (source : Text) (k : Condition) (p : ℕ) → length source ≤ p → State source k p → From source (start k p) (last source k p)
at_end source Between p h s = nothing source p h
at_end source (Inside q) p h s = closed source q p [] s (λ x. omega (arith, x.0)) (nothing source p h)

-- the rest of a source, read in a condition
read : (source rest : Text) (k : Condition) (p : ℕ) → drop p source ≡ rest → State source k p → From source (start k p) (scan source k p rest)
read source [] k p e s = at_end source k p (omega (arith, length-drop p source, ap length e)) s
read source (b ∷ bs) k p e s =
    let at = begins source p b bs e in
    from_byte source p at.0 (λ j. scan source j (p + 1) bs) (λ j t. read source bs j (p + 1) at.2 t) k (class b) (ap class at.1) s

-- the words of a source
pub stretched : (source : Text) → From source 0 (words source)
stretched source = read source source Between 0 refl (grind arith)
