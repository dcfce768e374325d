-- The words that a reader gives are stretches of its source.
use Rattle.std.proofs.Common.{◌≡◌, ℕ, zero, suc, ◌+◌, ◌-◌, List, [], ◌∷◌, length, take, drop, refl, ap, subst}
use Rattle.std.specs.List.{AllByRecursion}
use Rattle.words.specs.declared.bytes.Class.{Class}
use Rattle.words.specs.declared.bytes.Class.TheVariants.{Part, Mark, Separator, Foreign}
use Rattle.words.specs.declared.reader.Condition.{Condition}
use Rattle.words.specs.declared.reader.Condition.TheVariants.{Between, Inside}
use Rattle.words.specs.declared.reader.Reader.{Reader}
use Rattle.words.specs.Bytes.{Text, class}
use Rattle.words.specs.Words.{Word, cut, turn, scan}
use Rattle.words.specs.Reading.{left}

-- a word is a stretch of the source
abbrev pub Stretch : Text → Word → Type 0
Stretch source w = w.text ≡ take (length w.text) (drop w.place source)

take_length : (n : ℕ) (xs : Text) → take n xs ≡ take (length (take n xs)) xs
take_length zero [] = refl
take_length zero (x ∷ xs) = refl
take_length (suc n) [] = refl
take_length (suc n) (x ∷ xs) = ap (λ l. x ∷ l) (take_length n xs)

cut_stretch : (source : Text) (q p : ℕ) → Stretch source (cut source q p)
cut_stretch source q p = take_length (p - q) (drop q source)

turn_stretches : (source : Text) (k : Condition) (p : ℕ) (b : Class) (later : Condition → List Word) → ((j : Condition) → AllByRecursion (Stretch source) (later j)) → AllByRecursion (Stretch source) (turn source k p b later)
turn_stretches source Between p Part later h = h (Inside p)
turn_stretches source Between p Mark later h = (cut_stretch source p (p + 1), h Between)
turn_stretches source Between p Separator later h = h Between
turn_stretches source Between p Foreign later h = h Between
turn_stretches source (Inside q) p Part later h = h (Inside q)
turn_stretches source (Inside q) p Mark later h = (cut_stretch source q p, (cut_stretch source p (p + 1), h Between))
turn_stretches source (Inside q) p Separator later h = (cut_stretch source q p, h Between)
turn_stretches source (Inside q) p Foreign later h = (cut_stretch source q p, h Between)

scan_stretches : (source rest : Text) (k : Condition) (p : ℕ) → AllByRecursion (Stretch source) (scan source k p rest)
scan_stretches source [] Between p = tt
scan_stretches source [] (Inside q) p = (cut_stretch source q p, tt)
scan_stretches source (b ∷ rest) k p = turn_stretches source k p (class b) (λ j. scan source j (p + 1) rest) (λ j. scan_stretches source rest j (p + 1))

-- so is the first word that is left
pub first_stretch : (r : Reader) (w : Word) (ws : List Word) → left r ≡ w ∷ ws → Stretch r.source.now w
first_stretch r w ws e =
    let P : List Word → Type 0 = AllByRecursion (Stretch r.source.now) in
    (subst P e (scan_stretches r.source.now (drop r.at r.source.now) Between r.at)).0
