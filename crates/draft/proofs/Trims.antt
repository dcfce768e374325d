-- Blocks may be forgotten once a fault is known.
use Rattle.std.proofs.Common.{◌≡◌, ℕ, suc, Bool, true, false, cond, List, [], ◌∷◌, ◌++◌, Some, None, Option, refl}
use Rattle.words.specs.Bytes.{Text}
use Rattle.words.specs.Vocabulary.{ACCEPT, REJECT}
use Rattle.meaning.specs.declared.faults.Cause.{Cause}
use Rattle.meaning.specs.declared.faults.Cause.TheVariants.{ModuleName, Limit}
use Rattle.meaning.specs.Blocks.{Block}
use Rattle.meaning.specs.Faults.{Violation, too_many, named}
use Rattle.draft.specs.Draft.{Entry, Pending, Draft, met, names_of, kept}
use Rattle.draft.specs.Building.{filled}
use Rattle.draft.specs.Laws.{Trims}

-- what is done to blocks that are dropped does not matter
forgets : (b : Bool) (i : ℕ) (n : Cause) (w : Option Violation) (f : List (Block Text) → List (Block Text)) (bs : List (Block Text)) → kept (met b i n w) (f (kept w bs)) ≡ kept (met b i n w) (f bs)
forgets b i n None f bs = refl
forgets true i n (Some g) f bs = refl
forgets false i n (Some g) f bs = refl

-- a draft by its parts
abbrev at : Draft → List Entry → List Pending → ℕ → Option Violation → List (Block Text) → Draft
at x es gs c w bs = record { names = es; gotos = gs; count = c; blocks = bs; violation = w }

pub trims : Trims
trims = record {
  begins = λ a i k x. let over = too_many (suc x.count) a.width in
      λ j. at x x.names x.gotos (suc x.count) (met over i Limit x.violation) (forgets over i Limit x.violation (λ bs. cond over bs (bs ++ (record { index = i; kind = k } ∷ []))) x.blocks j);
  fills = λ o b x j. at x x.names x.gotos x.count x.violation (forgets false 0 Limit x.violation (filled o b) x.blocks j);
  names = λ w i x. let twice = named w (ACCEPT ∷ REJECT ∷ names_of x.names) in
      λ j. at x (x.names ++ (record { name = w; first = x.count } ∷ [])) x.gotos x.count (met twice i ModuleName x.violation) (forgets twice i ModuleName x.violation (λ bs. bs) x.blocks j);
  gotos = λ w i x j. at x x.names (x.gotos ++ (record { name = w; index = i } ∷ [])) x.count x.violation (forgets false 0 Limit x.violation (λ bs. bs) x.blocks j);
  flags = λ b i n x j. at x x.names x.gotos x.count (met b i n x.violation) (forgets b i n x.violation (λ bs. bs) x.blocks j);
  tells = λ x. refl;
}
