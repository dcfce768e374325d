-- What holds of every accepted source.
use Rattle.std.proofs.Common.{◌≡◌, ℕ, ◌≤◌, Bool, true, false, cond, ltb, List, [], ◌∷◌, length, get_or, Some, None, Ok, Option, sym, refl, ap, ◌∙◌, subst, arith}
use Rattle.grammar.specs.Tree.{Program}
use Rattle.grammar.specs.Automaton.{Reading, parsed, unexpected, too_deep, parse}
use Rattle.grammar.specs.Places.{texts}
use Rattle.meaning.specs.Codes.{position, columns}
use Rattle.meaning.specs.Blocks.{Compiled, compiled}
use Rattle.meaning.specs.declared.machines.Action.{Action}
use Rattle.meaning.specs.Rules.{Table, entry, fresh, or_this, by_blocks, by_table, translation}
use Rattle.meaning.specs.Tables.{EntryWithin, RowWithin, Within}
use Rattle.meaning.specs.Laws.{SmallWrite, WritesCodes}
use Rattle.std.proofs.lemmas.Bool.{ltb-true}
use Rattle.meaning.specs.Faults.{Violation, faults, lowest}
use Rattle.meaning.specs.declared.faults.Cause.{Cause}
use Rattle.meaning.specs.declared.faults.Cause.TheVariants.{Length, Byte, Word, Depth}
use Rattle.words.specs.Bytes.{Text, first_foreign}
use Rattle.words.specs.Words.{words}
use Rattle.meaning.specs.Outcome.{refused, place_in, byted, worded, ruled}
use Rattle.meaning.specs.Sources.{AcceptedSources}
use Rattle.meaning.proofs.Agree.{agreement, entry_same, rows_length}
use Rattle.meaning.proofs.Keeps.{keeps_tapes}
use Rattle.meaning.proofs.Names.{each_columns, each_member}
use Rattle.meaning.proofs.Tables.{each_get_or, position_below}
use Rattle.meaning.proofs.Complete.{round_trip}
use Rattle.meaning.proofs.Ranges.{translates_within}

no_fault : {A : Type 0} (c : Cause) (p : ℕ) (t : Program) → refused c p ≡ Ok t → A
no_fault c p t e = absurd cc

by_rules : (source : Text) (s t : Program) (fs : List Violation) → faults s ≡ fs → ruled source s (lowest fs) ≡ Ok t → faults t ≡ []
by_rules source s t [] f e = let same : s ≡ t = cc in ap faults (sym same) ∙ f
by_rules source s t (x ∷ xs) f e = no_fault _ _ t e

by_words : (source : Text) (t : Program) (r : Reading Program) → worded source r ≡ Ok t → faults t ≡ []
by_words source t (parsed s) e = by_rules source s t (faults s) refl e
by_words source t (unexpected i) e = no_fault Word (place_in source i) t e
by_words source t (too_deep i) e = no_fault Depth (place_in source i) t e

by_bytes : (source : Text) (t : Program) (o : Option ℕ) → byted source o ≡ Ok t → faults t ≡ []
by_bytes source t (Some p) e = no_fault Byte p t e
by_bytes source t None e = by_words source t (parse (texts (words source))) e

by_length : (source : Text) (t : Program) (b : Bool) → cond b (refused Length 60000) (byted source (first_foreign source)) ≡ Ok t → faults t ≡ []
by_length source t true e = no_fault Length 60000 t e
by_length source t false e = by_bytes source t (first_foreign source) e

table_writes : (t : Table) → Within t → WritesCodes (by_table t)
table_writes t w q c p m =
    let cols = columns t.letters in
    let n = length t.rows in
    let r : RowWithin cols n (get_or t.rows q []) = each_get_or (RowWithin cols n) t.rows q [] w.rows (ltb-true q n p) in
    let l = position_below c cols m in
    let e : EntryWithin cols n (entry t q c) = each_get_or (EntryWithin cols n) (get_or t.rows q []) (position c cols) (fresh c) r.each (let z = r.wide in omega arith) in
    each_member (λ x. x ≤ 36) (entry t q c).write cols (each_columns t.letters w.codes) e.writes

or_leaves : (c : ℕ) (o : Option ℕ) → SmallWrite (Some (or_this c o)) → SmallWrite o
or_leaves c None h = tt
or_leaves c (Some x) h = h

block_writes : (p : Compiled) → Within (translation p) → WritesCodes (by_blocks p)
block_writes p w q c l m =
    let s : length (translation p).rows ≡ length p.blocks = rows_length (columns p.letters) 0 p.blocks in
    let h = table_writes (translation p) w q c (ap (ltb q) s ∙ l) m in
    or_leaves c ((by_blocks p).action q c).write (subst (λ (d : Action). SmallWrite d.write) (entry_same p q c l m) h)

pub accepted_sources : AcceptedSources
accepted_sources source t e =
    let c = by_length source t (ltb 60000 (length source)) e in
    let p = compiled t in
    let w = translates_within t c in
    record {
      clean = c;
      agrees = agreement p;
      keeps_blocks = keeps_tapes (by_blocks p) (block_writes p w);
      keeps_table = keeps_tapes (by_table (translation p)) (table_writes (translation p) w);
      within = w;
      rounds = round_trip (translation p) w;
    }
