use Rattle.std.proofs.Common.{◌≡◌, [], ◌∷◌, length, sym, ap, arith, rules}
use Rattle.std.proofs.lemmas.Slice.Eq.{HasBytesAt, text_from_reads}
use Rattle.words.specs.Bytes.{Text}
use Rattle.words.specs.Vocabulary.{ACCEPT, REJECT}
use Rattle.meaning.specs.Faults.{named}
use Rattle.notes.proofs.names.is_reserved.Goals as goal

-- a text that was read byte by byte as one of the two
read : (w t : Text) → length w ≡ length t → HasBytesAt w 0 t → named t (ACCEPT ∷ REJECT ∷ []) ≡ named w (ACCEPT ∷ REJECT ∷ [])
read w t n bytes = sym (ap (λ v. named v (ACCEPT ∷ REJECT ∷ [])) (text_from_reads w t n bytes))

pub returns-in-accept : goal.returns-in-accept
returns-in-accept c = read c.args.name.now ACCEPT (omega arith) (search rules)

pub returns-in-accept-2 : goal.returns-in-accept-2
returns-in-accept-2 c = read c.args.name.now REJECT (omega arith) (search rules)
