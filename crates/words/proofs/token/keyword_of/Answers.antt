use Rattle.std.proofs.Common.{◌≡◌, length, Some, sym, ap, ◌∙◌, arith, rules}
use Rattle.std.proofs.lemmas.Slice.Eq.{HasBytesAt, text_from_reads}
use Rattle.words.specs.declared.token.Keyword.{Keyword}
use Rattle.words.specs.declared.token.Keyword.TheVariants.{Alphabet, Module, Changeto, Accept, Reject}
use Rattle.words.specs.Bytes.{Text}
use Rattle.words.specs.Tokens.{keyword_text, keyword_in}
use Rattle.words.proofs.OneKind.{of_keyword}
use Rattle.words.proofs.token.keyword_of.Goals as goal

-- a text that was read byte by byte as a keyword is written
read : (w : Text) (k : Keyword) → length w ≡ length (keyword_text k) → HasBytesAt w 0 (keyword_text k) → Some k ≡ keyword_in w
read w k n bytes = sym (ap keyword_in (text_from_reads w (keyword_text k) n bytes) ∙ (of_keyword k).0)

pub returns-in-alphabet : goal.returns-in-alphabet
returns-in-alphabet c = read c.args.text.now Alphabet (omega arith) (search rules)

pub returns-in-module : goal.returns-in-module
returns-in-module c = read c.args.text.now Module (omega arith) (search rules)

pub returns-in-changeto : goal.returns-in-changeto
returns-in-changeto c = read c.args.text.now Changeto (omega arith) (search rules)

pub returns-in-accept : goal.returns-in-accept
returns-in-accept c = read c.args.text.now Accept (omega arith) (search rules)

pub returns-in-reject : goal.returns-in-reject
returns-in-reject c = read c.args.text.now Reject (omega arith) (search rules)
