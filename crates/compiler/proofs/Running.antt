-- One word of a run, and its end.
use Rattle.std.proofs.Common.{◌≡◌, [], ◌∷◌, length, Some, None, Option, refl, ap, ◌∙◌, arith}
use Rattle.words.specs.declared.word.Word.{Word as Given}
use Rattle.words.specs.Bytes.{Text}
use Rattle.words.specs.Words.{Word}
use Rattle.words.specs.Reading.{Gives, word}
use Rattle.words.specs.Tokens.{kind}
use Rattle.events.specs.Descent.{Stack, edges, push, top, below, follow, pick, run, ends}
use Rattle.events.specs.Notes.{State, apply}
use Rattle.compiler.specs.declared.parser.Lexer.{Lexer}
use Rattle.compiler.specs.Reading.{source_of, rest, running, Came}
use Rattle.compiler.proofs.Stretches.{first_stretch}

-- a word decides on what is awaited
taken : (c d : Lexer) (w : Word) → rest c ≡ w ∷ rest d → source_of c ≡ source_of d
    → (k : Stack) (s : State) → running c k s ≡ follow apply w.place (pick (edges (top k)) (kind w.text) w.text) s (λ is t. running d (push is (below k)) t)
unfolding running
taken c d w e same k s =
    ap (run apply (length (source_of c)) k s) e
    ∙ ap (λ (source : Text). follow apply w.place (pick (edges (top k)) (kind w.text) w.text) s (λ is t. run apply (length source) (push is (below k)) t (rest d))) same

-- no word is left
ended : (c : Lexer) → rest c ≡ [] → (k : Stack) (s : State) → running c k s ≡ ends apply (length (source_of c)) k s
unfolding running
ended c e k s = rw e refl

-- what a reader's next word does
pub came : (r : Option Given) (c d : Lexer) → c.reader.source ≡ d.reader.source → Gives r c.reader d.reader → Came r c d
came (Some w) c d same e =
    let l = ap length e in
    let s = ap (λ x. x.now) same in
    ((omega arith, s), (taken c d (word w) e s, first_stretch c.reader (word w) (rest d) e, omega arith))
came None c d same e = let x = ap length e.0 in let y = ap length e.1 in ((omega arith, ap (λ x. x.now) same), ended c e.0)
