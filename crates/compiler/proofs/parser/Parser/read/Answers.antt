use Rattle.std.proofs.Common.{sym, rules}
use Rattle.program.specs.Built.{compiled_if}
use Rattle.notes.specs.Noted.{notes_of}
use Rattle.notes.proofs.Stored.{noted_stored}
use Rattle.compiler.specs.Reading.{source_of}
use Rattle.compiler.proofs.Descended.{faulty, noted}
use Rattle.compiler.proofs.parser.Parser.read.Goals as goal

pub returns-in_err-program : goal.returns-in_err-program
returns-in_err-program c = let h = faulty c.args.self.now c.program.new.self c.requires _ c.in_err-program.ensures in search rules

pub returns-in-Some : goal.returns-in-Some
returns-in-Some c = let h = (noted c.args.self.now c.program.new.self c.requires c.in_ok-program.ensures).answers in search rules

pub unwrap-requires : goal.unwrap-requires
unwrap-requires c =
    let h = noted c.args.self.now c.program.new.self c.requires c.in_ok-program.ensures in
    let s = noted_stored (source_of c.args.self.now.lexer) (notes_of c.program.new.self.source.now c.program.new.self.notes) h (sym c.in-None.ensures) (compiled_if c.program-in-None.result) c.program-in-None.ensures in
    let e = s.2 in
    search rules

pub returns-in-None : goal.returns-in-None
returns-in-None c =
    let h = noted c.args.self.now c.program.new.self c.requires c.in_ok-program.ensures in
    let s = noted_stored (source_of c.args.self.now.lexer) (notes_of c.program.new.self.source.now c.program.new.self.notes) h (sym c.in-None.ensures) (compiled_if c.program-in-None.result) c.program-in-None.ensures in
    let e = s.2 in
    (s.0, s.1, search rules)
