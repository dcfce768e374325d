-- Sources and tapes at the border.
use Rattle.std.specs.Prelude.{◌≡◌, ℕ, zero, suc, List, [], ◌∷◌, ◌++◌, Some, None, Ok, Err, codes, Option, Result}
use Rattle.tape.specs.declared.kinds.Direction.{Direction}
use Rattle.tape.specs.declared.kinds.Direction.TheVariants.{Left, Right}
use Rattle.tape.specs.Meaning.{Meaning}
use Rattle.words.specs.Bytes.{Text}
use Rattle.grammar.specs.Tree.{Program}
use Rattle.meaning.specs.declared.machines.Next.{Next}
use Rattle.meaning.specs.declared.machines.Next.TheVariants.{To, Accept, Reject}
use Rattle.meaning.specs.declared.machines.Entry.{Entry}
use Rattle.meaning.specs.declared.refusals.Refusal.TheVariants.{Edge}
use Rattle.meaning.specs.declared.calls.Status.TheVariants.{Accepted}
use Rattle.meaning.specs.declared.calls.Ending.{Ending}
use Rattle.meaning.specs.declared.faults.Cause.TheVariants.{Byte, Word, Depth, Alphabet, ModuleName, Goto, Letter, Repeated, Missing, Limit}
use Rattle.meaning.specs.declared.faults.Fault.{Fault}
use Rattle.meaning.specs.Blocks.{compiled}
use Rattle.meaning.specs.Rules.{Table, by_blocks, translation}
use Rattle.meaning.specs.Runs.{Went, go_of, begun}
use Rattle.meaning.specs.Outcome.{refused, outcome}
use Rattle.meaning.specs.Print.{printed}
use Rattle.meaning.specs.Text.{text}

-- the start of a source with one letter and one module
abbrev pub S : Text
S = codes "alphabet={a}module m"

-- a source with a while, a move before a changeto, and no flow after it
abbrev pub E : Text
E = codes "alphabet = {a, b}\nmodule seek {\nwhile a { move right }\nif b { changeto a move left accept }\nif blank { move left changeto b }\n}\n"

-- the table of an accepted source
abbrev pub table_of : Result Program Fault → Option Table
table_of (Ok t) = Some (translation (compiled t))
table_of (Err f) = None

-- the table of its table's program
abbrev pub reprinted : Result Program Fault → Option Table
reprinted (Ok t) = Some (translation (compiled (printed (translation (compiled t)))))
reprinted (Err f) = None

-- how a go of n steps on a tape went
abbrev pub gone : Result Program Fault → ℕ → Meaning → Option Went
gone (Ok t) n tape = Some (go_of (by_blocks (compiled t)) n (begun tape))
gone (Err f) n tape = None

-- an entry
abbrev pub does : ℕ → Direction → Next → Entry
does w d n = record { write = w; direction = d; next = n }

-- the table of E
abbrev pub ETable : Table
ETable = record {
  letters = 1 ∷ 2 ∷ [];
  rows =
      (does 1 Right (To 0) ∷ does 1 Left Accept ∷ does 0 Left (To 1) ∷ [])
      ∷ (does 2 Left Reject ∷ does 2 Left Reject ∷ does 2 Left Reject ∷ []) ∷ [];
}

-- a tape with these cells
abbrev pub tape_of : List ℕ → ℕ → Meaning
tape_of cs h = record { capacity = 256; cells = cs; head = h }

-- these bytes n times
abbrev pub times : ℕ → Text → Text
times zero bs = []
times (suc n) bs = bs ++ times n bs

-- seven letters and n blocks
abbrev pub seven : ℕ → Text
seven n = codes "alphabet={a,b,c,d,e,f,g}module m{" ++ (times n (codes "move left ") ++ codes "}")

-- all letters and n blocks
abbrev pub all_letters : ℕ → Text
all_letters n = codes "alphabet={a,b,c,d,e,f,g,h,i,j,k,l,m,n,o,p,q,r,s,t,u,v,w,x,y,z,0,1,2,3,4,5,6,7,8,9}module m{" ++ (times n (codes "move left ") ++ codes "}")

-- a body with cases inside cases to the depth n
abbrev pub nested_cases : ℕ → Text
nested_cases zero = codes "accept"
nested_cases (suc n) = codes "move left if a{" ++ (nested_cases n ++ codes "}if blank{accept}")

-- the source is accepted
abbrev pub Passes : Result Program Fault → Type 0
Passes (Ok t) = Unit {0}
Passes (Err f) = ⊥

-- all cases at the border
pub record Borders : Type 0 where
  pub EReads : table_of (outcome E) ≡ Some ETable
  pub EAgain : reprinted (outcome E) ≡ Some ETable
  pub EText : text ETable ≡ codes "alphabet = {a, b}\nmodule sa {\nwhile a {\nchangeto a\nmove right\n}\nif b {\nchangeto a\nmove left\naccept\n}\nif blank {\nchangeto blank\nmove left\ngoto sb\n}\n}\nmodule sb {\nif a {\nchangeto b\nmove left\nreject\n}\nif b {\nchangeto b\nmove left\nreject\n}\nif blank {\nchangeto b\nmove left\nreject\n}\n}\n"
  -- blocks: 0 the switch, 1 its inner switch, 2 what follows the move in the inner case, 3 the other module
  pub nested : table_of (outcome (S ++ codes "{if a{move right if a{move left move right}if blank{goto n}}if blank{accept}}module n{changeto a}")) ≡ Some (record {
    letters = 1 ∷ [];
    rows =
        (does 1 Right (To 1) ∷ does 0 Left Accept ∷ [])
        ∷ (does 1 Left (To 2) ∷ does 0 Left (To 3) ∷ [])
        ∷ (does 1 Right Reject ∷ does 0 Right Reject ∷ [])
        ∷ (does 1 Left Reject ∷ does 1 Left Reject ∷ []) ∷ [];
  })
  pub accept_alone : table_of (outcome (S ++ codes "{accept}")) ≡ Some (record { letters = 1 ∷ []; rows = (does 1 Left Accept ∷ does 0 Left Accept ∷ []) ∷ [] })
  pub empty : outcome [] ≡ refused Word 0
  pub no_module : outcome (codes "alphabet={a}") ≡ refused Word 12
  pub while_accept : outcome (S ++ codes "{while a{accept}") ≡ refused Word 29
  pub case_first : outcome (S ++ codes "{if a{if a{accept}}}") ≡ refused Word 26
  pub quoted : outcome (codes "alphabet={\"a\"}") ≡ refused Byte 10
  pub foreign : outcome (S ++ codes "{goto n}#") ≡ refused Byte 28
  pub no_name : outcome (S ++ codes "{goto n}") ≡ refused Goto 26
  pub letter_again : outcome (codes "alphabet={a,a}module m{accept}") ≡ refused Alphabet 12
  pub named_accept : outcome (codes "alphabet={a}module accept{reject}") ≡ refused ModuleName 19
  pub no_letter : outcome (S ++ codes "{changeto b}") ≡ refused Letter 30
  pub again : outcome (S ++ codes "{if a,a{accept}if blank{accept}}") ≡ refused Repeated 26
  pub missing : outcome (S ++ codes "{if a{accept}}") ≡ refused Missing 21
  -- seven letters pass with 128 blocks, all 36 with 27
  pub seven_128 : Passes (outcome (seven 128))
  pub seven_129 : outcome (seven 129) ≡ refused Limit 1313
  pub all_27 : Passes (outcome (all_letters 27))
  pub all_28 : outcome (all_letters 28) ≡ refused Limit 361
  -- the depth 16 passes
  pub sixteen : Passes (outcome (S ++ codes "{" ++ nested_cases 16 ++ codes "}"))
  pub seventeen : outcome (S ++ codes "{" ++ nested_cases 17 ++ codes "}") ≡ refused Depth 271
  -- E on two cells, and at the left end of one
  pub ERuns : gone (outcome E) 9 (tape_of (1 ∷ 2 ∷ []) 0) ≡ Some (record { count = 2; ending = Ending.Accepted; config = record { tape = tape_of (1 ∷ 1 ∷ []) 0; number = 0; status = Accepted; total = 2 } })
  pub EEdge : gone (outcome E) 9 (tape_of (2 ∷ []) 0) ≡ Some (record { count = 0; ending = Ending.Refused Edge; config = begun (tape_of (2 ∷ []) 0) })
