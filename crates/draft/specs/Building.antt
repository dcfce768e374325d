-- The basic block under construction while a body is read, and how it comes into a draft.
use Rattle.std.specs.Prelude.{ℕ, zero, suc, cond, List, [], ◌∷◌, ◌++◌, Some, None, Option, nat_lt}
use Rattle.tape.specs.declared.kinds.Direction.{Direction}
use Rattle.words.specs.Bytes.{Text}
use Rattle.grammar.specs.Tree.{Act, change, move}
use Rattle.meaning.specs.Codes.{code, meant}
use Rattle.meaning.specs.Blocks.{Then, end, next, Basic, Kind, basic, switch, Block, lead, rank}
use Rattle.draft.specs.Draft.{Letters, Draft, begun}

-- blocks with the kind of the one numbered q changed
abbrev pub altered : List (Block Text) → ℕ → (Kind Text → Kind Text) → List (Block Text)
altered [] q f = []
altered (b ∷ bs) zero f = record { index = b.index; kind = f b.kind } ∷ bs
altered (b ∷ bs) (suc q) f = b ∷ altered bs q f

-- whose basic block it is: that of a number, or that of these codes in the switch of a number
pub data Owner : Type 0 where
  numbered : ℕ → Owner
  arm_of : ℕ → List ℕ → Owner

-- a switch in which these codes, too, lead to b
abbrev pub with_arms : List ℕ → Basic Text → Kind Text → Kind Text
with_arms cs b (basic c) = basic c
with_arms cs b (switch arms) = switch (arms ++ lead cs b)

-- blocks in which the owner has its basic block
abbrev pub filled : Owner → Basic Text → List (Block Text) → List (Block Text)
filled (numbered q) b bs = altered bs q (λ k. basic b)
filled (arm_of q cs) b bs = altered bs q (with_arms cs b)

-- a finished basic block
abbrev pub basic_noted : Owner → Basic Text → Draft → Draft
basic_noted o b x = record { names = x.names; gotos = x.gotos; count = x.count; blocks = filled o b x.blocks; violation = x.violation }

-- the basic block under construction: its owner, and what it writes and how it moves so far
pub record Current : Type 0 where
  pub owner : Owner
  pub write : Option ℕ
  pub move : Option Direction

-- with no command yet
abbrev pub fresh : Owner → Current
fresh o = record { owner = o; write = None; move = None }

-- the rank of its last command, or 0
abbrev pub last_rank : Current → ℕ
last_rank c = elim c.move [ Some d ↦ 2 | None ↦ elim c.write [ Some s ↦ 1 | None ↦ 0 ] ]

-- with one more command
abbrev pub with_act : Act → Current → Current
with_act (change s) c = record { owner = c.owner; write = Some (code s); move = c.move }
with_act (move d) c = record { owner = c.owner; write = c.write; move = Some (meant d) }

-- finished, with what comes after it
abbrev pub basic_from : Current → Then Text → Basic Text
basic_from c t = record { write = c.write; move = c.move; then = t }

-- the basic block under construction is finished
abbrev pub closed : Current → Then Text → Draft → Draft
closed c t x = basic_noted c.owner (basic_from c t) x

-- what stands for a numbered basic block until it is finished
abbrev pub unfilled : Kind Text
unfilled = basic (record { write = None; move = None; then = end })

-- a draft, and the basic block under construction
pub record Progress : Type 0 where
  pub current : Current
  pub draft : Draft

-- the next block of a body begins at the word i
abbrev pub next_begun : Letters → Current → ℕ → Draft → Progress
next_begun a c i x = record { current = fresh (numbered x.count); draft = begun a i unfilled (closed c (next x.count) x) }

-- the block that a command at the word i belongs to: a new one, unless the command's rank is higher than that of the last
abbrev pub command_noted : Letters → Act → Current → ℕ → Draft → Progress
command_noted a act c i x = cond (nat_lt (last_rank c) (rank act)) (record { current = c; draft = x }) (next_begun a c i x)
