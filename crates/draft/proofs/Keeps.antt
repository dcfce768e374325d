-- The letters and blocks of a faultless draft are the program's.
use Rattle.std.proofs.Common.{◌≡◌, ℕ, zero, suc, ◌+◌, Bool, true, false, cond, ◌||◌, eqb, ltb, List, [], ◌∷◌, ◌++◌, length, None, sym, refl, ap, ◌∙◌, subst, ap₂, append_assoc, append-nil, arith, length-append}
use mathlib.Core.Path.{fun_ext}
use mathlib.Core.Option.{Option as Maybe, none, some}
use Rattle.words.specs.Bytes.{Text}
use Rattle.words.specs.Vocabulary.{Symbol, same}
use Rattle.grammar.specs.Tree.{Direction, Act, change, move, Flow, accept, reject, goto, Once, once_change, once_move, Body, act_cases, acts_flow, Case, if, while, Cases, no_more, more, Inside, cases, body, Module, module', Program, program}
use Rattle.grammar.specs.Render.{acts_words, symbols_words, case_words, module_words}
use Rattle.meaning.specs.declared.faults.Cause.{Cause}
use Rattle.meaning.specs.declared.faults.Cause.TheVariants.{Alphabet, Letter, Repeated, Limit}
use Rattle.meaning.specs.Codes.{member, columns}
use Rattle.meaning.specs.Blocks.{rank, kinds, first_rank, written_move, Part, before, parts, Block, Basic, basic, switch, first_of, first_basic, then_of, some_part, flow_then, case_basic, arms, lead, written_code, Kind, Then, settled, start_in, start, blocks, part_length, part_blocks, later_part_blocks, rest_blocks, case_blocks, cases_blocks, switch_blocks, inside_blocks, modules_blocks, case_codes, symbols_codes, some_case, once_basic, next, alphabet, modules_at, drafts}
use Rattle.meaning.specs.Faults.{Violation, flag, Known, alphabet_faults, names_faults, modules_faults, too_many, limit_faults, known, faults, lowest}
use Rattle.draft.specs.Draft.{Entry, Letters, Draft, flagged, no_letters, letter_noted, empty_draft, is_column, name_noted, Seen, none_seen, seen_too, code_noted, all_seen, begun, first_number}
use Rattle.draft.specs.Building.{altered, Owner, with_arms, filled, Current, fresh, with_act, basic_from, closed, unfilled, Progress, next_begun, numbered, arm_of}
use Rattle.draft.specs.Noted.{letters_noted, act_noted, acts_noted, flow_noted, once_noted, codes_noted, behind, body_noted, case_noted, cases_noted, switch_noted, inside_noted, modules_noted, draft_of, settled_blocks}
use Rattle.draft.specs.Laws.{KeepsLetters, KeepsBlocks, Finishes}
use Rattle.draft.proofs.Minimum.{plus}
use Rattle.draft.proofs.Parts.{merged, wrote, moved, before_part, current_part, fresh_rank, part, current, last, onto, only, onto_joined, onto_fresh, fresh_flow, onto_flow, part_blocks_head, two_more}
use Rattle.draft.proofs.Tells.{member_mid, seen_pushed, pushed, limits-++, mem, acts_step, case_step, inside_step, program_letters, same_all, codes_kept}

-- no violations in all, none in the first
nil_left : {A : Type 0} (xs ys : List A) → xs ++ ys ≡ [] → xs ≡ []
nil_left [] ys h = refl
nil_left (x ∷ xs) ys h = let z : ◌≡◌ {A = ℕ} 0 1 = cc in absurd (omega arith)

-- no violations in all, none in the second
nil_right : {A : Type 0} (xs ys : List A) → xs ++ ys ≡ [] → ys ≡ []
nil_right [] ys h = h
nil_right (x ∷ xs) ys h = let z : ◌≡◌ {A = ℕ} 0 1 = cc in absurd (omega arith)

-- no violation, so the test fails
flag_nil : (b : Bool) (i : ℕ) (n : Cause) → flag b i n ≡ [] → b ≡ false
flag_nil true i n h = let z : ◌≡◌ {A = ℕ} 0 1 = cc in absurd (omega arith)
flag_nil false i n h = refl

-- no lowest violation, so none
lowest_nil : (fs : List Violation) → lowest fs ≡ None → fs ≡ []
lowest_nil [] h = refl
lowest_nil (f ∷ fs) h = let z : ◌≡◌ {A = ℕ} 0 1 = cc in absurd (omega arith)

-- letters that break nothing are all kept
letters_kept : (cs seen : List ℕ) (i : ℕ) (x : Letters) → ((d : ℕ) → member d (columns x.letters) ≡ member d seen) → alphabet_faults seen cs i ≡ [] → (letters_noted cs i x).letters ≡ x.letters ++ cs
letters_kept [] seen i x h n = sym (append-nil x.letters)
letters_kept (c ∷ cs) seen i x h n =
    let f = flag (member c seen) i Alphabet in
    let rest = alphabet_faults (c ∷ seen) cs (i + 2) in
    let no : member c (columns x.letters) ≡ false = h c ∙ flag_nil (member c seen) i Alphabet (nil_left f rest n) in
    let more : cond (member c (columns x.letters)) x.letters (x.letters ++ c ∷ []) ≡ x.letters ++ c ∷ [] = ap (λ b. cond b x.letters (x.letters ++ c ∷ [])) no in
    letters_kept cs (c ∷ seen) (i + 2) (letter_noted c i x)
    (λ d. ap (λ ls. member d (columns ls)) more ∙ ap (member d) (append_assoc x.letters (c ∷ []) (0 ∷ [])) ∙ member_mid d c x.letters (0 ∷ []) ∙ ap (λ b. eqb d c || b) (h d)) (nil_right f rest n)
    ∙ ap (λ (ls : List ℕ). ls ++ cs) more ∙ append_assoc x.letters (c ∷ []) cs

-- the letters of a program without violations
pub keeps_letters : KeepsLetters
keeps_letters (program ss m ms) n =
    let t = program ss m ms in
    let af = alphabet_faults (0 ∷ []) (symbols_codes ss) 3 in
    let nf = names_faults [] (m ∷ ms) (modules_at t) in
    let mf = modules_faults (known t) (m ∷ ms) (modules_at t) in
    let lim = limit_faults (length (columns (alphabet t))) 0 (drafts t) in
    letters_kept (symbols_codes ss) (0 ∷ []) 3 no_letters (λ d. refl) (nil_left af nf (nil_left (af ++ nf) mf (nil_left (af ++ nf ++ mf) lim (lowest_nil (faults t) n))))

-- the block numbered q is the one behind q others
altered_at : (pre : List (Block Text)) (b : Block Text) (mid : List (Block Text)) (q : ℕ) (f : Kind Text → Kind Text) → length pre ≡ q → altered (pre ++ (b ∷ mid)) q f ≡ pre ++ (record { index = b.index; kind = f b.kind } ∷ mid)
altered_at [] b mid zero f e = refl
altered_at [] b mid (suc q) f e = absurd (omega arith)
altered_at (p ∷ pre) b mid zero f e = absurd (omega arith)
altered_at (p ∷ pre) b mid (suc q) f e = ap (λ bs. p ∷ bs) (altered_at pre b mid q f (omega arith))

altered_length : (bs : List (Block Text)) (q : ℕ) (f : Kind Text → Kind Text) → length (altered bs q f) ≡ length bs
altered_length [] q f = refl
altered_length (b ∷ bs) zero f = refl
altered_length (b ∷ bs) (suc q) f = ap suc (altered_length bs q f)

filled_length : (o : Owner) (b : Basic Text) (bs : List (Block Text)) → length (filled o b bs) ≡ length bs
filled_length (numbered q) b bs = altered_length bs q (λ k. basic b)
filled_length (arm_of q cs) b bs = altered_length bs q (with_arms cs b)

-- there is a part
some_onto : (c : Part) (ps : List Part) (b : Bool) → some_part (onto c ps) b ≡ true
some_onto c [] b = refl
some_onto c (p ∷ ps) b = at (ltb (last c) (first_rank p))
  where
    at : (d : Bool) → some_part (cond d (merged c p ∷ ps) (c ∷ p ∷ ps)) b ≡ true
    at true = refl
    at false = refl

module _ (a : Letters) where
  -- the blocks that break the limits
  abbrev lims : ℕ → List (Block Text) → List Violation
  lims q bs = limit_faults a.width q bs

  -- a block within the limits is kept
  begun_blocks : (q i : ℕ) (kd : Kind Text) (x : Draft) → x.count ≡ q → flag (too_many (suc q) a.width) i Limit ≡ [] → (begun a i kd x).blocks ≡ x.blocks ++ (record { index = i; kind = kd } ∷ [])
  begun_blocks q i kd x e n = ap (λ b. cond b x.blocks (x.blocks ++ (record { index = i; kind = kd } ∷ []))) (ap (λ m. too_many (suc m) a.width) e ∙ flag_nil (too_many (suc q) a.width) i Limit n)

  -- the basic block under construction, once closed, leaves the blocks bs with its owner filled, and the later parts behind them
  abbrev Closes : Progress → Maybe Flow → Bool → Owner → ℕ → ℕ → List (Block Text) → List Part → Type 0
  Closes w f b o j q bs ps = lims q (later_part_blocks ps b j q) ≡ []
      → filled w.current.owner (basic_from w.current (then_of f b w.draft.count)) w.draft.blocks ≡ filled o (first_of ps b q) bs ++ later_part_blocks ps b j q

  -- what an act may break leaves the blocks as they are
  act_closes : (act : Act) (i : ℕ) (x : Draft) (w : Progress) (f : Maybe Flow) (b : Bool) (o : Owner) (j : ℕ) (ps : List Part)
      → Closes w f b o j (act_noted a act i x).count (act_noted a act i x).blocks ps → Closes w f b o j x.count x.blocks ps
  act_closes (change s) i x w f b o j ps h = h
  act_closes (move d) i x w f b o j ps h = h

  -- nor does it change their number
  act_length : (act : Act) (i : ℕ) (x : Draft) → length x.blocks ≡ x.count → length (act_noted a act i x).blocks ≡ (act_noted a act i x).count
  act_length (change s) i x h = h
  act_length (move d) i x h = h

  -- a new block: c closed, and p's parts behind
  new_block : (w : Progress) (f : Maybe Flow) (b : Bool) (o : Owner) (c p : Part) (ps : List Part) (j i q : ℕ) (bs zs : List (Block Text)) → i ≡ j + part_length c → length bs ≡ q → c.flow ≡ none
      → zs ≡ filled o (record { write = written_code c.write; move = written_move c.move; then = next q }) bs ++ (record { index = i; kind = unfilled } ∷ [])
      → Closes w f b (numbered q) i (suc q) zs (onto p ps) → lims (suc q) (later_part_blocks (onto p ps) b i (suc q)) ≡ []
      → filled w.current.owner (basic_from w.current (then_of f b w.draft.count)) w.draft.blocks ≡ filled o (first_of (c ∷ onto p ps) b q) bs ++ part_blocks (onto p ps) b i q
  new_block w f b o c p ps j i q bs zs l len fl zb ih n =
      let cb : Basic Text = record { write = written_code c.write; move = written_move c.move; then = next q } in
      let pre = filled o cb bs in
      let rest = later_part_blocks (onto p ps) b i (suc q) in
      let fb = first_of (onto p ps) b (suc q) in
      ih n
      ∙ ap (λ (vs : List (Block Text)). altered vs q (λ k. basic fb) ++ rest) zb
      ∙ ap (λ (vs : List (Block Text)). vs ++ rest) (altered_at pre (record { index = i; kind = unfilled }) [] q (λ k. basic fb) (filled_length o cb bs ∙ len))
      ∙ append_assoc pre (record { index = i; kind = basic fb } ∷ []) rest
      ∙ ap₂ (λ (v : Then Text) (vs : List (Block Text)). filled o (record { write = written_code c.write; move = written_move c.move; then = v }) bs ++ vs)
      (sym (ap₂ (λ (g : Maybe Flow) (d : Bool). then_of g d q) fl (some_onto p ps b))) (sym (part_blocks_head p ps b i q))

module _ (k : Known) (a : Letters) (cols : (c : ℕ) → is_column a c ≡ member c k.symbols) (covers : (s : Seen) → all_seen (columns a.letters) s ≡ all_seen k.symbols s) where
  -- acts, after the part under construction
  acts_kept : (xs : List Act) (w : Maybe Symbol) (m : Maybe Direction) (o : Owner) (j i : ℕ) (x : Draft) (f : Maybe Flow) (b : Bool) → i ≡ j + part_length (part w m) → length x.blocks ≡ x.count
      → Closes a (acts_noted a xs (current o (part w m)) i x) f b o j x.count x.blocks (onto (part w m) (parts xs f))
  acts_kept [] w m o j i x none b l len = λ n. sym (append-nil (filled o (basic_from (current o (part w m)) (then_of none b x.count)) x.blocks))
  acts_kept [] w m o j i x (some f) b l len =
      subst (λ (ps : List Part). Closes a (record { current = current o (part w m); draft = x }) (some f) b o j x.count x.blocks ps) (sym (onto_flow w m f))
      (λ n. sym (append-nil (filled o (basic_from (current o (part w m)) (flow_then f)) x.blocks)))
  acts_kept (act ∷ xs) w m o j i x f b l len =
      subst (λ (ps : List Part). Closes a (acts_noted a (act ∷ xs) c i x) f b o j q x.blocks ps) (sym (onto_joined w m act rest))
      (at (ltb (last (part w m)) (rank act)) refl
      (λ h. act_closes a act i x (acts_noted a xs (current o same_part) (i + 2) y) f b o j (onto same_part rest)
      (acts_kept xs (wrote act w) (moved act m) o j (i + 2) y f b (let v = two_more w m act h in let u = ap part_length (before_part act w m) in omega arith) (act_length a act i x len)))
      (λ len'. act_closes a act i begun' (acts_noted a xs (current (numbered q) new_part) (i + 2) z) f b (numbered q) i (onto new_part rest)
      (acts_kept xs (wrote act none) (moved act none) (numbered q) i (i + 2) z f b (let v = two_more none none act (fresh_rank act) in let u = ap part_length (before_part act none none) in omega arith) (act_length a act i begun' len'))))
    where
      c : Current
      c = current o (part w m)

      q : ℕ
      q = x.count

      rest : List Part
      rest = parts xs f

      same_part : Part
      same_part = part (wrote act w) (moved act m)

      new_part : Part
      new_part = part (wrote act none) (moved act none)

      y : Draft
      y = act_noted a act i x

      begun' : Draft
      begun' = (next_begun a c i x).draft

      z : Draft
      z = act_noted a act i begun'

      ps : List Part
      ps = onto (only act) rest

      at : (d : Bool) → ltb (last (part w m)) (rank act) ≡ d
          → (ltb (last (part w m)) (rank act) ≡ true → Closes a (acts_noted a xs (current o same_part) (i + 2) y) f b o j q x.blocks (onto same_part rest))
          → (length begun'.blocks ≡ suc q → Closes a (acts_noted a xs (current (numbered q) new_part) (i + 2) z) f b (numbered q) i (suc q) begun'.blocks (onto new_part rest))
          → let v : Progress = cond d (record { current = c; draft = x }) (next_begun a c i x) in
          Closes a (acts_noted a xs (with_act act v.current) (i + 2) (act_noted a act i v.draft)) f b o j q x.blocks (cond d (onto (before act (part w m)) rest) (part w m ∷ ps))
      at true h ih new =
          subst (λ (u : Current). Closes a (acts_noted a xs u (i + 2) y) f b o j q x.blocks (onto (before act (part w m)) rest)) (sym (current_part act o w m))
          (subst (λ (u : Part). Closes a (acts_noted a xs (current o same_part) (i + 2) y) f b o j q x.blocks (onto u rest)) (sym (before_part act w m)) (ih h))
      at false h ih new = λ n.
          let later = later_part_blocks ps b i (suc q) in
          let fl = flag (too_many (suc q) a.width) i Limit in
          let n' : fl ++ lims a (suc q) later ≡ [] = ap (lims a q) (sym (part_blocks_head (only act) rest b i q)) ∙ ap (λ v. lims a q (part_blocks ps b v q)) l ∙ n in
          let cb = basic_from c (next q) in
          let zb : begun'.blocks ≡ filled o cb x.blocks ++ (record { index = i; kind = unfilled } ∷ []) = begun_blocks a q i unfilled (closed c (next q) x) refl (nil_left fl (lims a (suc q) later) n') in
          let zl : length begun'.blocks ≡ suc q = ap length zb ∙ length-append (filled o cb x.blocks) (record { index = i; kind = unfilled } ∷ []) ∙ (let g = filled_length o cb x.blocks in let v : length (filled o cb x.blocks) + 1 ≡ suc q = omega arith in v) in
          let nw = acts_noted a xs (with_act act (fresh (numbered q))) (i + 2) z in
          let new' : Closes a nw f b (numbered q) i (suc q) begun'.blocks ps =
          subst (λ (u : Current). Closes a (acts_noted a xs u (i + 2) z) f b (numbered q) i (suc q) begun'.blocks ps) (sym (current_part act (numbered q) none none))
          (subst (λ (u : Part). Closes a (acts_noted a xs (current (numbered q) new_part) (i + 2) z) f b (numbered q) i (suc q) begun'.blocks (onto u rest)) (sym (before_part act none none)) (new zl)) in
          subst (λ (v : ℕ). filled nw.current.owner (basic_from nw.current (then_of f b nw.draft.count)) nw.draft.blocks ≡ filled o (first_of (part w m ∷ ps) b q) x.blocks ++ part_blocks ps b v q) l
          (new_block a nw f b o (part w m) (only act) rest j i q x.blocks begun'.blocks l len refl zb new' (nil_right fl (lims a (suc q) later) n'))

  -- a flow finishes the block under construction
  flow_blocks : (f : Flow) (c : Current) (i : ℕ) (x : Draft) → (flow_noted f c i x).blocks ≡ filled c.owner (basic_from c (flow_then f)) x.blocks
  flow_blocks accept c i x = refl
  flow_blocks reject c i x = refl
  flow_blocks (goto n) c i x = refl

  -- a while case's commands are a whole block
  once_blocks : (o : Once) (w : Owner) (i : ℕ) (x : Draft) → (once_noted a o w i x).blocks ≡ filled w (once_basic o) x.blocks
  once_blocks (once_change s m) w i x = refl
  once_blocks (once_move d) w i x = refl

  -- symbols leave the blocks as they are
  codes_blocks : (cs : List ℕ) (i : ℕ) (s : Seen) (x : Draft) → (codes_noted a cs i s x).blocks ≡ x.blocks
  codes_blocks [] i s x = refl
  codes_blocks (c ∷ cs) i s x = codes_blocks cs (i + 2) (seen_too c s) (code_noted a c i s x) ∙ at (is_column a c)
    where
      at : (b : Bool) → (cond b (flagged (s c) i Repeated x) (flagged true i Letter x)).blocks ≡ x.blocks
      at true = refl
      at false = refl

  -- what comes behind a body without flow
  behind_then : (cs : Cases) (q : ℕ) → behind cs q ≡ then_of none (some_case cs) q
  behind_then no_more q = refl
  behind_then (more c cs) q = refl

  -- blocks within the limits are so in each part
  split : (q : ℕ) (xs ys : List (Block Text)) → lims a q (xs ++ ys) ≡ [] → (lims a q xs ≡ []) × (lims a (q + length xs) ys ≡ [])
  split q xs ys n =
      let h = sym (limits-++ a.width q xs ys) ∙ n in
      (nil_left (lims a q xs) (lims a (q + length xs) ys) h, nil_right (lims a q xs) (lims a (q + length xs) ys) h)

  -- as many blocks as both parts have
  longer : (bs xs ys : List (Block Text)) (q : ℕ) → bs ≡ xs ++ ys → length xs ≡ q → length bs ≡ q + length ys
  longer bs xs ys q h e = ap length h ∙ length-append xs ys ∙ ap (λ n. n + length ys) e

  mutual
    -- a body
    body_kept : (b : Body) (o : Owner) (i q : ℕ) (x : Draft) → x.count ≡ q → length x.blocks ≡ q → lims a q (rest_blocks b i q) ≡ [] → (body_noted b a o i x).blocks ≡ filled o (first_basic b q) x.blocks ++ rest_blocks b i q
    body_kept (act_cases act xs cs) o i q x e len n =
        let w = acts_noted a (act ∷ xs) (fresh o) i x in
        let j = i + length (acts_words (act ∷ xs)) in
        let ps = parts (act ∷ xs) none in
        let rest = later_part_blocks ps (some_case cs) i q in
        let sb = switch_blocks cs j (q + length rest) in
        let n' = split q rest sb n in
        let fb = first_of ps (some_case cs) q in
        let r : Closes a w none (some_case cs) o i q x.blocks ps =
        subst (λ (v : ℕ). Closes a w none (some_case cs) o i v x.blocks ps) e
        (subst (λ (rs : List Part). Closes a w none (some_case cs) o i x.count x.blocks rs) (onto_fresh act (parts xs none)) (acts_kept (act ∷ xs) none none o i i x none (some_case cs) (let z : i ≡ i + 0 = omega arith in z) (len ∙ sym e))) in
        let c : w.draft.count ≡ q + length rest =
        subst (λ (rs : List Part). w.draft.count ≡ q + length (later_part_blocks rs (some_case cs) i q)) (onto_fresh act (parts xs none)) (acts_step k a cols covers (act ∷ xs) none none o i i q x none (some_case cs) (let z : i ≡ i + 0 = omega arith in z) e).0 in
        let z = closed w.current (behind cs w.draft.count) w.draft in
        let zb : z.blocks ≡ filled o fb x.blocks ++ rest = ap (λ (v : Then Text). filled w.current.owner (basic_from w.current v) w.draft.blocks) (behind_then cs w.draft.count) ∙ r n'.0 in
        switch_kept cs j (q + length rest) z c (longer z.blocks (filled o fb x.blocks) rest q zb (filled_length o fb x.blocks ∙ len)) n'.1
        ∙ ap (λ (bs : List (Block Text)). bs ++ sb) zb ∙ append_assoc (filled o fb x.blocks) rest sb
    body_kept (acts_flow xs f) o i q x e len n =
        let w = acts_noted a xs (fresh o) i x in
        let ps = parts xs (some f) in
        let r : Closes a w (some f) false o i q x.blocks ps =
        subst (λ (v : ℕ). Closes a w (some f) false o i v x.blocks ps) e
        (subst (λ (rs : List Part). Closes a w (some f) false o i x.count x.blocks rs) (fresh_flow xs f) (acts_kept xs none none o i i x (some f) false (let z : i ≡ i + 0 = omega arith in z) (len ∙ sym e))) in
        flow_blocks f w.current (i + length (acts_words xs)) w.draft ∙ r n

    -- a case of the switch numbered g
    case_kept : (c : Case) (g : ℕ) (s : Seen) (i q : ℕ) (x : Draft) → x.count ≡ q → length x.blocks ≡ q → lims a q (case_blocks c i q) ≡ []
        → (case_noted c a g s i x).blocks ≡ altered x.blocks g (with_arms (case_codes c) (case_basic c q)) ++ case_blocks c i q
    case_kept (if ss b) g s i q x e len n =
        let cc = symbols_codes ss in
        let y = codes_noted a cc (i + 1) s x in
        let yb = codes_blocks cc (i + 1) s x in
        let j = i + length (symbols_words ss) + 2 in
        body_kept b (arm_of g cc) j q y ((codes_kept k a cols covers cc (i + 1) s x).0 ∙ e) (ap length yb ∙ len) n
        ∙ ap (λ (bs : List (Block Text)). altered bs g (with_arms cc (first_basic b q)) ++ rest_blocks b j q) yb
    case_kept (while ss o) g s i q x e len n =
        let cc = symbols_codes ss in
        let y = codes_noted a cc (i + 1) s x in
        once_blocks o (arm_of g cc) (i + length (symbols_words ss) + 2) y
        ∙ ap (λ (bs : List (Block Text)). altered bs g (with_arms cc (once_basic o))) (codes_blocks cc (i + 1) s x)
        ∙ sym (append-nil (altered x.blocks g (with_arms cc (once_basic o))))

    -- pre, then the switch with some arms, then what stands inside of them
    cases_kept : (cs : Cases) (g p : ℕ) (seen : List ℕ) (pre : List (Block Text)) (others : List (ℕ × Basic Text)) (mid : List (Block Text)) (i q : ℕ) (x : Draft) → x.count ≡ q → length x.blocks ≡ q → length pre ≡ g
        → x.blocks ≡ pre ++ (record { index = p; kind = switch others } ∷ mid) → lims a q (cases_blocks cs i q) ≡ []
        → (cases_noted cs a g p (mem seen) i x).blocks ≡ pre ++ (record { index = p; kind = switch (others ++ arms cs i q) } ∷ (mid ++ cases_blocks cs i q))
    cases_kept no_more g p seen pre others mid i q x e len at xb n =
        xb ∙ ap₂ (λ (rs : List (ℕ × Basic Text)) (bs : List (Block Text)). pre ++ (record { index = p; kind = switch rs } ∷ bs)) (sym (append-nil others)) (sym (append-nil mid))
    cases_kept (more c cs) g p seen pre others mid i q x e len at xb n =
        let cc = case_codes c in
        let j = i + length (case_words c) in
        let inner = case_blocks c i q in
        let q' = q + length inner in
        let more-blocks = cases_blocks cs j q' in
        let n' = split q inner more-blocks n in
        let y = case_noted c a g (mem seen) i x in
        let led = lead cc (case_basic c q) in
        let f = with_arms cc (case_basic c q) in
        let kb = case_kept c g (mem seen) i q x e len n'.0 in
        let yb : y.blocks ≡ pre ++ (record { index = p; kind = switch (others ++ led) } ∷ (mid ++ inner)) =
        kb ∙ ap (λ (bs : List (Block Text)). altered bs g f ++ inner) xb
        ∙ ap (λ (bs : List (Block Text)). bs ++ inner) (altered_at pre (record { index = p; kind = switch others }) mid g f at)
        ∙ append_assoc pre (record { index = p; kind = switch (others ++ led) } ∷ mid) inner in
        let yl : length y.blocks ≡ q' = longer y.blocks (altered x.blocks g f) inner q kb (altered_length x.blocks g f ∙ len) in
        ap (λ (s : Seen). (cases_noted cs a g p s j y).blocks) (seen_pushed cc seen)
        ∙ cases_kept cs g p (pushed cc seen) pre (others ++ led) (mid ++ inner) j q' y (case_step k a cols covers c g seen i q x e).0 yl at yb n'.1
        ∙ ap₂ (λ (rs : List (ℕ × Basic Text)) (bs : List (Block Text)). pre ++ (record { index = p; kind = switch rs } ∷ bs)) (append_assoc others led (arms cs j q')) (append_assoc mid inner more-blocks)

    -- a switch
    switch_kept : (cs : Cases) (i q : ℕ) (x : Draft) → x.count ≡ q → length x.blocks ≡ q → lims a q (switch_blocks cs i q) ≡ [] → (switch_noted cs a i x).blocks ≡ x.blocks ++ switch_blocks cs i q
    switch_kept no_more i q x e len n = sym (append-nil x.blocks)
    switch_kept (more c cs) i q x e len n =
        let cc = case_codes c in
        let j = i + length (case_words c) in
        let g = x.count in
        let x' = begun a i (switch []) x in
        let inner = case_blocks c i (suc q) in
        let q' = suc q + length inner in
        let others = cases_blocks cs j q' in
        let fl = flag (too_many (suc q) a.width) i Limit in
        let n' = split (suc q) inner others (nil_right fl (lims a (suc q) (inner ++ others)) n) in
        let new : List (Block Text) = record { index = i; kind = switch [] } ∷ [] in
        let xb : x'.blocks ≡ x.blocks ++ new = begun_blocks a q i (switch []) x e (nil_left fl (lims a (suc q) (inner ++ others)) n) in
        let xl : length x'.blocks ≡ suc q = longer x'.blocks x.blocks new q xb len ∙ (let z : q + 1 ≡ suc q = omega arith in z) in
        let y = case_noted c a g none_seen i x' in
        let led = lead cc (case_basic c (suc q)) in
        let f = with_arms cc (case_basic c (suc q)) in
        let kb = case_kept c g none_seen i (suc q) x' (ap suc e) xl n'.0 in
        let yb : y.blocks ≡ x.blocks ++ (record { index = i; kind = switch led } ∷ inner) =
        kb ∙ ap (λ (bs : List (Block Text)). altered bs g f ++ inner) xb
        ∙ ap (λ (bs : List (Block Text)). bs ++ inner) (altered_at x.blocks (record { index = i; kind = switch [] }) [] g f (len ∙ sym e))
        ∙ append_assoc x.blocks (record { index = i; kind = switch led } ∷ []) inner in
        let yl : length y.blocks ≡ q' = longer y.blocks (altered x'.blocks g f) inner (suc q) kb (altered_length x'.blocks g f ∙ xl) in
        ap (λ (s : Seen). (cases_noted cs a g i s j y).blocks) (seen_pushed cc [])
        ∙ cases_kept cs g i (pushed cc []) x.blocks led inner j q' y (case_step k a cols covers c g [] i (suc q) x' (ap suc e)).0 yl (len ∙ sym e) yb n'.1

  -- what stands in a module
  inside_kept : (v : Inside) (i q : ℕ) (x : Draft) → x.count ≡ q → length x.blocks ≡ q → lims a q (inside_blocks v i q) ≡ [] → (inside_noted a v i x).blocks ≡ x.blocks ++ inside_blocks v i q
  inside_kept (cases c cs) i q x e len n = switch_kept (more c cs) i q x e len n
  inside_kept (body b) i q x e len n =
      let x' = begun a i unfilled x in
      let rest = rest_blocks b i (suc q) in
      let fl = flag (too_many (suc q) a.width) i Limit in
      let new : List (Block Text) = record { index = i; kind = unfilled } ∷ [] in
      let fb = first_basic b (suc q) in
      let xb : x'.blocks ≡ x.blocks ++ new = begun_blocks a q i unfilled x e (nil_left fl (lims a (suc q) rest) n) in
      let xl : length x'.blocks ≡ suc q = longer x'.blocks x.blocks new q xb len ∙ (let z : q + 1 ≡ suc q = omega arith in z) in
      body_kept b (numbered x.count) i (suc q) x' (ap suc e) xl (nil_right fl (lims a (suc q) rest) n)
      ∙ ap (λ (bs : List (Block Text)). altered bs x.count (λ kd. basic fb) ++ rest) xb
      ∙ ap (λ (bs : List (Block Text)). bs ++ rest) (altered_at x.blocks (record { index = i; kind = unfilled }) [] x.count (λ kd. basic fb) (len ∙ sym e))
      ∙ append_assoc x.blocks (record { index = i; kind = basic fb } ∷ []) rest

  -- the first number draft-of with a name, or else another
  abbrev first_or : List Entry → Text → ℕ → ℕ
  first_or [] w d = d
  first_or (e ∷ es) w d = cond (same w e.name) e.first (first_or es w d)

  -- one more entry
  first_last : (es : List Entry) (e : Entry) (w : Text) (d : ℕ) → first_or (es ++ (e ∷ [])) w d ≡ first_or es w (cond (same w e.name) e.first d)
  first_last [] e w d = refl
  first_last (x ∷ es) e w d = ap (λ n. cond (same w x.name) x.first n) (first_last es e w d)

  -- or else 0
  first_zero : (es : List Entry) (w : Text) → first_number es w ≡ first_or es w 0
  first_zero [] w = refl
  first_zero (x ∷ es) w = ap (λ n. cond (same w x.name) x.first n) (first_zero es w)

  -- modules
  modules_kept : (ms : List Module) (i q : ℕ) (x : Draft) → x.count ≡ q → length x.blocks ≡ q → lims a q (modules_blocks ms i q) ≡ []
      → ((modules_noted a ms i x).blocks ≡ x.blocks ++ modules_blocks ms i q) × ((w : Text) → first_or (modules_noted a ms i x).names w 0 ≡ first_or x.names w (start_in ms i q w))
  modules_kept [] i q x e len n = (sym (append-nil x.blocks), λ w. refl)
  modules_kept (module' m v ∷ ms) i q x e len n =
      let j = i + length (module_words (module' m v)) in
      let x' = name_noted m.word (i + 1) x in
      let y = inside_noted a v (i + 3) x' in
      let inner = inside_blocks v (i + 3) q in
      let q' = q + length inner in
      let others = modules_blocks ms j q' in
      let n' = split q inner others n in
      let s = inside_step k a cols covers v (i + 3) q x' e in
      let yb = inside_kept v (i + 3) q x' e len n'.0 in
      let r = modules_kept ms j q' y s.0 (longer y.blocks x.blocks inner q yb len) n'.1 in
      let entry : Entry = record { name = m.word; first = x.count } in (
        r.0 ∙ ap (λ (bs : List (Block Text)). bs ++ others) yb ∙ append_assoc x.blocks inner others,
        λ w. r.1 w ∙ ap (λ es. first_or es w (start_in ms j q' w)) s.2 ∙ first_last x.names entry w (start_in ms j q' w)
            ∙ ap (λ c. first_or x.names w (cond (same w m.word) c (start_in ms j q' w))) e,
      )

-- the blocks of a program without violations
pub keeps_blocks : KeepsBlocks
keeps_blocks (program ss m ms) none_found = finish
  where
    t : Program
    t = program ss m ms

    cs : List ℕ
    cs = symbols_codes ss

    a : Letters
    a = letters_noted cs 3 no_letters

    l : (a.violation ≡ plus (alphabet_faults (0 ∷ []) cs 3) None) × (a.width ≡ length (columns cs)) × ((d : ℕ) → member d (columns a.letters) ≡ member d (columns cs))
    l = program_letters cs

    others : List Violation
    others = alphabet_faults (0 ∷ []) cs 3 ++ names_faults [] (m ∷ ms) (modules_at t) ++ modules_faults (known t) (m ∷ ms) (modules_at t)

    few : limit_faults a.width 0 (drafts t) ≡ []
    few = ap (λ w. limit_faults w 0 (drafts t)) l.1 ∙ nil_right others (limit_faults (length (columns cs)) 0 (drafts t)) (lowest_nil (faults t) none_found)

    y : Draft
    y = modules_noted a (m ∷ ms) (modules_at t) (empty_draft a)

    r : (y.blocks ≡ drafts t) × ((w : Text) → first_or (known t) a l.2 (λ s. same_all (columns a.letters) (columns cs) s l.2) y.names w 0 ≡ start t w)
    r = modules_kept (known t) a l.2 (λ s. same_all (columns a.letters) (columns cs) s l.2) (m ∷ ms) (modules_at t) 0 (empty_draft a) refl refl few

    starts : first_number y.names ≡ start t
    starts = fun_ext (λ w. first_zero (known t) a l.2 (λ s. same_all (columns a.letters) (columns cs) s l.2) y.names w ∙ r.1 w)

    finish : settled_blocks (draft_of (program ss m ms)) ≡ blocks (program ss m ms)
    finish = ap₂ settled starts r.0

-- what a draft without violations stands for
pub finishes : Finishes
finishes t n = λ j. record { letters = keeps_letters t n j; blocks = kinds (keeps_blocks t n j) }
