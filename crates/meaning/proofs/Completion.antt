-- What print gives for a program's translation is its completed program.
use Rattle.std.proofs.Common.{◌≡◌, ℕ, suc, cond, List, [], ◌∷◌, refl, ap, ap₂}
use Rattle.std.proofs.lemmas.Bool.{eq-eqb}
use Rattle.grammar.specs.Tree.{goto, more, Module, module'}
use Rattle.meaning.specs.Codes.{columns}
use Rattle.meaning.specs.Blocks.{Then, again, accepting, rejecting, jump, next, end, Basic, Kind}
use Rattle.meaning.specs.Rules.{next_of, basic_action, current, action_entry, block_row, block_rows}
use Rattle.meaning.specs.Print.{state_name, if_case, while_case, next_case, row_cases, inside_of, row_modules, letter_symbols, of_modules}
use Rattle.meaning.specs.Text.{text_of, program_lines}
use Rattle.meaning.specs.Completed.{completed_case, completed_cases, completed_modules, Completion}

case_completed : (q c : ℕ) (b : Basic ℕ) (x : Then ℕ) → next_case q c (action_entry c (basic_action q b)) (next_of q x) ≡ completed_case q c b x
case_completed q c b again = let e = action_entry c (basic_action q b) in ap (λ v. cond v (while_case c e) (if_case c e (goto (state_name q)))) (eq-eqb q q refl)
case_completed q c b accepting = refl
case_completed q c b rejecting = refl
case_completed q c b (jump r) = refl
case_completed q c b (next r) = refl
case_completed q c b end = refl

cases_completed : (q : ℕ) (cs : List ℕ) (k : Kind ℕ) → row_cases q cs (block_row cs q k) ≡ completed_cases q cs k
cases_completed q [] k = refl
cases_completed q (c ∷ cs) k = ap₂ more (case_completed q c (current k c) (current k c).then) (cases_completed q cs k)

modules_completed : (cols : List ℕ) (q : ℕ) (ks : List (Kind ℕ)) → row_modules cols q (block_rows cols q ks) ≡ completed_modules cols q ks
modules_completed cols q [] = refl
modules_completed cols q (k ∷ ks) =
    ap₂ (λ (m : Module) (ms : List Module). m ∷ ms) (ap (λ cs. module' (state_name q) (inside_of cs)) (cases_completed q cols k)) (modules_completed cols (suc q) ks)

pub completion : Completion
completion p =
    let e = modules_completed (columns p.letters) 0 p.blocks in
    let of = of_modules (letter_symbols p.letters) in
    record { tree = ap of e; lines = ap (λ ms. text_of (program_lines (of ms))) e }
