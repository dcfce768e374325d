use Rattle.std.proofs.Common.{◌≡◌, ◌+◌, ◌-◌, ◌*◌, get_or, take, drop, ◌∙◌, ap, arith, rules}
use Rattle.bounded.specs.Inline.{items_of}
use Rattle.program.specs.declared.blocks.Shape.TheVariants.{Single}
use Rattle.program.specs.Store.{all_fit}
use Rattle.program.specs.Place.{columns_of, count_of}
use Rattle.program.proofs.Filled.{uses, block_used}
use Rattle.program.proofs.builder.Builder.block_fits.Goals as goal
use Rattle.program.proofs.builder.Builder.block_fits.Goals.{in-Single, in-Switch}

pub returns : goal.returns
returns c =
    let s = c.args.self.now.store in
    let q = c.args.number in
    let base = q * c.width.result in
    let used = c.match-as_slice-number.used in
    let asked : used ≡ uses s (get_or (items_of s.shapes) q Single) = elim c.match-as_slice-number.branch [ in-Single w ↦ search rules | in-Switch w ↦ search rules ] in
    let length : base + used - base ≡ used = omega arith in
    c.all_fit.ensures
    ∙ ap (λ n. all_fit (columns_of s) n (take (base + used - base) (drop base s.slots))) c.count.ensures.number
    ∙ ap (λ k. all_fit (columns_of s) (count_of s) (take k (drop base s.slots))) (length ∙ asked)
    ∙ ap (λ w. all_fit (columns_of s) (count_of s) (take (uses s (get_or (items_of s.shapes) q Single)) (drop (q * w) s.slots))) c.width.ensures.number
    ∙ block_used s q c.requires
