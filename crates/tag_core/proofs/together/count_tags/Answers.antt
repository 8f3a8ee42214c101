-- The sum over the masks seen so far grows by the next mask's bits, at most 64 of them, so it never overflows.
use Rattle.std.specs.Prelude.{◌+◌, ◌<◌, ◌^◌}
use Rattle.tag_core.proofs.Uses.{ap, arith, count_ones, length, List, ones-le, slice_index, sym, ℕ, ◌∙◌}
use Rattle.tag_core.proofs.Totalling.{total_of-next}
use Rattle.tag_core.proofs.together.count_tags.Goals as goal

pub loop-mask-preserved : goal.loop-mask-preserved
loop-mask-preserved c =
    let xs : List ℕ = c.args.masks.now in let i : ℕ = c.loop-mask.mask-index in let l : i < length xs = omega arith in
    let inv = c.loop-mask.invariant in
    let range = c.type_inv.masks i in let small : slice_index xs i < 2 ^ 64 = omega arith in
    let few = ones-le 64 (slice_index xs i) small in (
      ap (λ (z : ℕ). z + count_ones (slice_index xs i)) inv.0
          ∙ sym (total_of-next count_ones xs i l),
      (let b = inv.1 in omega arith),
    )
