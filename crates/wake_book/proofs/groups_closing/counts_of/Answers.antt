-- Each group's word adds its two halves, as its definition reads them, and eight halves below 2^32 fit.
use Rattle.std.specs.Prelude.{◌%◌, ◌+◌, ◌/◌, ◌≡◌}
use Rattle.wake_book.proofs.Uses.{ap, arith, get_or, granted, List, one_waiting, slots_items, suc, sum_below, sym, waiting, word, ℕ, ◌∙◌}
use Rattle.wake_book.proofs.Ending.{read}
use Rattle.wake_book.proofs.groups_closing.counts_of.Goals as goal

pub loop-group-preserved : goal.loop-group-preserved
loop-group-preserved c = let ws : List ℕ = slots_items c.args.closed.now.words in let g : ℕ = c.loop-group.group in
    let inv = c.loop-group.invariant in let next : suc g ≡ g + 1 = omega arith in
    let is : word ws g ≡ c.word-word.result = ap (λ (z : ℕ). get_or ws z 0) (sym c.group_spot.ensures)
    ∙ read ws c.group_spot.result c.word-word.result c.word-word.ensures in
    let small = inv.small.0 in let small' = inv.small.1 in let range = c.word-word.type_inv in record {
      granted_is = (λ j. inv.granted_is j + sym is j % one_waiting) ∙ ap (sum_below (λ g. granted (word ws g))) next;
      waiting_is = (λ j. inv.waiting_is j + sym is j / one_waiting) ∙ ap (sum_below (λ g. waiting (word ws g))) next;
      small = (omega arith, omega arith);
    }
