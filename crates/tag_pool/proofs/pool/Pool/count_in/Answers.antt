-- Each turn tests the bit of the next hand's number, which is below 64.
use Rattle.std.specs.Prelude.{◌≡◌}
use Rattle.std.proofs.Common.{eq-eqb, get_or, ne_eqb}
use Rattle.std.proofs.lemmas.List.Sums.{count_by_more_no, count_by_more_yes}
use Rattle.std.proofs.lemmas.Nat.Bits.{shr_and_one}
use Rattle.tag_pool.proofs.Uses.{ap, arith, bit_at, get_or-map, Hand, length-map, subst, sym, ℕ, ◌∙◌}
use Rattle.tag_core.proofs.FewCallers.{few}
use Rattle.tag_pool.specs.Gathering.{numbers_of}
use Rattle.tag_pool.specs.Hands.{IsHandOf, number_of}
use Rattle.tag_pool.specs.Resizing.{has_bit}
use Rattle.tag_pool.proofs.pool.Pool.count_in.Goals.{then-mask-number-eq1, else-mask-number-eq1}
use Rattle.tag_pool.proofs.pool.Pool.count_in.Goals as goal

pub overflow_shr-mask : goal.overflow_shr-mask
overflow_shr-mask g c =
    let own = c.requires.own c.loop-hand.hand-index c.hand-item.result c.loop-hand-test.true in
    let mine = subst (IsHandOf c.args.self.now) (sym c.hand-item.is) own in
    let low = few c.args.self.now.ordinary c.hand-item.result.ordinary.caller mine.1 in
    let is = c.number.ensures in let same = c.hand-item.result.ordinary.numbers in omega arith

pub loop-hand-preserved : goal.loop-hand-preserved
loop-hand-preserved g c =
    let hands = c.args.hands.now in let i : ℕ = c.loop-hand.hand-index in let hand = c.hand-item.result in
    let ns = numbers_of hands in let mask : ℕ = c.args.mask in let inv = c.loop-hand.invariant in
    let long = length-map hands number_of in let low = c.loop-hand-test.true in
    let number : get_or ns i 0 ≡ c.number.result = get_or-map number_of hands i hand 0 low
    ∙ ap (λ (h : Hand g.row.R.Denot). number_of h) (sym c.hand-item.is) ∙ sym c.number.ensures in
    let bit = ap (λ (n : ℕ). bit_at mask n) number ∙ sym (shr_and_one mask c.number.result) in
    elim c.if-mask-number-eq1.branch [
      | then-mask-number-eq1 w ↦ record {
        counted = (let one = count_by_more_yes (has_bit mask) ns i 0 (omega arith)
            (eq-eqb (bit_at mask (get_or ns i 0)) 1 (bit ∙ w.if-mask-number-eq1.true)) in
            let is = w.count-is in let so = inv.counted in omega arith);
        few = (let is = w.count-is in let so = inv.few in omega arith);
      }
      | else-mask-number-eq1 w ↦ record {
        counted = (let none = count_by_more_no (has_bit mask) ns i 0 (omega arith)
            (ne_eqb (bit_at mask (get_or ns i 0)) 1 (λ e. w.if-mask-number-eq1.false (sym bit ∙ e))) in
            let is = w.count-is in let so = inv.counted in omega arith);
        few = (let is = w.count-is in let so = inv.few in omega arith);
      }
    ]
