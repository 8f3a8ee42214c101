-- Every pair of hands is compared, so the numbers all differ unless a pair with the same number is found.
use Rattle.std.specs.Prelude.{◌≡◌, ◌≢◌}
use Rattle.tag_queue.proofs.Uses.{ap, arith, sym, ℕ, ◌∙◌}
use Rattle.std.proofs.Common.{get_or}
use Rattle.std.proofs.lemmas.Grind.{get_or_default_zero}
use Rattle.std.proofs.lemmas.List.{get_or-map, length-map}
use mathlib.Core.Logic.{dite}
use native.Mathlib.Decide.{ℕ_discrete}
use Rattle.tag_queue.specs.Hands.{number_of, numbers_of}
use Rattle.tag_queue.proofs.gather.hand_count.find_same_number.Goals as goal

pub loop-first-preserved : goal.loop-first-preserved
loop-first-preserved g c =
    let hands = c.args.hands.now in let first : ℕ = c.loop-first.first in let second : ℕ = c.loop-second.second in
    let one = c.index-hands-first.result in let other = c.index-hands-second.result in
    let in_second = c.loop-second-test.true in let in_first = c.loop-first-test.true in
    let a : get_or (numbers_of hands) first 0 ≡ c.number.result =
    get_or-map number_of hands first one 0 (omega arith) ∙ ap number_of (sym c.index-hands-first.is)
    ∙ sym c.number.ensures in
    let b : get_or (numbers_of hands) second 0 ≡ c.number-in-loop-first.result =
    get_or-map number_of hands second other 0 (omega arith) ∙ ap number_of (sym c.index-hands-second.is)
    ∙ sym c.number-in-loop-first.ensures in
    record {
      next = λ j less e. dite (ℕ_discrete j first)
          (λ (is : j ≡ first). c.if-number.false
          (sym a ∙ ap (λ (n : ℕ). get_or (numbers_of hands) n 0) (sym is) ∙ e ∙ b))
          (λ (ne : j ≢ first). c.loop-first.invariant.next j (omega arith) e);
    }

pub returns : goal.returns
returns g c = λ i j d less l e.
    let hands = c.args.hands.now in let stop = c.loop-second-test.false in let long = length-map hands number_of in
    c.loop-second.invariant.differ i j less (omega arith)
    (sym (get_or_default_zero (numbers_of hands) i d (omega arith)) ∙ e ∙ get_or_default_zero (numbers_of hands) j d l)
