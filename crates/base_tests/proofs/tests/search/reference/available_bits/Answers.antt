-- The next bit is set exactly if its place is available.
use Rattle.base_tests.proofs.Uses.{arith, false, IsAvailable, pool_of_marks, sym, true, ℕ, ◌∙◌}
use Rattle.std.proofs.Common.{◌≡◌, ◌+◌, ◌<◌}
use Rattle.base_tests.proofs.Reference.{bits_more, bits_skip}
use Rattle.base_tests.proofs.tests.search.reference.available_bits.Goals as goal
use Rattle.base_tests.proofs.tests.search.reference.available_bits.Goals.{then-is_available, else-is_available}

pub loop-k-preserved : goal.loop-k-preserved
loop-k-preserved c =
    let P : ℕ → Type 0 = λ j. IsAvailable (pool_of_marks c.args.layout c.args.free.now c.args.aside.now)
    c.args.word (c.args.place + j) in
    let k = c.loop-k.k in let low : k < 64 = omega arith in
    elim c.if-is_available.branch [
      | then-is_available w ↦ rw w.bits-is (bits_more P c.loop-k.bits k low c.loop-k.invariant
          (sym c.is_available.ensures ∙ w.if-is_available.true))
      | else-is_available w ↦ rw w.bits-is (bits_skip P c.loop-k.bits k c.loop-k.invariant (λ is. let clash : true ≡ false =
          sym is ∙ sym c.is_available.ensures ∙ w.if-is_available.false in cc))
    ]
