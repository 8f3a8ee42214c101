-- Each cause is checked once those before it are ruled out.
use Rattle.std.proofs.Common.{arith}
use Rattle.tag_pool.proofs.pool.Pool.next_layout.Goals as goal

pub returns-in-Err-Missing-clause-balance : goal.returns-in-Err-Missing-clause-balance
returns-in-Err-Missing-clause-balance g c = λ fits. let missing = c.in-Err-Missing.ensures.missing in
    let low = missing.2.0 in absurd (missing.2.1 (fits.0 missing.0 (omega arith)))

pub returns-then-total-gt-MAX_DEPTH-clause-balance : goal.returns-then-total-gt-MAX_DEPTH-clause-balance
returns-then-total-gt-MAX_DEPTH-clause-balance g c = λ fits. let low = fits.1.0 in let high = fits.1.1 in
    elim c.then-total-gt-MAX_DEPTH.branch [
      | goal.then-total-gt-MAX_DEPTH-via-then-total-gt-MAX_DEPTH w ↦ absurd (omega (arith, w.if-total-gt-MAX_DEPTH.true))
      | goal.then-total-gt-MAX_DEPTH-via-else-total-gt-MAX_DEPTH+then-total-reserved w ↦ absurd
          (omega (arith, w.if-total-reserved.true))
    ]
