-- The mask is one bit, and a claim wins exactly if it found the bit clear.
use Rattle.std.specs.Prelude.{◌<◌, ◌^◌}
use Rattle.tag_search.proofs.Uses.{arith, one_shl, pow_below, sym, ◌∙◌}
use Rattle.tag_search.proofs.Claims.{clear_where_won, taken_where_lost}
use Rattle.tag_search.proofs.plain_steps.PlainPortPort.claim_one.Goals as goal

pub claim-claim-requires-clause-mask : goal.claim-claim-requires-clause-mask
claim-claim-requires-clause-mask c = rw (one_shl c.args.place 64 c.requires.width)
    (pow_below c.args.place _ c.requires.place)

pub returns-then-claim-ne0-clause-won : goal.returns-then-claim-ne0-clause-won
returns-then-claim-ne0-clause-won c =
    let found = c.claim-claim.result.found in let e = one_shl c.args.place 64 c.requires.width in
    let fits : found < 2 ^ 64 = omega arith in let won = rw e at c.claim-claim.ensures.won in (
      found,
      clear_where_won found c.args.place fits c.requires.width (λ none. c.if-claim-ne0.true (won ∙ none)),
      rw e at c.claim-claim.ensures.step,
    )

pub returns-else-claim-ne0-clause-lost : goal.returns-else-claim-ne0-clause-lost
returns-else-claim-ne0-clause-lost c =
    let found = c.claim-claim.result.found in let e = one_shl c.args.place 64 c.requires.width in
    let fits : found < 2 ^ 64 = omega arith in let won = rw e at c.claim-claim.ensures.won in (
      taken_where_lost found c.args.place fits c.requires.width (sym won ∙ c.if-claim-ne0.false),
      (λ n. (λ x. x, λ x. x)),
      rw e at c.claim-claim.ensures.step,
    )
