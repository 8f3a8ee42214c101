-- The mask is the run's, which has n bits, and there is room for as many.
use Rattle.std.proofs.Common.{◌/◌, ◌^◌, sym, ap, ◌∙◌}
use Rattle.tag_search.proofs.Claims.{same_where_lost}
use Rattle.tag_search.proofs.Runs.{run_below}
use Rattle.tag_search.proofs.batch.claim_run.Goals as goal

pub claim-claim-requires-clause-mask : goal.claim-claim-requires-clause-mask
claim-claim-requires-clause-mask g c = rw c.run_of.ensures.value (run_below c.args.n c.args.place _ c.requires.fits)

pub returns-then-claim-eq0-clause-lost : goal.returns-then-claim-eq0-clause-lost
returns-then-claim-eq0-clause-lost g c = let e = c.run_of.ensures.value in let claim = c.claim-claim in (
  claim.result.found,
  sym (rw e at claim.ensures.won) ∙ c.if-claim-eq0.true,
  same_where_lost (λ p n. g.P.Port.has_room p n) c.args.port.now claim.new.self claim.result.won
      c.if-claim-eq0.true claim.ensures.uses_room,
  rw e at claim.ensures.step,
)

pub returns-clause-won : goal.returns-clause-won
returns-clause-won g c =
    let e = c.run_of.ensures.value in let claim = c.claim-claim in let won = rw e at claim.ensures.won in (
      claim.result.found,
      (λ none. c.if-claim-eq0.false (won ∙ none)),
      ap (λ x. x / 2 ^ c.args.place) won,
      rw e at claim.ensures.step,
    )
