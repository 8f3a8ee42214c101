-- The spare hands and those that were in the cells belong to the tags, and they are those that are gathered.
use Rattle.tag_c.proofs.Uses.{All, IsHandOf, refl, subst, sym, Pool, ℕ}
use Rattle.tag_c.proofs.Collected.{gathers, misses_one}
use Rattle.tag_c.proofs.pool_state.PoolState.gather.Goals as goal

pub gather-requires : goal.gather-requires
gather-requires c = let parted = c.part-tags.ensures in
    subst (λ (tags : Pool ℕ). All (IsHandOf tags) c.part-tags.result.1.items) (sym parted.tags) parted.own

pub returns-in-Ok-clause-some : goal.returns-in-Ok-clause-some
returns-in-Ok-clause-some c = let parted = c.part-tags.ensures in
    gathers c.args.self.tags c.part-tags.result.0 c.args.spare.items parted.kept.0 c.part-tags.result.1.items parted.tags
    parted.kept.1 c.in-Ok.totals parted.own (c.in-Ok.ensures.succeeds.0 refl) c.in-Ok.ensures.ok

pub returns-in-Err-clause-none : goal.returns-in-Err-clause-none
returns-in-Err-clause-none c = let parted = c.part-tags.ensures in
    misses_one c.args.self.tags c.part-tags.result.0 c.args.spare.items parted.kept.0 c.part-tags.result.1.items
    parted.tags parted.kept.1 c.in-Err.fault.cause c.in-Err.ensures.missing
