-- Both maps have as many callers.
use Rattle.tag_pool.proofs.Uses.{subst, sym, ℕ}
use Rattle.step_ledger.specs.Gather.{HasAll}
use Rattle.tag_core.specs.Gathering.{gathered, numbers}
use Rattle.tag_pool.proofs.gather.together.Together.usage.Goals as goal

pub usage_of_set-first-requires-clause-every : goal.usage_of_set-first-requires-clause-every
usage_of_set-first-requires-clause-every g c = subst (λ (n : ℕ). HasAll (numbers (gathered c.args.self.reserved)) n)
    (sym c.args.pool.now.as_many) c.requires.every.reserved
