-- The look at who waits changes none of the records.
use Rattle.tag_pool.proofs.Uses.{List, Record, subst, sym}
use Rattle.step_ledger.specs.Gather.{HasAll}
use Rattle.tag_core.specs.Gathering.{numbers}
use Rattle.tag_pool.proofs.usage.usage_of_set.Goals as goal

pub settle-loans-requires-clause-all : goal.settle-loans-requires-clause-all
settle-loans-requires-clause-all g c =
    subst (λ (rs : List (Record g.row.R.Denot)). HasAll (numbers rs) c.args.map.now.shape.callers)
    (sym c.waiting-waiting.ensures.same) c.requires.every
