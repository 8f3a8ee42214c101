-- The list that was cleared has at least one tag.
use Rattle.tag_pool.proofs.Uses.{length}
use Rattle.tag_pool.proofs.Waking.{gives_and_wakes}
use Rattle.tag_pool.proofs.pool.Pool.clear_batch.Goals as goal

pub returns-clause-wakes : goal.returns-clause-wakes
returns-clause-wakes g c = let does = c.in_ok-clear_batch_quietly.ensures.does in let wake = c.wake.ensures in
    gives_and_wakes c.args.self.now c.args.tags.now (length c.args.tags.now) c.args.hand.now c.clear_batch_quietly.new.hand
    c.wake.new.hand c.wake.result does.refusals.passes.0.0 does.gives does.back wake.wakes wake.same wake.back
