-- The mask that was cleared has at least one bit.
use Rattle.tag_pool.proofs.Uses.{count_ones}
use Rattle.tag_pool.specs.Masks.{tags_in}
use Rattle.tag_pool.proofs.MaskHolds.{few_ones}
use Rattle.tag_pool.proofs.Waking.{gives_and_wakes}
use Rattle.tag_pool.proofs.pool.Pool.clear_mask.Goals as goal

pub returns-clause-wakes : goal.returns-clause-wakes
returns-clause-wakes g c = let does = c.in_ok-clear_mask_quietly.ensures.does in let wake = c.wake.ensures in
    let some = few_ones c.args.mask c.ranges.mask.fits does.refusals.passes.0 in
    gives_and_wakes c.args.self.now (tags_in c.args.first c.args.mask) (count_ones c.args.mask) c.args.hand.now
    c.clear_mask_quietly.new.hand c.wake.new.hand c.wake.result some.0 does.gives does.back wake.wakes wake.same wake.back
