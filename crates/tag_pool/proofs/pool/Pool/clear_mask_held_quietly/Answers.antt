-- The mask's numbers correspond one to one to its tags, so what the ordinary side does with them is what the hand does.
use Rattle.tag_pool.proofs.Uses.{refl}
use Rattle.tag_pool.specs.Masks.{tags_in}
use Rattle.tag_pool.proofs.MaskNumbers.{still_some}
use Rattle.tag_pool.proofs.OrdinaryNumbers.{numbered}
use Rattle.tag_pool.proofs.pool.Pool.clear_mask_held_quietly.Goals as goal

pub give_mask-requires-clause-some : goal.give_mask-requires-clause-some
give_mask-requires-clause-some g c = still_some c.args.mask c.in-Some.mask c.ranges.mask.fits c.requires.some
    c.in-Some.ensures.ones

pub give_mask-requires-clause-held : goal.give_mask-requires-clause-held
give_mask-requires-clause-held g c = (numbered c.args.self.now c.args.hand.now c.requires.hand
    (tags_in c.args.first c.args.mask) (tags_in c.in-Some.first c.in-Some.mask) (c.in-Some.ensures.ordinary.0 refl)
    c.in-Some.ensures.numbers.1).held.1 c.requires.held

pub returns-clause-gives : goal.returns-clause-gives
returns-clause-gives g c = (numbered c.args.self.now c.args.hand.now c.requires.hand
    (tags_in c.args.first c.args.mask) (tags_in c.in-Some.first c.in-Some.mask) (c.in-Some.ensures.ordinary.0 refl)
    c.in-Some.ensures.numbers.1).gives c.requires.ordinary c.give_mask.new.self c.give_mask.ensures.gives
