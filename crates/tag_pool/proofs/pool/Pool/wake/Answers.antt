-- Those woken are those told.
use Rattle.tag_pool.proofs.Uses.{Changes, max, subst, sym}
use Rattle.tag_bell.specs.declared.told.Told.{Told}
use Rattle.tag_pool.specs.Sides.{see_to_steps, SeesTo}
use Rattle.tag_pool.proofs.pool.Pool.wake.Goals as goal

pub returns-clause-wakes : goal.returns-clause-wakes
returns-clause-wakes g c = subst
    (λ (t : Told). Changes c.args.kind (SeesTo (max c.args.freed 1) see_to_steps t) c.args.hand.now c.see_to-told.new.hand)
    (sym c.wake_told.ensures) c.see_to-told.ensures.sees_to
