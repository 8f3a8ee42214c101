-- Those woken are those told.
use Rattle.std.specs.Prelude.{◌≡◌, ◌⊎◌}
use Rattle.tag_pool.proofs.Uses.{Changes, layout_of, subst, sym}
use Rattle.tag_bell.specs.Calls.{nobody}
use Rattle.tag_bell.specs.Looks.{SawFree}
use Rattle.tag_bell.specs.declared.told.Told.{Told}
use Rattle.tag_pool.specs.Hands.{caller_of}
use Rattle.tag_pool.specs.Sides.{see_to_all_steps, SeesTo}
use Rattle.tag_pool.proofs.pool.Pool.wake_next.Goals as goal

pub returns-clause-wakes : goal.returns-clause-wakes
returns-clause-wakes g c = let most = see_to_all_steps (layout_of c.args.self.now c.args.kind) in subst
    (λ (t : Told). Changes c.args.kind (SeesTo 1 most t) c.args.hand.now c.see_to_all-told.new.hand)
    (sym c.wake_told.ensures) c.see_to_all-told.ensures.sees_to

pub returns-clause-saw : goal.returns-clause-saw
returns-clause-saw g c = subst (λ (t : Told). (t ≡ nobody)
    ⊎ SawFree (caller_of c.args.hand.now c.args.kind) (caller_of c.see_to_all-told.new.hand c.args.kind))
    (sym c.wake_told.ensures) c.see_to_all-told.ensures.saw
