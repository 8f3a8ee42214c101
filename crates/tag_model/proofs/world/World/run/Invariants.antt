-- The events so far ran.
use Rattle.tag_model.proofs.Uses.{Ran, take}
use Rattle.tag_model.proofs.world.World.run.Given as goal

abbrev pub invariant-loop-index : goal.invariant-loop-index
invariant-loop-index l = Ran l.fn.self (take l.index l.events) l.self
