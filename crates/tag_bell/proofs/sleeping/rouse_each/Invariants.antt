-- The callers told below this number were roused, and nobody else.
use Rattle.tag_bell.proofs.Rousing.{RousedBelow}
use Rattle.tag_bell.proofs.sleeping.rouse_each.Given as goal

abbrev pub invariant-loop-number : goal.invariant-loop-number
invariant-loop-number g l = RousedBelow l.number l.fn.told l.roused.callers
