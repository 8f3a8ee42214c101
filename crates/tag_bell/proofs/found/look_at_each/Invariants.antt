-- Of the callers below this number it has looked at each that was found waiting.
use Rattle.tag_bell.proofs.Uses.{HoldsSame, IsCallerOf}
use Rattle.tag_bell.proofs.LookLines.{LooksOn}
use Rattle.tag_bell.proofs.found.look_at_each.Given as goal

abbrev pub invariant-loop-number : goal.invariant-loop-number
invariant-loop-number g l = record {
  own : IsCallerOf l.fn.map l.caller;
  looks : LooksOn l.fn.waiting l.number l.masks l.fn.caller l.caller;
  kept : HoldsSame l.fn.caller l.caller;
}
