-- Of these callers below this number it has looked at each once more.
use Rattle.std.specs.Prelude.{◌≡◌, length}
use Rattle.tag_bell.proofs.Uses.{HoldsSame, IsCallerOf, MAX_CALLERS}
use Rattle.tag_bell.proofs.LookLines.{LooksAgain}
use Rattle.tag_bell.proofs.found.look_again.Given as goal

abbrev pub invariant-loop-number : goal.invariant-loop-number
invariant-loop-number g l = record {
  own : IsCallerOf l.fn.map l.caller;
  looks : LooksAgain l.fn.listed l.number l.found l.fn.caller l.caller;
  room : length l.found.turns ≡ MAX_CALLERS;
  kept : HoldsSame l.fn.caller l.caller;
}
