-- No spot of a word before this one is left to see to.
use Rattle.std.specs.Prelude.{◌*◌, ◌<◌}
use Rattle.tag_bell.proofs.Uses.{HoldsSame, IsCallerOf, OwesNoneWhere, Waiter, WaitsAsBefore}
use Rattle.tag_bell.specs.Looks.{OnlyLooks}
use Rattle.tag_bell.proofs.settling.look_through.Given as goal

abbrev pub invariant-loop-word : goal.invariant-loop-word
invariant-loop-word g l = record {
  own : IsCallerOf l.fn.map l.caller;
  before : (kind : Waiter) → OwesNoneWhere (λ i. i < l.word) kind l.caller;
  looks : OnlyLooks (2 * l.word) l.fn.caller l.caller;
  waits : WaitsAsBefore l.fn.caller l.caller;
  kept : HoldsSame l.fn.caller l.caller;
}
