-- The caller only looked at its berth, and found itself listed there each time.
use Rattle.std.specs.Prelude.{true}
use Rattle.std.specs.List.{All}
use Rattle.tag_bell.proofs.Uses.{Berth, HoldsSame, IsCallerOf, IsListed, List, OnlyAdds, record_of}
use Rattle.tag_bell.specs.Sleeping.{looks_at}
use Rattle.tag_bell.proofs.sleeping.sleep.Given as goal

abbrev pub invariant-loop : goal.invariant-loop
invariant-loop g l = record {
  turns : (goal.iterator-loop g).can_next l.iterator' × (goal.iterator-loop g).is_finite l.iterator';
  own : IsCallerOf l.fn.map l.caller;
  seen : List Berth;
  looks : OnlyAdds (looks_at (record_of l.fn.caller).number seen) l.fn.caller l.caller;
  listed : All (IsListed (λ waiter. true)) seen;
  kept : HoldsSame l.fn.caller l.caller;
}
