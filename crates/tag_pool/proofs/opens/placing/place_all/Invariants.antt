-- The hands before the index are placed, and the others are as they were.
use Rattle.std.specs.Prelude.{◌≡◌}
use Rattle.std.proofs.Common.{drop, take}
use Rattle.std.specs.List.{AllZip}
use Rattle.tag_pool.specs.Placing.{IsPlaced}
use Rattle.tag_pool.proofs.opens.placing.place_all.Given as goal

abbrev pub invariant-loop-hand : goal.invariant-loop-hand
invariant-loop-hand g l = record {
  placed : AllZip (IsPlaced l.pool) (take l.hand-index l.fn.hands) (take l.hand-index l.hands);
  left : drop l.hand-index l.hands ≡ drop l.hand-index l.fn.hands;
}
