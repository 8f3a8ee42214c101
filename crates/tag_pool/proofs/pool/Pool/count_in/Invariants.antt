-- The hands so far whose bit is 1 are counted.
use Rattle.std.specs.Prelude.{◌≡◌, ◌≤◌, count_by}
use Rattle.std.proofs.Common.{take}
use Rattle.tag_pool.specs.Gathering.{numbers_of}
use Rattle.tag_pool.specs.Resizing.{has_bit}
use Rattle.tag_pool.proofs.pool.Pool.count_in.Given as goal

abbrev pub invariant-loop-hand : goal.invariant-loop-hand
invariant-loop-hand g l = record {
  counted : l.count ≡ count_by (has_bit l.mask) (take l.hand-index (numbers_of l.hands));
  few : l.count ≤ l.hand-index;
}
