-- The hand has won the tags before the index, and has room for the others.
use Rattle.std.specs.Prelude.{◌*◌, ◌+◌, ◌-◌, ◌^◌, ◌≡◌, ◌≤◌}
use Rattle.std.proofs.Common.{take}
use Rattle.tag_pool.proofs.Uses.{IsStillOf, length, min, Ordinary, step_count, ℕ}
use Rattle.tag_pool.specs.Gets.{most_steps}
use Rattle.tag_pool.specs.Hands.{HasRoom}
use Rattle.tag_pool.specs.Many.{WinsMany}
use Rattle.tag_pool.proofs.pool.Pool.win_many.Given as goal

abbrev pub invariant-loop-i : goal.invariant-loop-i
invariant-loop-i g l = record {
  hand : IsStillOf l.self l.fn.hand l.hand;
  room : HasRoom l.hand Ordinary (length l.fn.tags - l.i);
  sum : ℕ;
  wins : WinsMany l.self (take l.i l.tags) sum l.fn.hand l.hand;
  left : l.left ≡ min sum (2 ^ 64 - 1);
  bound : step_count l.hand ≤ l.i * most_steps l.self Ordinary + step_count l.fn.hand;
}
