-- The orders so far are carried out, and there is room for the others.
use Rattle.std.proofs.Common.{◌+◌, ◌≤◌, ℕ, length, take}
use Rattle.std.specs.List.{All}
use Rattle.tag_script.proofs.RunFacts.{HasRun}
use Rattle.tag_script.proofs.running.run_orders.Given as goal

-- the orders so far are carried out, there is room for the others, and the world knows them
abbrev pub invariant-loop-order : goal.invariant-loop-order
invariant-loop-order g l = record {
  run : HasRun g.W.World.answers (take l.order-index l.orders) l.fn.world l.world l.text.items;
  ready : (n : ℕ) → l.order-index + n ≤ length l.orders → g.W.World.ready l.world n;
  known : All (g.W.World.knows l.world) l.orders;
}
