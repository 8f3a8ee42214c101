-- The orders so far and what the rest says are what all lines say.
use Rattle.std.proofs.Common.{◌≡◌, ◌≤◌, ◌+◌, ◌++◌, map, length, vec_len, Ok}
use Rattle.tag_lines.specs.Readings.{readings}
use Rattle.tag_lines.specs.ScriptLines.{order_of}
use Rattle.tag_lines.proofs.order_list.orders.Given as goal

-- the orders so far and what the rest says are what all lines say
abbrev pub invariant-loop-rest : goal.invariant-loop-rest
invariant-loop-rest l = record {
  said : map Ok l.orders.items ++ readings (order_of l.dialect l.callers) l.rest
      ≡ readings (order_of l.dialect l.callers) l.fn.text;
  room : vec_len l.orders + length l.rest ≤ length l.fn.text;
}

abbrev pub decreases-loop-rest : goal.decreases-loop-rest
decreases-loop-rest l = length l.rest
