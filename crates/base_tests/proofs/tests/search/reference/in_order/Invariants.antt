-- The list so far has the numbers from the start up to the next one.
use Rattle.std.proofs.Common.{◌≡◌, min, ◌++◌}
use Rattle.tag_search.specs.Order.{numbers}
use Rattle.base_tests.proofs.tests.search.reference.in_order.Given as goal

abbrev pub invariant-loop-number : goal.invariant-loop-number
invariant-loop-number l = l.order.items ≡ numbers l.start (min l.number l.limit)

abbrev pub invariant-loop-number-then-wrap : goal.invariant-loop-number-then-wrap
invariant-loop-number-then-wrap l = l.order.items ≡ numbers l.start l.limit ++ numbers 0 l.number
