-- It has tried each that is no longer left, in the order of their turns, and told these.
use Rattle.std.specs.Prelude.{◌+◌, ◌-◌, ◌≡◌, ◌≢◌, ◌≤◌, count_ones}
use Rattle.tag_bell.proofs.Uses.{bit_at, HoldsSame, IsCallerOf, IsInRound, Owes, record_of, same_waiter, Spot, ℕ}
use Rattle.tag_bell.specs.Coming.{coming_in}
use Rattle.tag_bell.specs.Lines.{GoesOn, IsLine, those_of}
use Rattle.tag_bell.proofs.telling.tell_in_turn.Given as goal

abbrev pub invariant-loop-left : goal.invariant-loop-left
invariant-loop-left g l = record {
  own : IsCallerOf l.fn.map l.caller;
  round : IsInRound (record_of l.caller).steps;
  line : IsLine l.fn.waiter (λ e. Unit {0}) l.left l.fn.turns (record_of l.caller).steps;
  part : count_ones l.left ≤ count_ones l.fn.listed;
  goes : GoesOn (count_ones l.fn.listed - count_ones l.left) (those_of l.fn.waiter l.told) l.fn.caller l.caller;
  apart : (e : ℕ) → bit_at l.told e ≡ 1 → bit_at l.left e ≡ 0;
  most : count_ones l.told + l.room ≡ l.fn.most;
  coming : coming_in (record_of l.caller).steps ≡ coming_in (record_of l.fn.caller).steps;
  met : l.told ≢ 0 → (spot : Spot) (e : ℕ) → ¬ Owes (same_waiter l.fn.waiter) (record_of l.caller).steps spot e;
  kept : HoldsSame l.fn.caller l.caller;
}

abbrev pub decreases-loop-left : goal.decreases-loop-left
decreases-loop-left g l = count_ones l.left
