-- The sums are those of the groups so far. Each half of a word is below 2^32, so eight of them cannot overflow.
use Rattle.std.specs.Prelude.{◌*◌, ◌≡◌, ◌≤◌}
use Rattle.wake_book.proofs.Uses.{granted, one_waiting, slots_items, sum_below, waiting, word}
use Rattle.wake_book.proofs.groups_closing.counts_of.Given as goal

abbrev pub invariant-loop-group : goal.invariant-loop-group
invariant-loop-group l = record {
  granted_is : l.granted ≡ sum_below (λ g. granted (word (slots_items l.closed.words) g)) l.group;
  waiting_is : l.waiting ≡ sum_below (λ g. waiting (word (slots_items l.closed.words) g)) l.group;
  small : (l.granted ≤ l.group * one_waiting) × (l.waiting ≤ l.group * one_waiting);
}
