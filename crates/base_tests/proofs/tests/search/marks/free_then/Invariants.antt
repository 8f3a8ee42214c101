-- The marks so far are those of the tags so far.
use Rattle.base_tests.proofs.Uses.{false, free_then, get_or, length, place_of, word_of, ℕ}
use Rattle.std.proofs.Common.{◌≡◌, ◌<◌}
use Rattle.base_tests.proofs.tests.search.marks.free_then.Given as goal

abbrev pub invariant-loop-tag : goal.invariant-loop-tag
invariant-loop-tag l = record {
  count : length l.marks.items ≡ l.tag;
  each : (tag : ℕ) → tag < l.tag
      → get_or l.marks.items tag false ≡ free_then l.layout l.free l.aside l.swept l.fn.taken.0 l.fn.taken.1
      l.fn.taken.2 tag (word_of l.layout tag) (place_of l.layout tag);
}
