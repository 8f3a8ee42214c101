-- The marks so far are those of the tags so far.
use Rattle.base_tests.proofs.Uses.{aside_then, false, get_or, length, word_of, ℕ}
use Rattle.std.proofs.Common.{◌≡◌, ◌<◌}
use Rattle.base_tests.proofs.tests.search.marks.aside_then.Given as goal

abbrev pub invariant-loop-tag : goal.invariant-loop-tag
invariant-loop-tag l = record {
  count : length l.marks.items ≡ l.tag;
  each : (tag : ℕ) → tag < l.tag
      → get_or l.marks.items tag false ≡ aside_then l.aside l.swept tag (word_of l.layout tag);
}
