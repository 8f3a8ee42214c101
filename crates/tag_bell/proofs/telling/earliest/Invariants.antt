-- The caller kept is one of these, and none of them below this number has a lower turn.
use Rattle.std.specs.Prelude.{◌<◌, ◌≡◌, ◌≤◌, slice_index}
use Rattle.tag_bell.proofs.Uses.{bit_at, MAX_CALLERS, ℕ}
use Rattle.tag_bell.proofs.telling.earliest.Given as goal

abbrev pub invariant-loop-number : goal.invariant-loop-number
invariant-loop-number l = record {
  low : l.first < MAX_CALLERS;
  among : bit_at l.callers l.first ≡ 1;
  first : (e : ℕ) → e < l.number → bit_at l.callers e ≡ 1 → slice_index l.turns l.first ≤ slice_index l.turns e;
}
