-- The counts of the callers so far are at the places of their numbers.
use Rattle.std.specs.Prelude.{◌<◌, ◌≡◌, ◌≤◌}
use Rattle.tag_core.proofs.Uses.{Caller, get_elem?, length, slice_index, some, ℕ}
use Rattle.tag_core.proofs.reopens.next_shape.Given as goal

abbrev pub invariant-loop-caller : goal.invariant-loop-caller
invariant-loop-caller g l = record {
  long : (length l.won ≡ 64) × (length l.back ≡ 64);
  rest : (c : ℕ) → l.shape.callers ≤ c → slice_index l.won c ≡ 0;
  won : (i : ℕ) (x : Caller g.row.R.Denot) → i < l.caller-index → get_elem? l.callers i ≡ some x
      → slice_index l.won x.number ≡ x.won;
  back : (i : ℕ) (x : Caller g.row.R.Denot) → i < l.caller-index → get_elem? l.callers i ≡ some x
      → slice_index l.back x.number ≡ x.back;
}
