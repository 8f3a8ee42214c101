-- No other caller holds a tag of the places visited so far, and the board is unchanged.
use Rattle.std.proofs.Common.{◌≡◌, ℕ, ◌+◌, ◌<◌}
use Rattle.tag_board.proofs.Uses.{bit_at, state_of, NobodyElseHolds}
use Rattle.std.specs.Prelude.{nat_eq}
use Rattle.tag_board.proofs.board.Board.tell_each_alone.Given as goal

abbrev pub invariant-loop-place : goal.invariant-loop-place
invariant-loop-place l = record {
  same : l.self ≡ l.initial.self;
  alone : (k : ℕ) → k < l.place → bit_at l.mask k ≡ 1
      → NobodyElseHolds (state_of l.initial.self) l.caller (nat_eq (l.first + k));
}
