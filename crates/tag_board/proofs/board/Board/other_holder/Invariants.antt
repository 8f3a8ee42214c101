-- No caller visited so far, other than this one, holds the tag.
use Rattle.std.proofs.Common.{◌≡◌, ◌≢◌, ℕ, ◌<◌, false}
use Rattle.tag_board.proofs.Uses.{state_of}
use Rattle.tag_board.proofs.board.Board.other_holder.Given as goal

abbrev pub invariant-loop-other : goal.invariant-loop-other
invariant-loop-other l = (k : ℕ) → k < l.other → k ≢ l.caller → ((state_of l.self).part k).held l.tag ≡ false
