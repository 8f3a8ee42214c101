-- What a contract sees of a board.
use Rattle.std.specs.Prelude.{ℕ, ◌<◌}
use Rattle.tag_board.specs.declared.board.Board.{Board}
use Rattle.tag_board.specs.States.{State}
use Rattle.tag_board.specs.Parts.{state_of_all}

-- the state of a board
abbrev pub state_of : Board → State
state_of board = state_of_all board.queue board.hands.items

-- the board has a caller with this number
abbrev pub IsCallerOf : Board → ℕ → Type 0
IsCallerOf board caller = caller < (state_of board).terms.callers
