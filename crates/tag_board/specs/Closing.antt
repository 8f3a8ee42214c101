-- The totals of a board.
use Rattle.tag_model.specs.declared.totals.Totals.{Totals}
use Rattle.tag_board.specs.States.{State, got_in, back_in, held_in, posted_in}

-- the sums over both sets: tags got, given back and held, and the rest, which are posted
abbrev pub totals_in : State → Totals
totals_in s = record { got = got_in s; back = back_in s; held = held_in s; posted = posted_in s }
