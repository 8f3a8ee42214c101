-- The clock counts the turns that were taken.
use Rattle.tag_bell.proofs.Turns.{in_order}
use Rattle.tag_bell.proofs.laws.turns_are_in_order.Goals as goal

pub returns : goal.returns
returns g c = in_order
