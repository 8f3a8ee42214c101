-- Nobody else changes the berth of a caller that stays listed.
use Rattle.tag_bell.proofs.Turns.{first_told}
use Rattle.tag_bell.proofs.laws.first_come_first_told.Goals as goal

pub returns : goal.returns
returns g c = first_told
