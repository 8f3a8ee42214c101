-- What a look found stays seen through a round.
use Rattle.tag_bell.proofs.Rounds.{one_round}
use Rattle.tag_bell.proofs.laws.one_round_is_enough.Goals as goal

pub returns : goal.returns
returns g c = one_round
