-- Every lawful history is safe, and a state that keeps the rule has one.
use Rattle.tag_bell.proofs.Safe.{each_state}
use Rattle.tag_bell.proofs.laws.each_state_is_safe.Goals as goal

pub returns : goal.returns
returns g c = each_state
