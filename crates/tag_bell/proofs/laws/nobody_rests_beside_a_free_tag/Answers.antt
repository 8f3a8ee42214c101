-- Whoever is on the way is not at rest.
use Rattle.tag_bell.proofs.Safe.{none_free_at_rest}
use Rattle.tag_bell.proofs.laws.nobody_rests_beside_a_free_tag.Goals as goal

pub returns : goal.returns
returns g c = none_free_at_rest
