-- Each step keeps what is known of all callers together.
use Rattle.tag_bell.proofs.Safe.{no_tag_forgotten}
use Rattle.tag_bell.proofs.laws.no_tag_is_forgotten.Goals as goal

pub returns : goal.returns
returns g c = no_tag_forgotten
