-- A caller that is asleep has tried every tag.
use Rattle.tag_bell.proofs.Safe.{nobody_forgotten}
use Rattle.tag_bell.proofs.laws.nobody_is_forgotten.Goals as goal

pub returns : goal.returns
returns g c = nobody_forgotten
