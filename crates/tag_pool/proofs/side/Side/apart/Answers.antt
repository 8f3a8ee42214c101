-- Both sides have their own callers still.
use Rattle.std.proofs.Common.{refl}
use Rattle.tag_pool.proofs.FirstTry.{same_side}
use Rattle.tag_pool.proofs.side.Side.apart.Goals as goal

pub returns-clause-same : goal.returns-clause-same
returns-clause-same g c = (
  same_side c.args.self.now c.apart.new.first c.args.self.now.hint _ c.apart.ensures.same.0 refl,
  same_side c.args.other.now c.apart.new.second c.args.other.now.hint _ c.apart.ensures.same.1 refl,
)
