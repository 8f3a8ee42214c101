-- The take of the caller is the side's take, since nothing else of the side changes.
use Rattle.std.proofs.Common.{refl}
use Rattle.tag_pool.proofs.side.Side.take.Goals as goal

pub returns-clause-takes : goal.returns-clause-takes
returns-clause-takes g c = λ found. let won = c.take.ensures.won found in record {
  value = won.0;
  slot = won.1;
  step = won.2;
  more = c.take.ensures.acquired found;
  hint = refl;
}
