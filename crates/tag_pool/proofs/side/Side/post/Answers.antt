-- The post of the caller is the side's post, since nothing else of the side changes.
use Rattle.std.proofs.Common.{refl}
use Rattle.tag_pool.proofs.side.Side.post.Goals as goal

pub returns-clause-posts : goal.returns-clause-posts
returns-clause-posts g c = record {
  value = c.post.ensures.step.0;
  slot = c.post.ensures.step.1;
  step = c.post.ensures.step.2;
  less = c.post.ensures.released;
  hint = refl;
}
