-- No tag is kept exactly if the mask of kept tags is 0.
use Rattle.std.proofs.Common.{eq-eqb, eqb-true}
use Rattle.tag_cache.proofs.Reusing.{none_kept}
use Rattle.tag_cache.proofs.Windows.{none_in}
use Rattle.tag_cache.proofs.cache.Cache.keeps_none.Goals as goal

pub returns : goal.returns
returns g c = let cache = c.args.self.now in (
  (λ t tag k. none_in cache.first cache.kept tag (eqb-true cache.kept 0 t) k),
  (λ none. eq-eqb cache.kept 0 (none_kept cache none)),
)
