-- The least kept tag is at the least bit of the mask of kept tags.
use Rattle.tag_cache.proofs.Reusing.{some_kept}
use Rattle.tag_cache.proofs.Windows.{least_in, least_is}
use Rattle.tag_cache.proofs.cache.Cache.reuse.Goals as goal

pub hand_out_at-requires-clause-kept : goal.hand_out_at-requires-clause-kept
hand_out_at-requires-clause-kept g c = let cache = c.args.self.now in
    least_in cache.first cache.kept (some_kept cache c.requires) cache.wide.0

pub returns : goal.returns
returns g c = let cache = c.args.self.now in record {
  hands_out = c.hand_out_at.ensures;
  least = least_is cache.first cache.kept (some_kept cache c.requires) cache.wide.0;
}
