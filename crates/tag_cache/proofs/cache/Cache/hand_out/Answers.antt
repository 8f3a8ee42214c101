-- A kept tag is in the window.
use Rattle.tag_cache.proofs.Windows.{below_end}
use Rattle.tag_cache.proofs.cache.Cache.hand_out.Goals as goal

pub hand_out_at-requires-clause-offset : goal.hand_out_at-requires-clause-offset
hand_out_at-requires-clause-offset g c = let cache = c.args.self.now in let at = c.offset-offset.ensures in
    let low = at.within.1 (c.requires.0, below_end cache.first cache.kept c.args.tag cache.wide.0 c.requires) in
    (at.offset low, low)
