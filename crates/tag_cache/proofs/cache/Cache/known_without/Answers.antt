-- The tag's bit leaves the mask, if the tag is in the window.
use Rattle.tag_cache.proofs.Windows.{not_in, without_in, without_none}
use Rattle.tag_cache.proofs.cache.Cache.known_without.Goals as goal

pub returns-then-offset-ge-WINDOW : goal.returns-then-offset-ge-WINDOW
returns-then-offset-ge-WINDOW g c = let cache = c.args.self.now in without_none cache.first cache.known c.args.tag
    (not_in cache.first cache.known c.args.tag c.offset-offset.result cache.wide.1
    c.offset-offset.ensures.within.1 c.if-offset-ge-WINDOW.true)

pub returns : goal.returns
returns g c = let cache = c.args.self.now in let low = c.if-offset-ge-WINDOW.false in
    without_in cache.first cache.known c.args.tag c.offset-offset.result cache.wide.1 low
    (c.offset-offset.ensures.offset low)
