-- A tag outside the window is not known to be held.
use Rattle.std.proofs.lemmas.Bool.{false≢true}
use Rattle.tag_cache.proofs.Windows.{not_in}
use Rattle.tag_cache.proofs.cache.Cache.knows.Goals as goal

pub returns-then-offset-ge-WINDOW : goal.returns-then-offset-ge-WINDOW
returns-then-offset-ge-WINDOW g c = let cache = c.args.self.now in (
  (λ t. absurd (false≢true t)),
  (λ l. absurd (not_in cache.first cache.known c.args.tag c.offset-offset.result cache.wide.1
      c.offset-offset.ensures.within.1 c.if-offset-ge-WINDOW.true l)),
)
