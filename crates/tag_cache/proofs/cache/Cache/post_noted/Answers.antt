-- What the hand sees to after the post changes nothing that the user holds.
use Rattle.tag_model.proofs.HoldingFacts.{less_then_same}
use Rattle.tag_cache.proofs.SameWindows.{knows_less_then_same}
use Rattle.tag_cache.proofs.Tallying.{tallies_on}
use Rattle.tag_cache.proofs.Rested.{woke}
use Rattle.tag_cache.proofs.Uses.{Ordinary}
use Rattle.tag_cache.proofs.cache.Cache.post_noted.Goals as goal

pub returns : goal.returns
returns g c = let pool = c.args.pool.now in let old = c.args.self.now in let mid = c.post_noted_quietly.new.self in
    let new = c.wake_for.new.self in let does = c.in_ok-freed.ensures.does in let wakes = c.wake_for.ensures.wakes in
    let rested = woke Ordinary pool c.in_ok-freed.freed c.wake_for.result mid new wakes in record {
      cache = c.wake_for.ensures.cache;
      refusals = record { first = tt; passes = does.refusals.passes; same = tt };
      less = less_then_same does.less rested.same;
      posts = record { between = mid; freed = c.in_ok-freed.freed; posts = does; wakes = wakes };
      knows = knows_less_then_same c.args.tag old mid new does.knows rested.window.knows;
      tally = tallies_on 0 0 old mid new does.tally rested.tally;
    }
