-- The tag goes its way, and what the hand then sees to changes nothing that the user holds.
use Rattle.tag_model.proofs.HoldingFacts.{less_then_same}
use Rattle.tag_cache.proofs.SameWindows.{knows_less_then_same}
use Rattle.tag_cache.proofs.Tallying.{tallies_on}
use Rattle.tag_cache.proofs.Rested.{woke}
use Rattle.tag_cache.proofs.Uses.{Kind, subst, WakesFor, ℕ}
use Rattle.tag_cache.proofs.cache.Cache.clear.Goals as goal

pub returns : goal.returns
returns g c = let pool = c.args.pool.now in let old = c.args.self.now in let mid = c.clear_quietly.new.self in
    let new = c.wake_for.new.self in let does = c.in_ok-clear_quietly.ensures.does in let wakes = c.wake_for.ensures.wakes in
    let rested = woke c.kind.result pool c.freed_with-freed.result c.wake_for.result mid new wakes in record {
      cache = c.wake_for.ensures.cache;
      refusals = record { first = tt; passes = does.refusals.passes; same = tt };
      less = less_then_same does.less rested.same;
      wakes = record {
        between = mid;
        goes = does.way;
        wakes = subst (λ (x : Kind × ℕ). WakesFor x.0 x.1 pool c.wake_for.result mid new)
            (λ j. (c.kind.ensures j, c.freed_with-freed.ensures j)) wakes;
      };
      knows = λ leaves. knows_less_then_same c.args.tag old mid new (does.knows leaves) rested.window.knows;
      tally = tallies_on 0 1 old mid new does.tally rested.tally;
    }
