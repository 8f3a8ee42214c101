-- The kept tags went back, and what the hand then sees to changes nothing that the user holds.
use Rattle.tag_model.proofs.HoldingFacts.{same_then_same}
use Rattle.tag_cache.proofs.Carrying.{terms_twice}
use Rattle.tag_cache.proofs.SameWindows.{window_twice}
use Rattle.tag_cache.proofs.Tallying.{tallies_on}
use Rattle.tag_cache.proofs.Rested.{none_left, woke}
use Rattle.tag_cache.proofs.Uses.{Ordinary, subst, WakesFor, ℕ, ◌∙◌}
use Rattle.tag_cache.specs.Calls.{DoesFlush}
use Rattle.tag_cache.proofs.cache.Cache.flush.Goals as goal

pub returns-clause-flushes : goal.returns-clause-flushes
returns-clause-flushes g c = let pool = c.args.pool.now in let old = c.args.self.now in
    let mid = c.flush_quietly-freed.new.self in let new = c.wake_for.new.self in
    let does = c.flush_quietly-freed.ensures.does in let wakes = c.wake_for.ensures.wakes in
    let rested = woke Ordinary pool c.flush_quietly-freed.result c.wake_for.result mid new wakes in record {
      between = mid;
      flushes = subst (λ (n : ℕ). DoesFlush pool n old mid) does.all does;
      wakes = subst (λ (n : ℕ). WakesFor Ordinary n pool c.wake_for.result mid new) does.all wakes;
      same = same_then_same does.same rested.same;
      none = none_left pool c.flush_quietly-freed.result c.wake_for.result mid new does.none wakes;
      tally = tallies_on 0 0 old mid new does.tally rested.tally;
      terms = terms_twice does.terms rested.terms;
      reused = rested.reused ∙ does.reused;
      window = window_twice old mid new does.window rested.window;
    }
