-- Exactly the kept tags went back, so the user's stay.
use Rattle.tag_cache.proofs.Giving.{flushed, flush_tallies}
use Rattle.tag_cache.proofs.SameWindows.{same_window}
use Rattle.tag_cache.proofs.cache.Cache.flush_quietly.Goals as goal

pub returns-clause-does : goal.returns-clause-does
returns-clause-does g c = let pool = c.args.pool.now in let old = c.args.self.now in
    let new = c.give_back_kept.new.self in let e = c.give_back_kept.ensures in record {
      same = flushed pool old new e.gives e.none;
      none = e.none;
      gives = e.gives;
      all = e.freed;
      tally = flush_tallies pool old new e.gives e.none e.reused;
      terms = e.terms;
      reused = e.reused;
      window = same_window old new e.window.0 e.window.1;
    }
