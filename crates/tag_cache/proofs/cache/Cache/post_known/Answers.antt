-- If the tag is the last one known, nothing is kept when it leaves; otherwise it leaves alone.
use Rattle.tag_cache.proofs.Uses.{arith, IsLast}
use Rattle.tag_cache.proofs.Carrying.{not_true}
use Rattle.tag_cache.proofs.Giving.{kept_back}
use Rattle.tag_cache.proofs.Posting.{passes, passes_last, posts_back}
use Rattle.tag_cache.proofs.Tallying.{tallies_on}
use Rattle.tag_cache.proofs.cache.Cache.post_known.Goals as goal

pub returns-then-is_last : goal.returns-then-is_last
returns-then-is_last g c = let old = c.args.self.now in let mid = c.flush_quietly-freed.new.self in
    let new = c.post_alone.new.self in let e = c.flush_quietly-freed.ensures.does in let p = c.post_alone.ensures in
    let last = c.is_last.ensures.0 c.if-is_last.true in let count = e.all in
    let kept = kept_back c.args.pool.now old old.hand mid.hand e.gives in
    let same = posts_back c.args.tag c.args.note mid.hand new.hand p.passes.posts in record {
      cache = p.cache;
      passes = passes_last c.args.tag c.args.note old mid new last e.same e.none e.terms e.window p.passes;
      flushes = λ _. record { between = mid.hand; gives = e.gives; posts = p.passes.posts };
      freed = omega arith;
      tally = tallies_on 0 0 old mid new e.tally p.tally;
    }

pub returns : goal.returns
returns g c = let old = c.args.self.now in let new = c.post_alone-2.new.self in let p = c.post_alone-2.ensures in
    let more = not_true c.is_last.result (IsLast c.args.tag old) c.is_last.ensures c.if-is_last.false in
    let same = posts_back c.args.tag c.args.note old.hand new.hand p.passes.posts in record {
      cache = p.cache;
      passes = passes c.args.tag c.args.note old new p.passes (λ last. absurd (more last));
      flushes = λ last. absurd (more last);
      freed = omega arith;
      tally = p.tally;
    }
