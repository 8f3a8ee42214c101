-- The kept tags go first, and then the list.
use Rattle.tag_cache.proofs.Uses.{arith}
use Rattle.tag_cache.proofs.Carrying.{own_after}
use Rattle.tag_cache.proofs.Giving.{flushed, kept_back}
use Rattle.tag_cache.proofs.ClearedLists.{all_still}
use Rattle.tag_cache.proofs.cache.Cache.give_back_kept_and_list.Goals as goal

pub clear_batch_held_quietly-requires-clause-held : goal.clear_batch_held_quietly-requires-clause-held
clear_batch_held_quietly-requires-clause-held g c = let e = c.leave-kept.ensures in let mid = c.leave-kept.new.self in
    let held = all_still c.args.self.now mid c.args.list.now
    (flushed c.args.pool.now c.args.self.now mid e.gives e.none) c.requires.held.0 in
    ((λ k d l. (held k d l).0), c.requires.held.1)

pub invariant_of-self-clause-own : goal.invariant_of-self-clause-own
invariant_of-self-clause-own g c = λ other i. absurd (c.leave-kept.ensures.none other i)

pub invariant_of-self-clause-knows : goal.invariant_of-self-clause-knows
invariant_of-self-clause-knows g c = let mid = c.leave-kept.new.self in let e = c.clear_batch_held_quietly.ensures in
    own_after c.args.pool.now mid.first mid.known mid.hand c.clear_batch_held_quietly.new.hand
    c.leave-kept.ensures.cache e.hand.0 mid.knows (λ other h i. (e.gives.less.kept other
    (λ inside. ((c.requires.left other).0 ((c.leave-kept.ensures.knows other).0 i)).1 inside) h).0)

pub returns-clause-gives : goal.returns-clause-gives
returns-clause-gives g c = let mid = c.leave-kept.new.self in let s = c.leave-kept.ensures in
    let e = c.clear_batch_held_quietly.ensures in record {
      between = mid.hand;
      kept = s.gives;
      gives = record { gives = e.gives; back = e.back };
      none = λ tag k. s.none tag k;
      terms = record { most = s.terms.most; keeping = s.terms.keeping };
      reused = s.reused;
    }

pub returns-clause-freed : goal.returns-clause-freed
returns-clause-freed g c = let s = c.leave-kept.ensures in let back = c.clear_batch_held_quietly.ensures.back in
    let kept = kept_back c.args.pool.now c.args.self.now c.args.self.now.hand c.leave-kept.new.self.hand s.gives in
    let count = s.freed in omega arith

pub returns-clause-knows : goal.returns-clause-knows
returns-clause-knows g c = λ other. (
  (λ l. (c.requires.left other).0 ((c.leave-kept.ensures.knows other).0 l)),
  (λ l. (c.leave-kept.ensures.knows other).1 ((c.requires.left other).1 l)),
)
