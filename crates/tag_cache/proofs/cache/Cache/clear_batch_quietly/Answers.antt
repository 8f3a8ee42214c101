-- The hand's refusals are the user's, and a tag that is kept is one that the user does not hold.
use Rattle.tag_cache.proofs.Uses.{AreHeldOnce, AreOrdinary, BadCount, CountsTags, inl, inr, NoSuchTag, NotHeld, refl, rules}
use Rattle.tag_pool.specs.Lists as hand_lists
use Rattle.tag_cache.proofs.ClearedLists.{hand_holds, user_holds, none_is_kept, list_less, list_tallies}
use Rattle.tag_cache.proofs.Refused.{refused_user}
use Rattle.tag_cache.proofs.cache.Cache.clear_batch_quietly.Goals as goal

pub returns-in_err-check_batch-clause-does : goal.returns-in_err-check_batch-clause-does
returns-in_err-check_batch-clause-does g c = let list = c.args.list.now in let cache = c.args.self.now in
    let first = refused_user (CountsTags list) (AreOrdinary c.args.pool.now list) BadCount NoSuchTag NotHeld
    (hand_lists.AreHeldOnce cache.hand list) (AreHeldOnce cache list) (hand_holds cache list) _
    c.from_residual.result c.from_residual.ensures.1 c.in_err-check_batch.ensures.refusals.first in
    search rules

pub returns-then-not-keeps_none_of-clause-does : goal.returns-then-not-keeps_none_of-clause-does
returns-then-not-keeps_none_of-clause-does g c = let list = c.args.list.now in let cache = c.args.self.now in
    let passed = c.in_ok-check_batch.ensures.refusals.passes in
    let not_held : ¬ (AreHeldOnce cache list) = λ held.
    let none = c.keeps_none_of.ensures.1 (none_is_kept cache list held) in
    let some = c.if-not-keeps_none_of.true in cc in record {
      refusals = record {
        first = inr (passed.0, inr (passed.1.0, inl (not_held, refl)));
        passes = tt;
        same = search rules;
      };
      less = search rules;
      way = search rules;
      freed = search rules;
      knows = search rules;
      tally = search rules;
    }

pub give_back_list-requires-clause-held : goal.give_back_list-requires-clause-held
give_back_list-requires-clause-held g c = user_holds c.args.self.now c.args.list.now
    c.in_ok-check_batch.ensures.refusals.passes.1.1.0
    (c.keeps_none_of.ensures.0 (let some = c.if-not-keeps_none_of.false in cc))

pub returns-clause-does : goal.returns-clause-does
returns-clause-does g c = let list = c.args.list.now in let cache = c.args.self.now in
    let new = c.give_back_list.new.self in let passed = c.in_ok-check_batch.ensures.refusals.passes in
    let none = c.keeps_none_of.ensures.0 (let some = c.if-not-keeps_none_of.false in cc) in
    let e = c.give_back_list.ensures in record {
      refusals = record {
        first = tt;
        passes = (passed.0, (passed.1.0, (user_holds cache list passed.1.1.0 none, tt)));
        same = tt;
      };
      less = list_less c.args.pool.now list cache new e.way;
      way = e.way;
      freed = e.freed;
      knows = e.knows;
      tally = list_tallies c.args.pool.now list cache new e.way;
    }
