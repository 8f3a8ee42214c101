-- The tags that the hand gains are the user's.
use Rattle.std.proofs.Common.{rules}
use Rattle.tag_cache.proofs.Carrying.{owns}
use Rattle.tag_cache.proofs.Gaining.{batch_call, gained_still, more_of}
use Rattle.tag_cache.proofs.cache.Cache.get_batch.Goals as goal

pub invariant_of-self : goal.invariant_of-self
invariant_of-self g c = let cache = c.args.self.now in let call = c.get_batch in
    owns c.args.pool.now cache call.new.hand c.requires call.ensures.hand.0 (gained_still
    (batch_call c.args.pool.now cache.hand call.new.hand c.args.n _ call.result call.ensures.refusals
    call.ensures.round_robin call.ensures.gets))

pub returns : goal.returns
returns g c = let cache = c.args.self.now in let call = c.get_batch in
    let gain = batch_call c.args.pool.now cache.hand call.new.hand c.args.n _ call.result call.ensures.refusals
    call.ensures.round_robin call.ensures.gets in record {
      cache = search rules;
      refusals = search rules;
      round_robin = search rules;
      gets = search rules;
      more = more_of cache _ (search rules) gain;
      kept = search rules;
      window = search rules;
      tally = search rules;
    }
