-- The tags that the hand gains are the user's.
use Rattle.std.proofs.Common.{rules}
use Rattle.tag_cache.proofs.Carrying.{owns}
use Rattle.tag_cache.proofs.Gaining.{batch_quiet_call, gained_still, more_of}
use Rattle.tag_cache.proofs.cache.Cache.get_batch_quietly.Goals as goal

pub invariant_of-self : goal.invariant_of-self
invariant_of-self g c = let cache = c.args.self.now in let call = c.get_batch_quietly in
    let does = call.ensures.does in
    owns c.args.pool.now cache call.new.hand c.requires call.ensures.hand.0 (gained_still
    (batch_quiet_call c.args.pool.now cache.hand call.new.hand c.args.n _ call.result does.refusals does.round_robin
    does.gets))

pub returns-clause-does : goal.returns-clause-does
returns-clause-does g c = let cache = c.args.self.now in let call = c.get_batch_quietly in
    let does = call.ensures.does in
    let gain = batch_quiet_call c.args.pool.now cache.hand call.new.hand c.args.n _ call.result does.refusals
    does.round_robin does.gets in record {
      refusals = search rules;
      round_robin = search rules;
      gets = search rules;
      left = search rules;
      more = more_of cache _ (search rules) gain;
      kept = search rules;
      window = search rules;
      tally = search rules;
    }
