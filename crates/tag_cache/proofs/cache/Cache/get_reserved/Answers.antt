-- The tag that the hand gains is the user's.
use Rattle.std.proofs.Common.{rules}
use Rattle.tag_cache.proofs.Uses.{Reserved}
use Rattle.tag_cache.proofs.Carrying.{owns}
use Rattle.tag_cache.proofs.Gaining.{gained_still, get_call, more_of}
use Rattle.tag_cache.proofs.cache.Cache.get_reserved.Goals as goal

pub invariant_of-self : goal.invariant_of-self
invariant_of-self g c = let cache = c.args.self.now in let call = c.get_reserved in
    owns c.args.pool.now cache call.new.hand c.requires call.ensures.hand.0 (gained_still
    (get_call c.args.pool.now cache.hand call.new.hand Reserved call.result
    call.ensures.gets call.ensures.refusals.same))

pub returns : goal.returns
returns g c = let cache = c.args.self.now in let call = c.get_reserved in
    let gain = get_call c.args.pool.now cache.hand call.new.hand Reserved call.result
    call.ensures.gets call.ensures.refusals.same in record {
      cache = search rules;
      refusals = search rules;
      gets = search rules;
      more = more_of cache _ (search rules) gain;
      kept = search rules;
      window = search rules;
      tally = search rules;
    }
