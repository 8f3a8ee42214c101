-- The tag that the hand gains is the user's.
use Rattle.std.proofs.Common.{rules}
use Rattle.tag_cache.proofs.Carrying.{owns}
use Rattle.tag_cache.proofs.Gaining.{shallow_call, gained_still, more_of}
use Rattle.tag_cache.proofs.cache.Cache.get_shallow.Goals as goal

pub invariant_of-self : goal.invariant_of-self
invariant_of-self g c = let cache = c.args.self.now in let call = c.get_shallow in
    owns c.args.pool.now cache call.new.hand c.requires call.ensures.hand.0 (gained_still
    (shallow_call c.args.pool.now cache.hand call.new.hand c.args.depth call.result
    call.ensures.gets call.ensures.refusals.same))

pub returns : goal.returns
returns g c = let cache = c.args.self.now in let call = c.get_shallow in
    let gain = shallow_call c.args.pool.now cache.hand call.new.hand c.args.depth call.result
    call.ensures.gets call.ensures.refusals.same in record {
      cache = search rules;
      refusals = search rules;
      gets = search rules;
      more = more_of cache _ (search rules) gain;
      kept = search rules;
      window = search rules;
      tally = search rules;
    }
