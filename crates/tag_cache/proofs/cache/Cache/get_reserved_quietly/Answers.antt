-- The tag that the hand gains is the user's.
use Rattle.std.proofs.Common.{rules}
use Rattle.tag_cache.proofs.Uses.{Reserved}
use Rattle.tag_cache.proofs.Carrying.{owns}
use Rattle.tag_cache.proofs.Gaining.{reserved_quiet_call, gained_still, more_of, tag_in}
use Rattle.tag_cache.proofs.cache.Cache.get_reserved_quietly.Goals as goal

pub invariant_of-self : goal.invariant_of-self
invariant_of-self g c = let cache = c.args.self.now in let call = c.get_reserved_quietly in
    owns c.args.pool.now cache call.new.hand c.requires call.ensures.hand.0
    (gained_still (reserved_quiet_call c.args.pool.now cache.hand call.new.hand call.result call.ensures.does))

pub returns-clause-does : goal.returns-clause-does
returns-clause-does g c = let cache = c.args.self.now in let call = c.get_reserved_quietly in
    let gain = reserved_quiet_call c.args.pool.now cache.hand call.new.hand call.result call.ensures.does in record {
      refusals = search rules;
      gets = search rules;
      left = search rules;
      more = more_of cache _ (search rules) gain;
      reserved = tag_in c.args.pool.now Reserved cache.hand call.new.hand call.result call.ensures.does.gets;
      kept = search rules;
      window = search rules;
      tally = search rules;
    }
