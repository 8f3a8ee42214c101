-- The tag taken is the user's, and a refused take changes nothing that the user holds.
use Rattle.std.proofs.Common.{rules}
use Rattle.tag_cache.proofs.Carrying.{more_on, same_err, owns, take_still}
use Rattle.tag_cache.proofs.cache.Cache.take.Goals as goal

pub invariant_of-self : goal.invariant_of-self
invariant_of-self g c = let cache = c.args.self.now in let call = c.take in
    owns c.args.pool.now cache call.new.hand c.requires call.ensures.hand.0
    (take_still c.args.tag cache.hand call.new.hand call.result call.ensures.does.takes call.ensures.does.refuses)

pub returns-clause-does : goal.returns-clause-does
returns-clause-does g c = record {
  no_such_tag = search rules;
  more = more_on c.args.self.now _ (search rules) c.args.tag c.take.result c.take.ensures.does.takes;
  takes = search rules;
  kept = search rules;
  window = search rules;
  refuses = search rules;
  same = same_err c.args.self.now _ (search rules) c.args.tag c.take.result c.take.ensures.does.refuses;
}
