-- The hand keeps its tags, with the values of all slots but this one.
use Rattle.std.proofs.Common.{rules}
use Rattle.tag_cache.proofs.Below.{held_allowed}
use Rattle.tag_cache.proofs.Reusing.{known_held}
use Rattle.tag_cache.proofs.cache.Cache.write.Goals as goal

pub returns-then-knows-clause-does : goal.returns-then-knows-clause-does
returns-then-knows-clause-does g c = let held = known_held c.args.self.now c.args.tag (c.knows.ensures.0 c.if-knows.true) in
    record {
      refusals = held_allowed c.args.pool.now c.args.self.now c.args.tag c.requires held _ _;
      former = search rules;
      writes = search rules;
      hand = search rules;
      kept = search rules;
      window = search rules;
    }
