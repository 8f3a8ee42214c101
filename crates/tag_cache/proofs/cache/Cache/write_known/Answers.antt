-- The hand keeps its tags, with the values of all slots but this one.
use Rattle.std.proofs.Common.{rules}
use Rattle.tag_cache.proofs.Carrying.{writes, owns}
use Rattle.tag_cache.proofs.Reusing.{known_held}
use Rattle.tag_cache.proofs.cache.Cache.write_known.Goals as goal

pub write_ordinary_held-requires-clause-held : goal.write_ordinary_held-requires-clause-held
write_ordinary_held-requires-clause-held g c = (known_held c.args.self.now c.args.tag c.requires.known).0

pub invariant_of-self : goal.invariant_of-self
invariant_of-self g c = let call = c.write_ordinary_held in
    owns c.args.pool.now c.args.self.now call.new.hand c.requires.cache call.ensures.hand.0 call.ensures.writes.kept

pub returns-clause-writes : goal.returns-clause-writes
returns-clause-writes g c = writes c.args.self.now _ (search rules) c.args.tag c.args.value
    c.write_ordinary_held.ensures.writes
