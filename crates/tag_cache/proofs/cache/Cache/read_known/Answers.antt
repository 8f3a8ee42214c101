-- The hand keeps its tags with the values of their slots.
use Rattle.std.proofs.Common.{rules}
use Rattle.tag_cache.proofs.Carrying.{same, owns}
use Rattle.tag_cache.proofs.Reusing.{known_held}
use Rattle.tag_cache.proofs.cache.Cache.read_known.Goals as goal

pub read_held-requires-clause-held : goal.read_held-requires-clause-held
read_held-requires-clause-held g c = (known_held c.args.self.now c.args.tag c.requires.known).0

pub invariant_of-self : goal.invariant_of-self
invariant_of-self g c = owns c.args.pool.now c.args.self.now c.read_held.new.hand c.requires.cache
    c.read_held.ensures.hand.0 (λ other h. (c.read_held.ensures.reads.same.kept other h).0)

pub returns-clause-same : goal.returns-clause-same
returns-clause-same g c = same c.args.self.now _ (search rules) c.read_held.ensures.reads.same
