-- The hand keeps its tags with the values of their slots.
use Rattle.tag_cache.proofs.Uses.{IsKept, rules}
use Rattle.tag_cache.proofs.Carrying.{not_true, same_on, owns, still_on}
use Rattle.tag_cache.proofs.Below.{unkept_refuses, held_allowed}
use Rattle.tag_cache.proofs.Reusing.{known_held}
use Rattle.tag_cache.proofs.cache.Cache.read.Goals as goal

pub invariant_of-self : goal.invariant_of-self
invariant_of-self g c = let cache = c.args.self.now in let call = c.read in
    owns c.args.pool.now cache call.new.hand c.requires call.ensures.hand.0
    (still_on cache.hand call.new.hand call.result _ call.ensures.does.reads call.ensures.does.refusals.same
    (λ value reads tag h. (reads.same.kept tag h).0))

pub returns-then-knows-clause-does : goal.returns-then-knows-clause-does
returns-then-knows-clause-does g c = let held = known_held c.args.self.now c.args.tag (c.knows.ensures.0 c.if-knows.true) in
    record {
      refusals = held_allowed c.args.pool.now c.args.self.now c.args.tag c.requires held _ _;
      value = search rules;
      reads = search rules;
      same = search rules;
      kept = search rules;
      window = search rules;
    }

pub returns-clause-does : goal.returns-clause-does
returns-clause-does g c = let not = not_true _ (IsKept c.args.self.now c.args.tag) c.keeps.ensures c.if-keeps.false in
    record {
      refusals = unkept_refuses c.args.pool.now c.args.self.now c.args.tag not c.read.result _ _ (search rules)
          c.read.ensures.does.refusals;
      value = search rules;
      reads = search rules;
      same = same_on c.args.self.now _ (search rules) c.args.tag c.read.result c.read.ensures.does.reads;
      kept = search rules;
      window = search rules;
    }
