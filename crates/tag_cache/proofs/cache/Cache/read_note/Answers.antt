-- The hand keeps its tags with the values of their slots.
use Rattle.tag_cache.proofs.Uses.{rules}
use Rattle.tag_cache.proofs.Carrying.{note_same, owns, still_on}
use Rattle.tag_cache.proofs.cache.Cache.read_note.Goals as goal

pub invariant_of-self : goal.invariant_of-self
invariant_of-self g c = let cache = c.args.self.now in let call = c.read_note in
    owns c.args.pool.now cache call.new.hand c.requires call.ensures.hand.0
    (still_on cache.hand call.new.hand call.result _ call.ensures.does.reads call.ensures.does.refusals.same
    (λ answer reads tag h. (reads.same.kept tag h).0))

pub returns-clause-does : goal.returns-clause-does
returns-clause-does g c = record {
  hand = c.read_note.ensures.does;
  same = note_same c.args.self.now _ (search rules) c.args.tag c.read_note.result c.read_note.ensures.does.reads
      c.read_note.ensures.does.refusals.same;
  kept = search rules;
  window = search rules;
}
