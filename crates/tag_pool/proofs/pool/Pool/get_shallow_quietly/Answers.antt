-- The number found is one of the ordinary set, so adding the reserved tags gives the tag that the hand gains.
use Rattle.tag_pool.proofs.Uses.{arith, Option, rules, subst, sym, ℕ}
use Rattle.tag_pool.specs.Gets.{GetsShallow}
use Rattle.tag_pool.proofs.Uses.{Ordinary}
use Rattle.tag_pool.proofs.Getting.{found_low, shallow_of}
use Rattle.tag_pool.proofs.pool.Pool.get_shallow_quietly.Goals as goal

pub ordinary_tag-answer-requires : goal.ordinary_tag-answer-requires
ordinary_tag-answer-requires g c = found_low c.args.self.now c.args.hand.now c.requires.hand Ordinary c.get_shallow.new.self
    c.get_shallow.ensures.side.0 c.in-Ok.field-0.answer c.in-Ok.ensures.gets.searches.gains.acquires

pub returns-clause-does : goal.returns-clause-does
returns-clause-does g c = let pool = c.args.self.now in let hand = c.args.hand.now in let new = c.get_shallow.new.self in record {
  refusals = record { first = tt; passes = (search rules, (c.get_shallow.ensures.room.0 (search rules), tt)); same = tt };
  gets = subst (λ (o : Option ℕ). GetsShallow pool c.args.depth o hand (record hand { ordinary = new }))
      (sym c.ordinary_tag-answer.ensures)
      (shallow_of pool hand c.requires.hand new c.get_shallow.ensures.side.0 c.args.depth c.in-Ok.field-0.answer
      c.in-Ok.ensures.gets);
  left = c.in-Ok.ensures.left;
  bound = let most = c.get_shallow.ensures.bound in omega arith;
}
