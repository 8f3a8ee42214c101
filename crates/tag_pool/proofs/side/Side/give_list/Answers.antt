-- Gives leave the caller's number unchanged, and take at most one step for each tag.
use Rattle.tag_pool.proofs.Uses.{ap, arith, numbers_of, Record, record_of, ◌∙◌}
use Rattle.tag_core.specs.Callers.{layout_of}
use Rattle.tag_pool.proofs.OrdinaryNumbers.{number_count}
use Rattle.tag_pool.proofs.RunMasks.{few_gives, same_number}
use Rattle.tag_pool.proofs.side.Side.give_list.Goals as goal

pub invariant_of-self : goal.invariant_of-self
invariant_of-self g c = let gives = c.give_all.ensures.gives in record {
  numbers = ap (λ (r : Record g.row.R.Denot). r.number) gives.known
      ∙ same_number gives.runs (record_of c.args.self.now.caller) ∙ c.args.self.now.numbers;
}

pub returns-clause-bound : goal.returns-clause-bound
returns-clause-bound g c = let same = number_count c.args.first c.args.tags.now in
    let few = few_gives (layout_of c.args.map.now) (numbers_of c.args.first c.args.tags.now) c.args.self.now.caller
    c.give_all.new.caller c.give_all.ensures.gives in omega arith
