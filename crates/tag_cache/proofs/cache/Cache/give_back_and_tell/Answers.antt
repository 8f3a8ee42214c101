-- The kept tags went back, and telling those who wait changes nothing that the user holds.
use Rattle.tag_cache.proofs.Uses.{ap, Changes, max, Ordinary, rules, subst, ℕ, ◌∙◌}
use Rattle.tag_pool.specs.Sides as side
use Rattle.tag_model.proofs.HoldingFacts.{same_then_same}
use Rattle.tag_cache.proofs.Ringing.{sees_rests}
use Rattle.tag_cache.proofs.Steady.{owns_rests, same_tags}
use Rattle.tag_cache.proofs.Tallying.{tallies_on}
use Rattle.tag_cache.proofs.cache.Cache.give_back_and_tell.Goals as goal

pub invariant_of-self : goal.invariant_of-self
invariant_of-self g c = owns_rests c.args.pool.now c.flush_quietly-kept.new.self c.see_to.new.hand
    c.flush_quietly-kept.ensures.cache c.see_to.ensures.hand.0
    (sees_rests Ordinary _ side.see_to_steps c.see_to.result _ _ c.see_to.ensures.same c.see_to.ensures.sees_to)

pub returns-clause-gives : goal.returns-clause-gives
returns-clause-gives g c = let mid = c.flush_quietly-kept.new.self.hand in let told = c.see_to.result in record {
  between = mid;
  gives = c.flush_quietly-kept.ensures.does.gives;
  tells = subst (λ (n : ℕ). Changes Ordinary (side.SeesTo (max n 1) side.see_to_steps told) mid c.see_to.new.hand)
      (c.max.ensures ∙ ap (max c.args.freed) c.flush_quietly-kept.ensures.does.all) c.see_to.ensures.sees_to;
}

pub returns-clause-same : goal.returns-clause-same
returns-clause-same g c = let mid = c.flush_quietly-kept.new.self in
    same_then_same c.flush_quietly-kept.ensures.does.same
    (same_tags mid _ (search rules) (search rules)
    (sees_rests Ordinary _ side.see_to_steps c.see_to.result _ _ c.see_to.ensures.same c.see_to.ensures.sees_to)).held

pub returns-clause-tally : goal.returns-clause-tally
returns-clause-tally g c = let mid = c.flush_quietly-kept.new.self in
    tallies_on 0 0 c.args.self.now mid _ c.flush_quietly-kept.ensures.does.tally
    (same_tags mid _ (search rules) (search rules)
    (sees_rests Ordinary _ side.see_to_steps c.see_to.result _ _ c.see_to.ensures.same c.see_to.ensures.sees_to)).tally
