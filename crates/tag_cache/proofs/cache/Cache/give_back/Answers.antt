-- The tag is forgotten, and then the hand gives it back.
use Rattle.tag_cache.proofs.Uses.{GivesOne, Hand, IsHandOf, IsKept, refl, subst, sym, ℕ}
use Rattle.tag_cache.proofs.Carrying.{keeps_twice, own_after, same_fields}
use Rattle.tag_cache.proofs.Reusing.{held_still}
use Rattle.tag_cache.proofs.cache.Cache.give_back.Goals as goal

pub clear_held_quietly-requires-clause-held : goal.clear_held_quietly-requires-clause-held
clear_held_quietly-requires-clause-held g c = (held_still c.args.self.now c.forget.new.self c.args.tag c.forget.ensures.same
    c.requires.held).0

pub invariant_of-self-clause-own : goal.invariant_of-self-clause-own
invariant_of-self-clause-own g c = let mid = c.forget.new.self in let held = held_still c.args.self.now mid c.args.tag
    c.forget.ensures.same c.requires.held in
    let own = subst (λ (h : Hand g.row.R.Denot). IsHandOf c.args.pool.now h) (sym c.forget.ensures.same.hand)
    c.requires.cache in
    own_after c.args.pool.now mid.first mid.kept mid.hand c.clear_held_quietly.new.hand own
    c.clear_held_quietly.ensures.hand.0 mid.own (λ other h i. (c.clear_held_quietly.ensures.clears.less.kept other
    (λ e. held.1 (subst (λ (t : ℕ). IsKept mid t) e i)) h).0)

pub invariant_of-self-clause-knows : goal.invariant_of-self-clause-knows
invariant_of-self-clause-knows g c = let mid = c.forget.new.self in
    let own = subst (λ (h : Hand g.row.R.Denot). IsHandOf c.args.pool.now h) (sym c.forget.ensures.same.hand)
    c.requires.cache in
    own_after c.args.pool.now mid.first mid.known mid.hand c.clear_held_quietly.new.hand own
    c.clear_held_quietly.ensures.hand.0 mid.knows (λ other h i. (c.clear_held_quietly.ensures.clears.less.kept other
    (λ e. ((c.forget.ensures.knows other).0 i).1 e) h).0)

pub returns-clause-goes : goal.returns-clause-goes
returns-clause-goes g c = let mid = c.forget.new.self in record {
  gives = subst (λ (h : Hand g.row.R.Denot). GivesOne c.args.pool.now c.args.tag h c.clear_held_quietly.new.hand)
      c.forget.ensures.same.hand
      (record { clears = c.clear_held_quietly.ensures.clears; back = c.clear_held_quietly.ensures.back });
  kept = keeps_twice c.args.self.now mid _ c.forget.ensures.same.kept (same_fields mid _ refl refl refl refl refl);
}
