-- The tag is forgotten, and then the hand gives it up.
use Rattle.tag_cache.proofs.Uses.{Hand, IsHandOf, refl, rules, subst, sym}
use Rattle.tag_cache.proofs.Carrying.{owns_but, post_still}
use Rattle.tag_cache.proofs.Posting.{forgotten_passes, posts_moves}
use Rattle.tag_cache.proofs.Reusing.{held_still, known_held}
use Rattle.tag_cache.proofs.Tallying.{moves_tallies, tallies_on, unchanged_tallies}
use Rattle.tag_cache.proofs.Below.{held_passes}
use Rattle.tag_cache.proofs.cache.Cache.post_alone.Goals as goal

pub post_noted-requires : goal.post_noted-requires
post_noted-requires g c = record {
  note = c.requires.note;
  hand = subst (λ (h : Hand g.row.R.Denot). IsHandOf c.args.pool.now h) (sym c.forget.ensures.same.hand)
      c.requires.cache;
}

pub unreachable-requires : goal.unreachable-requires
unreachable-requires g c = held_passes c.args.pool.now c.args.self.now.hand c.args.tag c.requires.cache
    (known_held c.args.self.now c.args.tag c.requires.known).0 c.in_default.field-0
    (search rules)

pub invariant_of-self : goal.invariant_of-self
invariant_of-self g c = let cache = c.args.self.now in let mid = c.forget.new.self in let call = c.post_noted in
    owns_but c.args.pool.now mid call.new.hand
    (subst (λ (h : Hand g.row.R.Denot). IsHandOf c.args.pool.now h) (sym c.forget.ensures.same.hand) c.requires.cache)
    call.ensures.hand.0 c.args.tag
    (held_still cache mid c.args.tag c.forget.ensures.same (known_held cache c.args.tag c.requires.known)).1
    (λ l. ((c.forget.ensures.knows c.args.tag).0 l).1 refl)
    (post_still c.args.tag c.args.note mid.hand call.new.hand call.result call.ensures.does.posts call.ensures.does.refusals.same)

pub returns-clause-passes : goal.returns-clause-passes
returns-clause-passes g c = forgotten_passes c.args.tag c.args.note c.args.self.now c.forget.new.self _ c.forget.ensures
    (search rules) (search rules) c.in-Ok.ensures.does.posts

pub returns-clause-tally : goal.returns-clause-tally
returns-clause-tally g c = tallies_on 0 0 c.args.self.now c.forget.new.self _
    (unchanged_tallies c.args.self.now c.forget.new.self c.forget.ensures.same)
    (moves_tallies 0 0 c.forget.new.self _ (search rules) (posts_moves c.args.tag c.args.note _ _ c.in-Ok.ensures.does.posts))
