-- The window is at the tag, where there is a place for it.
use Rattle.std.specs.Prelude.{◌≤◌}
use Rattle.tag_cache.proofs.Uses.{Cache, Hand, inr, IsLast, KnowsLess, subst, sym, ◌∙◌}
use Rattle.tag_pool.specs.Hands as hands
use Rattle.tag_cache.proofs.KeptInWindow.{also_from, can_there, place_there, within}
use Rattle.tag_cache.proofs.Reusing.{held_still}
use Rattle.tag_cache.proofs.cache.Cache.keep.Goals as goal

pub keep_at-requires-clause-held : goal.keep_at-requires-clause-held
keep_at-requires-clause-held g c = held_still c.args.self.now c.follow.new.self c.args.tag c.follow.ensures.same
    c.requires.held

pub keep_at-requires-clause-ordinary : goal.keep_at-requires-clause-ordinary
keep_at-requires-clause-ordinary g c = subst (λ (h : Hand g.row.R.Denot). hands.split_of h ≤ c.args.tag)
    (sym c.follow.ensures.same.hand) c.requires.ordinary

pub keep_at-requires-clause-offset : goal.keep_at-requires-clause-offset
keep_at-requires-clause-offset g c = let low = c.offset-offset.ensures.within.1 (within c.args.tag c.args.self.now
    c.follow.new.self c.follow.ensures.same c.follow.ensures.aimed c.requires.can c.requires.place) in
    (c.offset-offset.ensures.offset low, low)

pub keep_at-requires-clause-can : goal.keep_at-requires-clause-can
keep_at-requires-clause-can g c = can_there c.args.tag c.args.self.now c.follow.new.self c.follow.ensures.same
    c.follow.ensures.aimed c.requires.can c.requires.place

pub keep_at-requires-clause-place : goal.keep_at-requires-clause-place
keep_at-requires-clause-place g c = place_there c.args.tag c.args.self.now c.follow.new.self c.follow.ensures.same
    c.follow.ensures.aimed c.requires.can c.requires.place

pub keep_at-requires-clause-other : goal.keep_at-requires-clause-other
keep_at-requires-clause-other g c = λ last. c.requires.other (subst (λ (x : Cache g.row.R.Denot). IsLast c.args.tag x)
    (c.follow.ensures.still (inr (sym c.follow.ensures.same.kept.terms.keeping ∙ last.0))) last)

pub returns-clause-also : goal.returns-clause-also
returns-clause-also g c = also_from c.args.tag c.args.self.now c.follow.new.self c.keep_at.new.self
    c.follow.ensures.same.kept c.keep_at.ensures.also

pub returns-clause-knows : goal.returns-clause-knows
returns-clause-knows g c = λ leaves. subst (λ (x : Cache g.row.R.Denot). KnowsLess c.args.tag x c.keep_at.new.self)
    (c.follow.ensures.still leaves) c.keep_at.ensures.knows
