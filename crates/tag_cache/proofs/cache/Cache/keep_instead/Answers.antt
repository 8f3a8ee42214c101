-- The kept tags go back, and then there is a place for the tag, where none is kept.
use Rattle.std.specs.Prelude.{◌≤◌}
use Rattle.tag_cache.proofs.Uses.{GivesKept, Hand, subst, sym, ℕ, ◌∙◌}
use Rattle.tag_cache.proofs.Cautious.{can_still, has_place, last_back, only_after}
use Rattle.tag_cache.proofs.Giving.{flushed}
use Rattle.tag_cache.proofs.SameWindows.{leaves_still, same_known, same_then_knows_less}
use Rattle.tag_cache.proofs.cache.Cache.keep_instead.Goals as goal

pub keep-requires-clause-held : goal.keep-requires-clause-held
keep-requires-clause-held g c = let e = c.give_back_kept-freed.ensures in
    ((flushed c.args.pool.now c.args.self.now c.give_back_kept-freed.new.self e.gives e.none).kept c.args.tag
    c.requires.held).0

pub keep-requires-clause-ordinary : goal.keep-requires-clause-ordinary
keep-requires-clause-ordinary g c = subst (λ (s : ℕ). s ≤ c.args.tag)
    (c.requires.cache.2 ∙ sym c.give_back_kept-freed.ensures.cache.2) c.requires.ordinary

pub keep-requires-clause-can : goal.keep-requires-clause-can
keep-requires-clause-can g c = let e = c.give_back_kept-freed.ensures in can_still c.args.tag c.args.self.now
    c.give_back_kept-freed.new.self e.terms e.reused e.window.0 c.requires.can

pub keep-requires-clause-place : goal.keep-requires-clause-place
keep-requires-clause-place g c = let e = c.give_back_kept-freed.ensures in has_place c.args.tag c.args.self.now
    c.give_back_kept-freed.new.self e.terms e.reused e.window.0 e.none c.requires.can

pub keep-requires-clause-other : goal.keep-requires-clause-other
keep-requires-clause-other g c = let e = c.give_back_kept-freed.ensures in λ last. c.requires.other
    (last_back c.args.tag c.args.self.now c.give_back_kept-freed.new.self e.terms e.reused e.window.0 e.window.1 last)

pub returns-clause-goes : goal.returns-clause-goes
returns-clause-goes g c = let old = c.args.self.now in let e = c.give_back_kept-freed.ensures in record {
  gives = subst (λ (h : Hand g.row.R.Denot). GivesKept c.args.pool.now old old.hand h) (sym c.keep.ensures.hand) e.gives;
  only = only_after c.args.tag old c.give_back_kept-freed.new.self e.terms e.reused e.window.0 e.none c.keep.new.self
      c.keep.ensures.also;
}

pub returns-clause-knows : goal.returns-clause-knows
returns-clause-knows g c = λ leaves. let old = c.args.self.now in let e = c.give_back_kept-freed.ensures in
    let mid = c.give_back_kept-freed.new.self in
    same_then_knows_less c.args.tag old mid c.keep.new.self (same_known old mid e.window.0 e.window.1)
    (c.keep.ensures.knows (leaves_still c.args.tag old mid e.window.0 e.terms.keeping leaves))
