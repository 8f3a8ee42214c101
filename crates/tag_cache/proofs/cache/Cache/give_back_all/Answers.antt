-- The kept tags go back, and then this one.
use Rattle.std.specs.Prelude.{◌≤◌}
use Rattle.tag_cache.proofs.Uses.{arith, inl, refl, subst, sym, ℕ, ◌∙◌}
use Rattle.tag_cache.proofs.Carrying.{none_after, terms_twice}
use Rattle.tag_cache.proofs.Giving.{flushed, kept_back}
use Rattle.tag_cache.proofs.Going.{ordinary_back}
use Rattle.tag_cache.proofs.SameWindows.{same_known, same_then_knows_less}
use Rattle.tag_cache.proofs.cache.Cache.give_back_all.Goals as goal

pub give_back-requires-clause-other : goal.give_back-requires-clause-other
give_back-requires-clause-other g c = inl (c.keeps_none.ensures.0 c.if-keeps_none.true)

pub returns-then-keeps_none-clause-goes : goal.returns-then-keeps_none-clause-goes
returns-then-keeps_none-clause-goes g c = let none = c.keeps_none.ensures.0 c.if-keeps_none.true in
    let back = c.give_back.ensures.goes in record {
      gives = record {
        between = c.args.self.now.hand;
        kept = record { none = λ n. refl; some = λ some. absurd (some none) };
        gives = back.gives;
      };
      none = none_after c.args.self.now c.give_back.new.self none back.kept;
      terms = back.kept.terms;
      reused = back.kept.reused;
    }

pub returns-then-keeps_none-clause-freed : goal.returns-then-keeps_none-clause-freed
returns-then-keeps_none-clause-freed g c = ordinary_back c.args.pool.now c.args.tag c.args.self.now.hand
    c.give_back.new.self.hand c.requires.cache.2 c.requires.ordinary c.give_back.ensures.goes.gives

pub give_back-requires-2-clause-held : goal.give_back-requires-2-clause-held
give_back-requires-2-clause-held g c = let e = c.give_back_kept-kept.ensures in
    ((flushed c.args.pool.now c.args.self.now c.give_back_kept-kept.new.self e.gives e.none).kept c.args.tag
    c.requires.held).0

pub give_back-requires-2-clause-other : goal.give_back-requires-2-clause-other
give_back-requires-2-clause-other g c = inl c.give_back_kept-kept.ensures.none

pub returns-clause-goes : goal.returns-clause-goes
returns-clause-goes g c = let s = c.give_back_kept-kept.ensures in let back = c.give_back-2.ensures.goes in record {
  gives = record { between = c.give_back_kept-kept.new.self.hand; kept = s.gives; gives = back.gives };
  none = none_after c.give_back_kept-kept.new.self c.give_back-2.new.self s.none back.kept;
  terms = terms_twice s.terms back.kept.terms;
  reused = back.kept.reused ∙ s.reused;
}

pub returns-clause-freed : goal.returns-clause-freed
returns-clause-freed g c = let s = c.give_back_kept-kept.ensures in let mid = c.give_back_kept-kept.new.self in
    let kept = kept_back c.args.pool.now c.args.self.now c.args.self.now.hand mid.hand s.gives in let count = s.freed in
    let one = ordinary_back c.args.pool.now c.args.tag mid.hand c.give_back-2.new.self.hand s.cache.2
    (subst (λ (n : ℕ). n ≤ c.args.tag) (c.requires.cache.2 ∙ sym s.cache.2) c.requires.ordinary)
    c.give_back-2.ensures.goes.gives in omega arith

pub returns-clause-knows : goal.returns-clause-knows
returns-clause-knows g c = let w = c.give_back_kept-kept.ensures.window in let old = c.args.self.now in
    let mid = c.give_back_kept-kept.new.self in
    same_then_knows_less c.args.tag old mid c.give_back-2.new.self (same_known old mid w.0 w.1)
    c.give_back-2.ensures.knows
