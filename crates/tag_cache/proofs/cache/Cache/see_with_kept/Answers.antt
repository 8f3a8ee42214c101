-- Looking at who waits changes nothing; then the kept tags stay, or all go back.
use Rattle.tag_cache.proofs.Uses.{Bool, inl, inr, LooksForWaiters, Ordinary, rules, subst, ◌∙◌}
use Rattle.tag_model.proofs.HoldingFacts.{same_then_same}
use Rattle.tag_cache.proofs.Carrying.{terms_twice}
use Rattle.tag_cache.proofs.SameWindows.{window_twice}
use Rattle.tag_cache.proofs.Ringing.{looks_rests}
use Rattle.tag_cache.proofs.Steady.{owns_rests, same_tags}
use Rattle.tag_cache.proofs.Tallying.{tallies_on}
use Rattle.tag_cache.proofs.cache.Cache.see_with_kept.Goals as goal

pub invariant_of-self : goal.invariant_of-self
invariant_of-self g c = owns_rests c.args.pool.now c.args.self.now c.finds_waiters.new.hand c.requires
    c.finds_waiters.ensures.hand.0
    (looks_rests Ordinary c.finds_waiters.result _ _ c.finds_waiters.ensures.same c.finds_waiters.ensures.looks)

pub returns-then-not-finds_waiters-clause-does : goal.returns-then-not-finds_waiters-clause-does
returns-then-not-finds_waiters-clause-does g c = let old = c.args.self.now in let looked = c.finds_waiters.new.hand in
    let e = c.finds_waiters.ensures in
    let rest = same_tags old _ (search rules) (search rules) (looks_rests Ordinary c.finds_waiters.result _ _ e.same e.looks) in
    record {
      way = inl (record {
        looks = subst (λ (b : Bool). LooksForWaiters b old.hand looked) c.if-not-finds_waiters.true e.looks;
        none = search rules;
        kept = rest.kept;
      });
      done = e.looks.changed.done c.if-not-finds_waiters.true;
      same = rest.held;
      tally = rest.tally;
      terms = rest.kept.terms;
      reused = rest.kept.reused;
      window = rest.window;
    }

pub returns-clause-does : goal.returns-clause-does
returns-clause-does g c = let old = c.args.self.now in let looked = c.finds_waiters.new.hand in
    let new = c.give_back_and_tell.new.self in let e = c.finds_waiters.ensures in
    let t = c.give_back_and_tell.ensures in
    let rest = same_tags old _ (search rules) (search rules) (looks_rests Ordinary c.finds_waiters.result _ _ e.same e.looks) in
    record {
      way = inr (record {
        looked = looked;
        looks = subst (λ (b : Bool). LooksForWaiters b old.hand looked) c.if-not-finds_waiters.false e.looks;
        gives = record {
          between = t.gives.between;
          gives = record { none = t.gives.gives.none; some = t.gives.gives.some };
          tells = t.gives.tells;
        };
        none = t.none;
      });
      done = t.gives.tells.changed.done;
      same = same_then_same rest.held t.same;
      tally = tallies_on 0 0 old _ new rest.tally t.tally;
      terms = terms_twice rest.kept.terms t.terms;
      reused = t.reused ∙ rest.kept.reused;
      window = window_twice old _ new rest.window t.window;
    }
