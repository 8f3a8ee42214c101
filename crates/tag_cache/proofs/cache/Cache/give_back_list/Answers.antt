-- If the kept tags may stay the list goes alone, and otherwise after them.
use Rattle.std.specs.Prelude.{◌↔◌}
use Rattle.tag_cache.specs.Calls.{GivesBack}
use Rattle.tag_cache.proofs.Uses.{AreHeldOnce, ap, arith, back_of, Cache, Contains, GivesKeptAndList, Hand, inr, IsHandOf, IsIn, IsKnown, KnowsNoneOf, Ordinary, refl, subst, sym}
use Rattle.tag_cache.proofs.Carrying.{own_after, same_fields, same_user}
use Rattle.tag_cache.proofs.ClearedLists.{all_still, goes_alone, hand_holds, last_one, learns_alone, not_listed}
use Rattle.tag_cache.proofs.cache.Cache.give_back_list.Goals as goal

pub clear_batch_held_quietly-requires-clause-hand : goal.clear_batch_held_quietly-requires-clause-hand
clear_batch_held_quietly-requires-clause-hand g c = subst (λ (h : Hand g.row.R.Denot). IsHandOf c.args.pool.now h)
    (sym (c.goes_on.ensures.on c.if-goes_on.true).same.hand) c.requires.cache

pub clear_batch_held_quietly-requires-clause-held : goal.clear_batch_held_quietly-requires-clause-held
clear_batch_held_quietly-requires-clause-held g c = let old = c.args.self.now in let mid = c.goes_on.new.self in
    let same = same_user old mid (c.goes_on.ensures.on c.if-goes_on.true).same in
    hand_holds mid c.args.list.now (all_still old mid c.args.list.now same c.requires.held.0, c.requires.held.1)

pub invariant_of-self-clause-own : goal.invariant_of-self-clause-own
invariant_of-self-clause-own g c = let old = c.args.self.now in let mid = c.goes_on.new.self in
    let list = c.args.list.now in let e = c.clear_batch_held_quietly.ensures in
    let on = (c.goes_on.ensures.on c.if-goes_on.true).same in let same = same_user old mid on in
    let mine = subst (λ (h : Hand g.row.R.Denot). IsHandOf c.args.pool.now h) (sym on.hand) c.requires.cache in
    own_after c.args.pool.now mid.first mid.kept mid.hand c.clear_batch_held_quietly.new.hand mine e.hand.0
    mid.own (λ other h i. (e.gives.less.kept other
    (λ inside. not_listed mid list (all_still old mid list same c.requires.held.0) other inside i) h).0)

pub invariant_of-self-clause-knows : goal.invariant_of-self-clause-knows
invariant_of-self-clause-knows g c = let mid = c.goes_on.new.self in let e = c.clear_batch_held_quietly.ensures in
    let on = c.goes_on.ensures.on c.if-goes_on.true in
    let mine = subst (λ (h : Hand g.row.R.Denot). IsHandOf c.args.pool.now h) (sym on.same.hand) c.requires.cache in
    own_after c.args.pool.now mid.first mid.known mid.hand c.clear_batch_held_quietly.new.hand mine e.hand.0
    mid.knows (λ other h i. (e.gives.less.kept other
    (λ inside. ((c.known_without_all-left.ensures other).0 ((on.knows other).0 i)).1 inside) h).0)

pub returns-then-goes_on : goal.returns-then-goes_on
returns-then-goes_on g c = let old = c.args.self.now in let mid = c.goes_on.new.self in let list = c.args.list.now in
    let left = c.known_without_all-left in let on = c.goes_on.ensures.on c.if-goes_on.true in
    let e = c.clear_batch_held_quietly.ensures in let back = e.back in
    let same = ap (λ (h : Hand g.row.R.Denot). back_of h Ordinary) on.same.hand in record {
      cache = e.hand.0;
      way = goes_alone c.args.pool.now list left.result old left.type_inv left.ensures mid _ on
          (record { gives = e.gives; back = e.back }) (same_fields mid _ refl refl refl refl refl);
      freed = omega arith;
      knows = learns_alone c.args.pool.now list left.result old left.type_inv left.ensures mid on;
    }

pub give_back_kept_and_list-requires-clause-cache : goal.give_back_kept_and_list-requires-clause-cache
give_back_kept_and_list-requires-clause-cache g c = subst (λ (x : Cache g.row.R.Denot). IsHandOf c.args.pool.now x.hand)
    (sym (c.goes_on.ensures.ends c.if-goes_on.false).1) c.requires.cache

pub give_back_kept_and_list-requires-clause-left : goal.give_back_kept_and_list-requires-clause-left
give_back_kept_and_list-requires-clause-left g c = λ other. subst
    (λ (x : Cache g.row.R.Denot). IsIn x.first c.known_without_all-left.result other ↔ (IsKnown x other × ¬ (Contains c.args.list.now other)))
    (sym (c.goes_on.ensures.ends c.if-goes_on.false).1) (c.known_without_all-left.ensures other)

pub give_back_kept_and_list-requires-clause-held : goal.give_back_kept_and_list-requires-clause-held
give_back_kept_and_list-requires-clause-held g c = subst (λ (x : Cache g.row.R.Denot). AreHeldOnce x c.args.list.now)
    (sym (c.goes_on.ensures.ends c.if-goes_on.false).1) c.requires.held

pub returns : goal.returns
returns g c = let pool = c.args.pool.now in let old = c.args.self.now in let new = c.give_back_kept_and_list.new.self in
    let list = c.args.list.now in let left = c.known_without_all-left in
    let ends = c.goes_on.ensures.ends c.if-goes_on.false in let e = c.give_back_kept_and_list.ensures in record {
      cache = e.cache;
      way = inr (
        last_one pool list left.result old left.type_inv left.ensures ends.0,
        subst (λ (x : Cache g.row.R.Denot). GivesKeptAndList pool list x new) ends.1 e.gives,
      );
      freed = subst (λ (x : Cache g.row.R.Denot). GivesBack c.give_back_kept_and_list.result x new) ends.1 e.freed;
      knows = subst (λ (x : Cache g.row.R.Denot). KnowsNoneOf list x new) ends.1 e.knows;
    }
