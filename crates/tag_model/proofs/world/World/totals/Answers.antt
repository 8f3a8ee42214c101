-- Sums of lists are sums over tags and callers, and a sound world balances.
use Rattle.tag_model.proofs.Uses.{ap, AreTotals, arith, callers_of, get_or, IsSound, KeptWorld, subst, sum, sum-below, sum_below, world_of, ◌∙◌}
use Rattle.tag_model.proofs.KeptFacts.{got-fits, back-fits}
use Rattle.tag_model.proofs.world.World.totals.Goals as goal

pub sum_of-requires : goal.sum_of-requires
sum_of-requires c =
    let old : KeptWorld = record {
      layout = c.self.inside.entries.layout;
      places = c.self.inside.entries.places;
      won = c.self.inside.won.items;
      back = c.self.inside.back.items;
    } in
    let fits = got-fits old c.self.invariant in
    let is = ap sum c.deref.ensures.value ∙ sum-below c.self.inside.won.items in omega arith

pub sum_of-requires-2 : goal.sum_of-requires-2
sum_of-requires-2 c =
    let old : KeptWorld = record {
      layout = c.self.inside.entries.layout;
      places = c.self.inside.entries.places;
      won = c.self.inside.won.items;
      back = c.self.inside.back.items;
    } in
    let fits = back-fits old c.self.invariant in
    let is = ap sum c.deref-2.ensures.value ∙ sum-below c.self.inside.back.items in
    let both = ap (sum_below (λ k. get_or c.self.inside.back.items k 0)) c.self.invariant.both_counts in omega arith

pub returns-clause-sums : goal.returns-clause-sums
returns-clause-sums c =
    let old : KeptWorld = record {
      layout = c.self.inside.entries.layout;
      places = c.self.inside.entries.places;
      won = c.self.inside.won.items;
      back = c.self.inside.back.items;
    } in
    subst (λ (kept : KeptWorld). AreTotals kept.layout (callers_of kept) (world_of kept) record {
      got = c.sum_of.result;
      back = c.sum_of-2.result;
      held = c.held.result;
      posted = c.posted.result;
    }) c.self.view_is
    (record {
      got = c.sum_of.ensures ∙ ap sum c.deref.ensures.value ∙ sum-below old.won;
      back = c.sum_of-2.ensures ∙ ap sum c.deref-2.ensures.value ∙ sum-below old.back
          ∙ ap (sum_below (λ k. get_or old.back k 0)) c.self.invariant.both_counts;
      held = c.held.ensures;
      posted = c.posted.ensures;
    })

pub returns-clause-balance : goal.returns-clause-balance
returns-clause-balance c =
    let sums = returns-clause-sums c in
    let balance = subst (λ (kept : KeptWorld). IsSound kept) c.self.view_is c.self.invariant in
    let even = balance.balances in let a = sums.got in let b = sums.back in let h = sums.held in
    let p = sums.posted in omega arith
