-- A hand that belongs to the pool makes a cache that does.
use Rattle.tag_bench.proofs.Uses.{All, arith, Cache, IsCacheOf, IsHandOf, List, Some, subst, sym, ℕ}
use Rattle.std.proofs.lemmas.List.Elements.{All-pop, All-push}
use Rattle.tag_pool.specs.declared.hand.Hand.{Hand}
use Rattle.tag_bench.proofs.shared_cache.CachedTagAllocator.open.Goals as goal

pub loop-hand-preserved : goal.loop-hand-preserved
loop-hand-preserved c = let inv = c.loop-hand.invariant in let pool = c.in_ok-pool.pool in
    let parts = All-pop (IsHandOf pool) c.loop-hand.hands.items c.pop.new.self.items (Some c.in-Some.hand)
    c.in-Some.ensures.items inv.left in
    let one : IsCacheOf pool c.new.result = subst (λ (h : Hand ℕ). IsHandOf pool h) (sym c.new.ensures.hand) parts.1 in
    let all = All-push (IsCacheOf pool) c.loop-hand.caches.items c.new.result inv.own one in record {
      left = parts.0;
      own = subst (λ (cs : List (Cache ℕ)). All (IsCacheOf pool) cs) (sym c.push_reserved.ensures.items) all;
      fit = (let a = c.in-Some.ensures.len in let b = c.push_reserved.ensures.len in
          let r = c.push_reserved.ensures.capacity in let d = inv.fit in omega arith);
    }
