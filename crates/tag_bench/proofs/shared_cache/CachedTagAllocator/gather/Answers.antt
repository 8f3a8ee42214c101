-- The cache stood first among the rest, which are all caches at first.
use Rattle.tag_bench.proofs.Uses.{All, ap, arith, into_iter_items, IsCacheOf, length, subst, suc, sym}
use Rattle.std.proofs.Common.{◌≡◌}
use Rattle.tag_bench.proofs.shared_cache.CachedTagAllocator.gather.Goals as goal

pub loop-cache-init : goal.loop-cache-init
loop-cache-init c =
    let whole : into_iter_items c.into_iter-cache-iterator.result ≡ c.args.caches.items =
    c.into_iter-cache-iterator.ensures.into_iter_gives.0 in
    record { steps = (tt, tt); rest = subst (All (IsCacheOf c.args.self.pool)) (sym whole) c.requires }

pub into_hand-hand-requires : goal.into_hand-hand-requires
into_hand-hand-requires c =
    let whole = subst (All (IsCacheOf c.args.self.pool)) c.in-Some.ensures.steps.0 c.loop-cache.invariant.rest in
    let fewer = ap length c.in-Some.ensures.steps.0 in
    whole 0 c.in-Some.cache (omega arith)

pub loop-cache-preserved : goal.loop-cache-preserved
loop-cache-preserved c =
    let whole = subst (All (IsCacheOf c.args.self.pool)) c.in-Some.ensures.steps.0 c.loop-cache.invariant.rest in
    let fewer = ap length c.in-Some.ensures.steps.0 in
    record { steps = (tt, tt); rest = λ k d low. whole (suc k) d (omega arith) }
