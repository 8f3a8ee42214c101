-- Callers of a pool that are hands or caches.
use Rattle.std.specs.Prelude.{ℕ}
use Rattle.tag_pool.specs.declared.hand.Hand.{Hand}
use Rattle.tag_pool.specs.declared.pool.Pool.{Pool}
use Rattle.tag_pool.specs.Hands as hands
use Rattle.tag_cache.specs.Caches as caches
use Rattle.tag_tests.specs.declared.caller.Caller.{Caller}
use Rattle.tag_tests.specs.declared.caller.Caller.TheVariants.{Bare, Cached}

-- the caller's hand, or that of its cache
abbrev pub hand_in : Caller → Hand ℕ
hand_in (Bare hand) = hand
hand_in (Cached cache) = caches.hand_of cache

-- the caller belongs to the pool
abbrev pub IsOwn : Pool ℕ → Caller → Type 0
IsOwn pool caller = hands.IsHandOf pool (hand_in caller)

-- the caller holds the tag
abbrev pub HoldsTag : Caller → ℕ → Type 0
HoldsTag (Bare hand) tag = hands.Holds hand tag
HoldsTag (Cached cache) tag = caches.Holds cache tag
