-- One more tag of the window is kept, and is no longer known to be the user's.
use Rattle.std.specs.Prelude.{◌+◌, ◌-◌, ◌<◌, ◌^◌, ◌↔◌, ◌≡◌, ◌≢◌, ◌≤◌, ◌⊎◌}
use Rattle.tag_cache.proofs.Uses.{AreOwn, arith, bit_at, Cache, count_of, count_ones, Holds, IsIn, IsKept, IsKnown, IsLast, MOST_REUSED, subst, sym, WhileHolding, ℕ, ⊎_elim}
use Rattle.tag_pool.specs.Hands as hands
use Rattle.tag_cache.specs.Caches.{split_of}
use Rattle.tag_cache.proofs.Reusing.{another_known}
use Rattle.tag_cache.proofs.Windows.{joined_fits, not_set, now_in, ones_added, still_in, was_in, with_bit}

-- the tag is this far behind the first one of the window, and the mask has the other tags that are known
module _ {R : Type 0} (cache : Cache R) (tag place rest : ℕ) (held : Holds cache tag) (low : place < 64)
    (is : cache.first + place ≡ tag)
    (left : (other : ℕ) → IsIn cache.first rest other ↔ (IsKnown cache other × other ≢ tag)) where
  above : cache.first ≤ tag
  above = omega arith

  same : tag - cache.first ≡ place
  same = omega arith

  -- which tags are kept then, and how many
  pub record Joins : Type 0 where
    pub now : IsIn cache.first (with_bit cache.kept place) tag
    pub still : (other : ℕ) → IsKept cache other → IsIn cache.first (with_bit cache.kept place) other
    pub none_else : (other : ℕ) → IsIn cache.first (with_bit cache.kept place) other
        → IsKept cache other ⊎ (other ≡ tag)
    pub more : count_ones (with_bit cache.kept place) ≡ count_of cache + 1

  pub joins : Joins
  joins = record {
    now = now_in cache.kept place cache.wide.0 low cache.first tag above same;
    still = still_in cache.kept place cache.wide.0 low cache.first tag above same;
    none_else = was_in cache.kept place cache.wide.0 low cache.first tag above same;
    more = ones_added cache.kept place cache.wide.0 low
        (subst (λ (p : ℕ). bit_at cache.kept p ≡ 0) same (not_set cache.first cache.kept tag above held.1));
  }

  -- what the cache owes
  pub joined_owns : split_of cache ≤ tag → rest < 2 ^ 64 → count_of cache < cache.most → cache.reused < MOST_REUSED
      → ¬ (IsLast tag cache) → record {
        own : AreOwn cache.hand cache.first (with_bit cache.kept place);
        knows : AreOwn cache.hand cache.first rest;
        apart : (other : ℕ) → IsIn cache.first (with_bit cache.kept place) other → ¬ (IsIn cache.first rest other);
        wide : (with_bit cache.kept place < 2 ^ 64) × (rest < 2 ^ 64);
        low : cache.first < 2 ^ 31;
        few : (cache.room - 1 + count_ones (with_bit cache.kept place) ≡ cache.most) × (cache.most ≤ 64);
        alive : cache.reused + count_ones (with_bit cache.kept place) ≤ MOST_REUSED + 64;
        careful : cache.keeping ≡ WhileHolding → 0 < with_bit cache.kept place → 0 < rest;
      }
  joined_owns ordinary fits room alive another = let few = cache.few in let more = joins.more in record {
    own = λ other k. ⊎_elim (λ (o : IsKept cache other). cache.own other o)
        (λ (e : other ≡ tag). subst (λ (t : ℕ). hands.Holds cache.hand t × (hands.split_of cache.hand ≤ t)) (sym e)
        (held.0, ordinary)) (joins.none_else other k);
    knows = λ other l. cache.knows other ((left other).0 l).0;
    apart = λ other k l. let known = (left other).0 l in ⊎_elim (λ (o : IsKept cache other). cache.apart other o known.0)
        (λ (e : other ≡ tag). known.1 e) (joins.none_else other k);
    wide = (joined_fits cache.kept place cache.wide.0, fits);
    low = cache.low;
    few = (omega arith, cache.few.1);
    alive = omega arith;
    careful = λ careful some. another_known cache tag rest fits left another careful;
  }
