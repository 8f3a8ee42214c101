-- At most 64 tags are kept, so their number keeps its value in 32 bits.
use Rattle.std.specs.Prelude.{◌<◌, ◌≡◌}
use Rattle.tag_c.proofs.Uses.{arc_value, arith, Caching, pos, PoolState, subst, w32, ℕ, ℤ}
use Rattle.std.proofs.lemmas.Int.{to_z_pos}
use Rattle.tag_pool.specs.declared.kind.Kind.TheVariants.{Ordinary}
use Rattle.tag_cache.specs.declared.cache.Cache.{Cache}
use Rattle.tag_cache.specs.Caches.{count_of}
use Rattle.tag_cache.specs.Calls as caches
use Rattle.tag_c.specs.Telling.{Answers, Ends, TellsOfKept}
use Rattle.tag_c.proofs.Endings.{as_is, sees_at_once}
use Rattle.tag_c.proofs.flush.CachedMemberFlushCalls.flush.Goals as goal

-- the number is small enough for 32 bits
small : (cache : Cache ℕ) (freed : ℕ) → freed ≡ count_of cache → freed < 2147483648
small cache freed all = let few = cache.few.0 in let most = cache.few.1 in omega arith

pub returns : goal.returns
returns c = let flushed = c.flush_quietly-freed in let freed = flushed.result in let old = c.args.self.now in
    let tags = (arc_value old.shared).tags in let seen = c.see-whom in (
      seen.ensures.0,
      record {
        freed = freed;
        between = Caching flushed.new.self;
        flushes = subst (λ (s : PoolState). caches.DoesFlush s.tags freed old.cache flushed.new.self) c.deref.ensures
            flushed.ensures.does;
        ends = as_is (λ z. Ends (TellsOfKept freed) (pos freed) c.args.told.now c.fill.new.self z tags
            (Caching flushed.new.self) (Caching seen.new.self.cache)) c.fill.type_inv
            (record {
              told = seen.result;
              does = sees_at_once Ordinary freed seen.result tags (Caching flushed.new.self)
                  (Caching seen.new.self.cache) seen.ensures.1;
              answers = subst (λ (n : ℤ). Answers n seen.result c.args.told.now c.fill.new.self c.fill.result)
                  (to_z_pos w32 freed (small old.cache freed flushed.ensures.does.all)) c.fill.ensures;
            });
      },
    )
