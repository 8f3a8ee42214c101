-- The tag leaves the mask of kept tags and joins that of the known ones.
use Rattle.std.specs.Prelude.{◌-◌, ◌≡◌, ◌≤◌}
use Rattle.tag_cache.proofs.Uses.{arith, bit_at, IsIn, refl, subst, sym, ℕ, ⊎_elim}
use Rattle.tag_pool.specs.Hands as hands
use Rattle.tag_cache.proofs.Windows.{joined_fits, now_in, ones_fewer, popped_fits, some_in, still_in, was_in, with_bit, without_in}
use Rattle.tag_cache.proofs.cache.Cache.hand_out_at.Goals as goal

pub invariant_of-self : goal.invariant_of-self
invariant_of-self g c = let cache = c.args.self.now in let tag = c.args.tag in let place = c.args.offset in
    let is = c.requires.kept in let from = c.requires.offset.0 in let low = c.requires.offset.1 in
    let above : cache.first ≤ tag = is.0 in let same : tag - cache.first ≡ place = omega (arith, from) in
    let bit = subst (λ (i : ℕ). bit_at cache.kept i ≡ 1) same is.1 in
    let left = without_in cache.first cache.kept tag place cache.wide.0 low from in
    let fewer = ones_fewer cache.kept place cache.wide.0 low bit in let few = cache.few in
    let alive = cache.alive in record {
      own = λ other k. cache.own other ((left other).0 k).0;
      knows = λ other l. ⊎_elim (λ (o : IsIn cache.first cache.known other). cache.knows other o)
          (λ (e : other ≡ tag). subst (λ (t : ℕ). hands.Holds cache.hand t × (hands.split_of cache.hand ≤ t)) (sym e)
          (cache.own tag is)) (was_in cache.known place cache.wide.1 low cache.first tag above same other l);
      apart = λ other k l. let was = (left other).0 k in ⊎_elim
          (λ (o : IsIn cache.first cache.known other). cache.apart other was.0 o) (λ (e : other ≡ tag). was.1 e)
          (was_in cache.known place cache.wide.1 low cache.first tag above same other l);
      wide = (popped_fits cache.kept place cache.wide.0, joined_fits cache.known place cache.wide.1);
      low = cache.low;
      few = (omega arith, cache.few.1);
      alive = omega arith;
      careful = λ careful more. some_in cache.first (with_bit cache.known place) tag
          (now_in cache.known place cache.wide.1 low cache.first tag above same);
    }

pub returns : goal.returns
returns g c = let cache = c.args.self.now in let tag = c.args.tag in let place = c.args.offset in
    let is = c.requires.kept in let from = c.requires.offset.0 in let low = c.requires.offset.1 in
    let above : cache.first ≤ tag = is.0 in let same : tag - cache.first ≡ place = omega (arith, from) in
    let bit = subst (λ (i : ℕ). bit_at cache.kept i ≡ 1) same is.1 in record {
      takes = record {
        hand = refl;
        terms = record { most = refl; keeping = refl };
        was = is;
        left = without_in cache.first cache.kept tag place cache.wide.0 low from;
        fewer = ones_fewer cache.kept place cache.wide.0 low bit;
      };
      learns = record {
        now = now_in cache.known place cache.wide.1 low cache.first tag above same;
        still = λ w. still_in cache.known place cache.wide.1 low cache.first tag above same;
        none_else = was_in cache.known place cache.wide.1 low cache.first tag above same;
      };
      reused = refl;
    }
