-- The tag's bit joins the mask of known tags.
use Rattle.std.specs.Prelude.{◌-◌, ◌≡◌, ◌≤◌}
use Rattle.tag_cache.proofs.Uses.{arith, IsIn, IsKept, subst, sym, ℕ, ⊎_elim}
use Rattle.tag_pool.specs.Hands as hands
use Rattle.tag_cache.proofs.Windows.{now_in, still_in, was_in, some_in, joined_fits, with_bit}
use Rattle.tag_cache.proofs.cache.Cache.note.Goals as goal

pub invariant_of-self : goal.invariant_of-self
invariant_of-self g c = let cache = c.args.self.now in let tag = c.args.tag in
    let at = c.offset-offset.result in let low = c.if-offset-ge-WINDOW.false in
    let is = c.offset-offset.ensures.offset low in let above : cache.first ≤ tag = omega arith in
    let same : tag - cache.first ≡ at = omega arith in record {
      own = cache.own;
      knows = λ other l. ⊎_elim (λ (o : IsIn cache.first cache.known other). cache.knows other o)
          (λ (e : other ≡ tag). subst (λ (t : ℕ). hands.Holds cache.hand t × (hands.split_of cache.hand ≤ t)) (sym e)
          (c.requires.held.0, c.requires.ordinary))
          (was_in cache.known at cache.wide.1 low cache.first tag above same other l);
      apart = λ other k l. ⊎_elim (λ (o : IsIn cache.first cache.known other). cache.apart other k o)
          (λ (e : other ≡ tag). c.requires.held.1 (subst (λ (t : ℕ). IsKept cache t) e k))
          (was_in cache.known at cache.wide.1 low cache.first tag above same other l);
      wide = (cache.wide.0, joined_fits cache.known at cache.wide.1);
      low = cache.low;
      few = cache.few;
      alive = cache.alive;
      careful = λ careful some. some_in cache.first (with_bit cache.known at) tag
          (now_in cache.known at cache.wide.1 low cache.first tag above same);
    }

pub returns-then-offset-ge-WINDOW-clause-learns : goal.returns-then-offset-ge-WINDOW-clause-learns
returns-then-offset-ge-WINDOW-clause-learns g c = λ within. let low = c.offset-offset.ensures.within.1 within in
    absurd (omega arith)

pub returns-clause-learns : goal.returns-clause-learns
returns-clause-learns g c = let cache = c.args.self.now in let tag = c.args.tag in
    let at = c.offset-offset.result in let low = c.if-offset-ge-WINDOW.false in
    let is = c.offset-offset.ensures.offset low in let above : cache.first ≤ tag = omega arith in
    let same : tag - cache.first ≡ at = omega arith in λ within. record {
      now = now_in cache.known at cache.wide.1 low cache.first tag above same;
      still = λ w. still_in cache.known at cache.wide.1 low cache.first tag above same;
      none_else = was_in cache.known at cache.wide.1 low cache.first tag above same;
    }
