-- Once all tags have left the mask, none of the list is in it.
use Rattle.std.proofs.Common.{arith, ◌≢◌, ℕ, ◌<◌, length, get_or, sym, ◌∙◌, below_more}
use Rattle.std.proofs.lemmas.Grind.{get_or_default_zero}
use Rattle.tag_cache.proofs.cache.Cache.known_without_all.Goals as goal

pub loop-tag-preserved : goal.loop-tag-preserved
loop-tag-preserved g c = λ other. let left = c.without-left.ensures other in let so_far = c.loop-tag.invariant other in (
  λ i. let x = left.0 i in let y = so_far.0 x.0 in
      (y.0, below_more (λ (k : ℕ). get_or c.args.list.now k 0 ≢ other) c.loop-tag.tag-index y.1 (λ e. x.1 (sym e))),
  λ p. left.1 (so_far.1 (p.0, λ k l. p.1 k (omega arith)), λ e. p.1 c.loop-tag.tag-index (omega arith) (sym e)),
)

pub returns : goal.returns
returns g c = let list = c.args.list.now in λ other. let all = c.loop-tag.invariant other in
    let stop = c.loop-tag-test.false in (
      λ i. let x = all.0 i in (
        x.0,
        λ inside. x.1 inside.0 (let low = inside.1 in omega arith)
            (sym (get_or_default_zero list inside.0 other inside.1) ∙ inside.2),
      ),
      λ p. all.1 (
        p.0,
        λ k l e. let low : k < length list = omega arith in
            p.1 (k, low, get_or_default_zero list k other low ∙ e),
      ),
    )
