-- The mask is moved to the window; what lies outside falls out.
use Rattle.std.proofs.Common.{arith, refl}
use Rattle.tag_cache.proofs.Shifting.{up_in, down_in}
use Rattle.tag_cache.proofs.Windows.{none_in, below_end}
use Rattle.tag_cache.proofs.cache.Cache.inside.Goals as goal

pub returns-then-abs_diff-ge-WINDOW-clause-inside : goal.returns-then-abs_diff-ge-WINDOW-clause-inside
returns-then-abs_diff-ge-WINDOW-clause-inside g c = λ tag. (
  (λ i. absurd (none_in c.args.self.now.first 0 tag refl i)),
  (λ w. let end = below_end c.args.first c.args.mask tag c.ranges.mask.fits w.0 in let start = w.0.0 in
      let above = w.1.0 in let below = w.1.1 in let far = c.abs_diff.ensures in absurd (omega arith)),
)

pub returns-then-self-first-clause-inside : goal.returns-then-self-first-clause-inside
returns-then-self-first-clause-inside g c = λ tag. up_in c.args.self.now.first c.args.first c.args.mask
    c.ranges.mask.fits tag c.if-self-first.true

pub returns-clause-inside : goal.returns-clause-inside
returns-clause-inside g c = λ tag. down_in c.args.self.now.first c.args.first c.args.mask c.ranges.mask.fits tag
    (omega arith)
