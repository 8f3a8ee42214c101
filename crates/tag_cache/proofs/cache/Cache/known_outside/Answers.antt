-- A known tag stays in the mask exactly if it is none of the other mask's.
use Rattle.tag_cache.proofs.Giving.{listed_in}
use Rattle.tag_cache.proofs.Reusing.{known_within}
use Rattle.tag_cache.proofs.Shifting.{left_out, stays_out}
use Rattle.tag_cache.proofs.cache.Cache.known_outside.Goals as goal

pub returns : goal.returns
returns g c = let cache = c.args.self.now in let e = c.inside.ensures in λ other. (
  (λ i. let x = left_out cache.first cache.known c.inside.result cache.wide.1 e.fits other i in (
    x.0,
    λ k. x.1 ((e.inside other).1
        ((listed_in c.args.first c.args.mask c.ranges.mask.fits other).0 k, known_within cache other x.0)),
  )),
  (λ x. stays_out cache.first cache.known c.inside.result cache.wide.1 e.fits other x.0
      (λ i. x.1 ((listed_in c.args.first c.args.mask c.ranges.mask.fits other).1 ((e.inside other).0 i).0))),
)
