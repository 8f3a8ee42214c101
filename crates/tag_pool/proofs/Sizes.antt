-- Bounds on the tags of one set.
use Rattle.std.specs.Prelude.{◌<◌, ◌≤◌}
use Rattle.tag_pool.specs.Lending.{side_of}
use Rattle.std.proofs.Common.{arith, subst, ℕ}
use Rattle.tag_pool.specs.declared.hand.Hand.{Hand}
use Rattle.tag_pool.specs.Hands.{IsHandOf, layout_of}
use Rattle.tag_pool.specs.declared.kind.Kind.{Kind}
use Rattle.tag_layout.specs.declared.layout.TheConstants.{MAX_DEPTH}
use Rattle.tag_pool.specs.declared.kind.Kind.TheVariants.{Ordinary, Reserved}
use Rattle.tag_core.specs.declared.shape.Shape.{Shape}
use Rattle.tag_pool.specs.declared.pool.Pool.{Pool}
use Rattle.tag_pool.specs.Sides as side

-- no set has more than 10,240 tags
pub small_set : {R : Type 0} (pool : Pool R) (kind : Kind) → (layout_of pool kind).depth ≤ MAX_DEPTH
small_set pool Ordinary = let fits = pool.fits in omega arith
small_set pool Reserved = let fits = pool.fits in let is = pool.reserved_is in omega arith

-- a number that is held is below the depth of its set
pub held_low : {R : Type 0} (pool : Pool R) (hand : Hand R) (kind : Kind) (number : ℕ) → IsHandOf pool hand
    → side.Holds (side_of hand kind) number → number < (layout_of pool kind).depth
held_low pool hand Ordinary number own h = subst (λ (s : Shape). number < s.layout.depth) own.1.1 h.0
held_low pool hand Reserved number own h = subst (λ (s : Shape). number < s.layout.depth) own.0.1 h.0
