-- Where a hand's gets start.
use Rattle.std.specs.Prelude.{◌≡◌}
use Rattle.tag_pool.specs.declared.hand.Hand.{Hand}
use Rattle.tag_pool.specs.declared.kind.Kind.{Kind}
use Rattle.tag_pool.specs.declared.pool.Pool.{Pool}
use Rattle.tag_pool.specs.Lending.{side_of}
use Rattle.tag_pool.specs.Sides as side
use Rattle.tag_pool.specs.Hands.{map_of, split_of}

-- the hand's hint in each set is moved to its own part of the set, and everything else is unchanged
pub record IsPlaced {R : Type 0} (pool : Pool R) (old new : Hand R) : Type 0 where
  pub sides : (kind : Kind) → side.IsPlaced (map_of pool kind) (side_of old kind) (side_of new kind)
  pub split : split_of new ≡ split_of old
