-- What a side that was lent gets in its set the hand gets.
use Rattle.std.specs.Prelude.{◌≡◌}
use Rattle.tag_pool.proofs.Uses.{first_of, Gets, Hand, IsHandOf, Kind, Map, map_of, Option, Pool, reserved_of, Side, side_of, subst, whole, with_side, ℕ}
use Rattle.tag_core.specs.Callers as core
use Rattle.tag_pool.specs.Sides as side
use Rattle.tag_pool.proofs.Getting.{gets_of}
use Rattle.tag_pool.proofs.InOneSet.{in_set}

module _ {R : Type 0} (pool : Pool R) (hand : Hand R) (own : IsHandOf pool hand) (kind : Kind) (map : Map R)
    (is : map ≡ map_of pool kind) (was new : Side R) (lent : was ≡ side_of hand kind) where
  pub lent_gets : (number : Option ℕ) → side.IsSideOf map new → side.GetsPlain (core.layout_of map) number was new
      → Gets pool kind (whole (first_of (reserved_of pool) kind) number) hand (with_side hand kind new)
  lent_gets number still got = gets_of pool hand own kind new (subst (λ (m : Map R). side.IsSideOf m new) is still) number
      (in_set hand kind was new lent pool own map is
      (λ (m : Map R) (s : Side R). side.GetsPlain (core.layout_of m) number s new) got)
