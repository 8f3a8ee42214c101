-- A get of one given tag by a hand.
use Rattle.std.specs.Prelude.{◌+◌, ◌≡◌, ◌≤◌}
use Rattle.tag_pool.specs.Uses.{Found, IfOk, IfSome, Option, RefusesBy, Result, ℕ}
use Rattle.tag_search.specs.Exact.{most_exact_steps}
use Rattle.tag_pool.specs.declared.fault.TagFault.{TagFault}
use Rattle.tag_pool.specs.declared.hand.Hand.{Hand}
use Rattle.tag_pool.specs.declared.pool.Pool.{Pool}
use Rattle.tag_pool.specs.Gets.{GetsBy, left_free}
use Rattle.tag_pool.specs.Hands.{layout_of, reserved_of, step_count}
use Rattle.tag_pool.specs.Refusals.{exact_checks}
use Rattle.tag_pool.specs.Sets.{kind_of, number_in_set}
use Rattle.tag_pool.specs.Sides as side

-- the hand gains this tag or none, by a lawful visit of its place in its set
pub record GetsExactly {R : Type 0} (pool : Pool R) (tag : ℕ) (answer : Option ℕ) (old new : Hand R) : Type 0 where
  pub only : IfSome answer (λ won. won ≡ tag)
  pub gets : let kind = kind_of (reserved_of pool) tag in
      GetsBy pool kind (side.GetsExactly (layout_of pool kind) (number_in_set (reserved_of pool) tag)) answer old new

-- gets this tag if it is free, and tells how many of its kind its sweeps left free
pub record DoesGetExactly {R : Type 0} (tag : ℕ) (pool : Pool R) (result : Result (Found ℕ) TagFault) (old new : Hand R)
    : Type 0 where
  pub refusals : RefusesBy (exact_checks pool tag old) (new ≡ old) result
  pub gets : IfOk result (λ found. GetsExactly pool tag found.answer old new)
  pub left : IfOk result (λ found. found.left ≡ left_free (kind_of (reserved_of pool) tag) old new)
  pub bound : step_count new ≤ most_exact_steps + step_count old
