-- Gets of several ordinary tags in one call, which takes all of them or none.
use Rattle.std.specs.Prelude.{◌*◌, ◌+◌, ◌-◌, ◌<◌, ◌^◌, ◌∷◌, ◌≡◌, ◌≢◌, ◌≤◌}
use Rattle.tag_pool.specs.Uses.{[], AllPairs, Bool, Contains, false, IfOk, length, List, min, None, RefusesBy, Result, Some, ℕ}
use Rattle.std.specs.Prelude.{true}
use Rattle.tag_bell.specs.declared.sleeping.Woken.{Woken}
use Rattle.tag_pool.specs.declared.fault.TagFault.{TagFault}
use Rattle.tag_pool.specs.declared.hand.Hand.{Hand}
use Rattle.tag_pool.specs.declared.kind.Kind.TheVariants.{Ordinary}
use Rattle.tag_pool.specs.declared.pool.Pool.{Pool}
use Rattle.tag_pool.specs.Batches.{GivesBack}
use Rattle.tag_pool.specs.Gets.{Gets, left_free, LooksAfter, most_steps}
use Rattle.tag_pool.specs.Hands.{back_of, step_count}
use Rattle.tag_pool.specs.Holding.{HoldsLess, HoldsMore, HoldsSame}
use Rattle.tag_pool.specs.Lists.{AreOrdinary}
use Rattle.tag_pool.specs.Refusals.{many_checks}

-- one get after another won these tags, and in all they left so many ordinary tags free
abbrev pub WinsInTurn : {R : Type 0} → Pool R → List ℕ → ℕ → Hand R → Hand R → Type 0
WinsInTurn pool [] left old new = (left ≡ 0) × (new ≡ old)
WinsInTurn {R} pool (tag ∷ tags) left old new = (mid : Hand R) × (rest : ℕ) × Gets pool Ordinary (Some tag) old mid
    × WinsInTurn pool tags rest mid new × (left ≡ left_free Ordinary old mid + rest)

-- the hand gains these tags, which are ordinary and pairwise different, and no other
pub record WinsMany {R : Type 0} (pool : Pool R) (tags : List ℕ) (left : ℕ) (old new : Hand R) : Type 0 where
  pub more : HoldsMore (Contains tags) old new
  pub ordinary : AreOrdinary pool tags
  pub distinct : AllPairs (λ a b. a ≢ b) tags
  pub gets : WinsInTurn pool tags left old new

-- the hand gives these tags back, if there are any
pub record GivesBackAny {R : Type 0} (pool : Pool R) (tags : List ℕ) (old new : Hand R) : Type 0 where
  pub none : length tags ≡ 0 → new ≡ old
  pub some : 1 ≤ length tags → GivesBack pool tags old new
  pub less : HoldsLess (Contains tags) old new
  pub back : back_of new Ordinary ≡ back_of old Ordinary + length tags

-- the hand won fewer than n tags before a get found none, and gave them back, so it holds what it held; they count as
-- left free
pub record FallsShort {R : Type 0} (pool : Pool R) (n left : ℕ) (old new : Hand R) : Type 0 where
  pub won : List ℕ
  pub few : length won < n
  pub between : ℕ
  pub full : Hand R
  pub wins : WinsMany pool won between old full
  pub tried : Hand R
  pub none : Gets pool Ordinary None full tried
  pub gives : GivesBackAny pool won tried new
  pub left_is : left ≡ min (between + left_free Ordinary full tried + length won) (2 ^ 64 - 1)
  pub same : HoldsSame old new

-- what such a get did, by its answer; a word counts what it left free, as far as it can
abbrev pub GetsMany : {R : Type 0} → Pool R → List ℕ → Bool → ℕ → Hand R → Hand R → Type 0
GetsMany pool tags true left old new = (sum : ℕ) × WinsMany pool tags sum old new × (left ≡ min sum (2 ^ 64 - 1))
GetsMany pool tags false left old new = FallsShort pool (length tags) left old new

-- the most steps that a get of n tags adds to the hand's list: those of n gets, and one for each tag that it gives back
abbrev pub most_many_steps : {R : Type 0} → Pool R → ℕ → ℕ
most_many_steps pool n = n * (most_steps pool Ordinary + 1)

-- gets as many ordinary tags as the slice has places, or none, and tells how many it left free
pub record DoesGetMany {R : Type 0} (pool : Pool R) (before tags : List ℕ) (result : Result (Bool × ℕ) TagFault)
    (old new : Hand R) : Type 0 where
  pub refusals : RefusesBy (many_checks pool old (length before)) ((new ≡ old) × (tags ≡ before)) result
  pub count : length tags ≡ length before
  pub gets : IfOk result (λ found. GetsMany pool tags found.0 found.1 old new)
  pub bound : step_count new ≤ most_many_steps pool (length before) + step_count old

-- such a get, and then the look for waiters that it calls for, whatever it answered
pub record GetsManyAndLooks {R : Type 0} (pool : Pool R) (tags : List ℕ) (answer : Bool) (woken : Woken)
    (old new : Hand R) : Type 0 where
  pub searched : Hand R
  pub left : ℕ
  pub gets : GetsMany pool tags answer left old searched
  pub looks : LooksAfter Ordinary left woken searched new
