-- The effect of gets on the hand that makes them.
use Rattle.std.specs.Prelude.{◌+◌, ◌<◌, ◌≡◌, ◌≤◌}
use Rattle.tag_pool.specs.Uses.{bit_at, false, Found, IfOk, IsOkAnd, IsTrue, max, min, None, Option, RefusesBy, Result, Some, ℕ}
use Rattle.tag_search.specs.Freed as search
use Rattle.tag_bell.specs.Calls.{nobody}
use Rattle.tag_bell.specs.Sleeping.{told_by}
use Rattle.tag_bell.specs.declared.sleeping.Woken.{Woken}
use Rattle.tag_pool.specs.declared.fault.TagFault.{TagFault}
use Rattle.tag_pool.specs.declared.hand.Hand.{Hand}
use Rattle.tag_pool.specs.declared.kind.Kind.{Kind}
use Rattle.tag_pool.specs.declared.kind.Kind.TheVariants.{Ordinary, Reserved}
use Rattle.tag_pool.specs.declared.pool.Pool.{Pool}
use Rattle.tag_pool.specs.declared.side.Side.{Side}
use Rattle.tag_pool.specs.Sets.{kind_of, first_of}
use Rattle.tag_pool.specs.Sides as side
use Rattle.tag_pool.specs.Hands.{reserved_of, total_of, layout_of, caller_of, hint_of, step_count, Changes}
use Rattle.tag_pool.specs.Holding.{HoldsMore, HoldsSame}
use Rattle.tag_pool.specs.Refusals.{get_checks, reserved_checks, shallow_checks, batch_checks, CountsBatch}

-- the tag is the one returned
abbrev pub IsAnswer : Option ℕ → ℕ → Type 0
IsAnswer None tag = ⊥
IsAnswer (Some answer) tag = tag ≡ answer

-- the tag is one of those that a batch get returned: bit 0 of the mask is the first tag
abbrev pub IsInRun : Option (ℕ × ℕ) → ℕ → Type 0
IsInRun None tag = ⊥
IsInRun (Some won) tag = (k : ℕ) × (tag ≡ won.0 + k) × (bit_at won.1 k ≡ 1)

-- the tag with this number in a set whose first tag this is, if there is one
abbrev pub whole : ℕ → Option ℕ → Option ℕ
whole first None = None
whole first (Some number) = Some (first + number)

-- the same of the first tag of a batch
abbrev pub whole_run : ℕ → Option (ℕ × ℕ) → Option (ℕ × ℕ)
whole_run first None = None
whole_run first (Some won) = Some (first + won.0, won.1)

-- the tag is one of this kind
abbrev pub IsTagIn : {R : Type 0} → Pool R → Kind → ℕ → Type 0
IsTagIn pool kind tag = (tag < total_of pool) × (kind_of (reserved_of pool) tag ≡ kind)

-- the hand gains the tag returned, if there is one, which is of this kind, and no other, by such a search in its set
pub record GetsBy {R : Type 0} (pool : Pool R) (kind : Kind) (search : Option ℕ → Side R → Side R → Type 0)
    (answer : Option ℕ) (old new : Hand R) : Type 0 where
  pub more : HoldsMore (IsAnswer answer) old new
  pub tag : (tag : ℕ) → IsAnswer answer tag → IsTagIn pool kind tag
  pub number : Option ℕ
  pub answer_is : answer ≡ whole (first_of (reserved_of pool) kind) number
  pub set : Changes kind (search number) old new

-- a plain get
abbrev pub Gets : {R : Type 0} → Pool R → Kind → Option ℕ → Hand R → Hand R → Type 0
Gets pool kind = GetsBy pool kind (side.GetsPlain (layout_of pool kind))

-- a shallow get of this depth
abbrev pub GetsShallow : {R : Type 0} → Pool R → ℕ → Option ℕ → Hand R → Hand R → Type 0
GetsShallow pool depth = GetsBy pool Ordinary (side.GetsShallow (layout_of pool Ordinary) depth)

-- a batch get of n: the hand gains the ordinary tags returned, if there are any, and no other
pub record GetsBatch {R : Type 0} (pool : Pool R) (n : ℕ) (answer : Option (ℕ × ℕ)) (old new : Hand R) : Type 0 where
  pub more : HoldsMore (IsInRun answer) old new
  pub tags : (tag : ℕ) → IsInRun answer tag → IsTagIn pool Ordinary tag
  pub number : Option (ℕ × ℕ)
  pub answer_is : answer ≡ whole_run (reserved_of pool) number
  pub set : Changes Ordinary (side.GetsBatch (layout_of pool Ordinary) n number) old new

-- how many tags of a set the hand's sweeps have freed since and it has not won
abbrev pub left_free : {R : Type 0} → Kind → Hand R → Hand R → ℕ
left_free kind old new = search.left_free (caller_of old kind) (caller_of new kind)

-- the most steps that a get adds to the hand's list
abbrev pub most_steps : {R : Type 0} → Pool R → Kind → ℕ
most_steps pool kind = side.most_steps (layout_of pool kind)

-- gets an ordinary tag, and tells how many its sweeps left free
pub record DoesGet {R : Type 0} (pool : Pool R) (result : Result (Found ℕ) TagFault) (old new : Hand R) : Type 0 where
  pub refusals : RefusesBy (get_checks old) (new ≡ old) result
  pub gets : IfOk result (λ found. Gets pool Ordinary found.answer old new)
  pub left : IfOk result (λ found. found.left ≡ left_free Ordinary old new)
  pub bound : step_count new ≤ most_steps pool Ordinary + step_count old

-- gets an ordinary tag within the shares of a shallow depth, and tells how many its sweeps left free
pub record DoesGetShallow {R : Type 0} (depth : ℕ) (pool : Pool R) (result : Result (Found ℕ) TagFault)
    (old new : Hand R) : Type 0 where
  pub refusals : RefusesBy (shallow_checks pool old depth) (new ≡ old) result
  pub gets : IfOk result (λ found. GetsShallow pool depth found.answer old new)
  pub left : IfOk result (λ found. found.left ≡ left_free Ordinary old new)
  pub bound : step_count new ≤ most_steps pool Ordinary + step_count old

-- gets up to n ordinary tags, unless under round robin, and tells how many its sweeps left free
pub record DoesGetBatch {R : Type 0} (n : ℕ) (pool : Pool R) (result : Result (Found (ℕ × ℕ)) TagFault)
    (old new : Hand R) : Type 0 where
  pub refusals : RefusesBy (batch_checks pool old n) (new ≡ old) result
  pub round_robin : CountsBatch pool n → IsTrue (hint_of old Ordinary).round_robin
      → IsOkAnd result (λ found. found.answer ≡ None) × (new ≡ old)
  pub gets : (hint_of old Ordinary).round_robin ≡ false → IfOk result (λ found. GetsBatch pool n found.answer old new)
  pub left : IfOk result (λ found. found.left ≡ left_free Ordinary old new)
  pub bound : step_count new ≤ most_steps pool Ordinary + step_count old

-- gets a reserved tag, and tells how many its sweeps left free
pub record DoesGetReserved {R : Type 0} (pool : Pool R) (result : Result (Found ℕ) TagFault) (old new : Hand R)
    : Type 0 where
  pub refusals : RefusesBy (reserved_checks pool old) (new ≡ old) result
  pub gets : IfOk result (λ found. Gets pool Reserved found.answer old new)
  pub left : IfOk result (λ found. found.left ≡ left_free Reserved old new)
  pub bound : step_count new ≤ most_steps pool Reserved + step_count old

-- the hand sees to the tags of this kind that its get left free, if it left any, and wakes those whom this told
pub record LooksAfter {R : Type 0} (kind : Kind) (left : ℕ) (woken : Woken) (old new : Hand R) : Type 0 where
  pub none : left ≡ 0 → (new ≡ old) × (told_by woken ≡ nobody)
  pub some : 1 ≤ left → Changes kind (side.SeesToAndWakes (max (min left 64) 1) side.see_to_steps woken) old new
  pub same : HoldsSame old new

-- such a get of this kind, and then the look for waiters that it calls for, whatever it answered
pub record GetsAndLooks {R : Type 0} (kind : Kind) (Gets : Hand R → Hand R → Type 0) (woken : Woken) (old new : Hand R)
    : Type 0 where
  pub searched : Hand R
  pub gets : Gets old searched
  pub looks : LooksAfter kind (left_free kind old searched) woken searched new
