-- How hands are gathered, and what the totals of both sets say about all of them.
use Rattle.std.specs.Prelude.{◌+◌, ◌<◌, ◌^◌, ◌∷◌, ◌≡◌}
use Rattle.tag_pool.specs.Uses.{Caller, List, map, record_of, ℕ}
use Rattle.tag_model.specs.declared.totals.Totals.{Totals}
use Rattle.tag_core.specs.Gathering as tags
use Rattle.tag_core.specs.declared.closed.Closed.{Closed}
use Rattle.tag_core.specs.declared.record.Record.{Record}
use Rattle.tag_core.specs.declared.shape.Shape.{Shape}
use Rattle.tag_core.specs.declared.together.Gathering.{Gathering}
use Rattle.tag_pool.specs.declared.gather.together.Together.{Together}
use Rattle.tag_pool.specs.declared.hand.Hand.{Hand}
use Rattle.tag_pool.specs.declared.kind.Kind.{Kind}
use Rattle.tag_pool.specs.declared.kind.Kind.TheVariants.{Ordinary, Reserved}
use Rattle.tag_pool.specs.declared.pool.Pool.{Pool}
use Rattle.tag_pool.specs.Sets.{InBoth}
use Rattle.tag_pool.specs.Hands.{caller_of, map_of, number_of}

-- the numbers of several hands
abbrev pub numbers_of : {R : Type 0} → List (Hand R) → List ℕ
numbers_of hands = map number_of hands

-- several hands as callers of a set's map
abbrev pub callers_of : {R : Type 0} → List (Hand R) → Kind → List (Caller R)
callers_of hands kind = map (λ hand. caller_of hand kind) hands

-- their records there
abbrev pub records_of : {R : Type 0} → List (Hand R) → Kind → List (Record R)
records_of hands kind = map record_of (callers_of hands kind)

-- the parameters with which the map of a set was opened
abbrev pub shape_of : {R : Type 0} → Pool R → Kind → Shape
shape_of pool kind = (map_of pool kind).shape

-- the callers of a set that were gathered
abbrev pub gathering_of : {R : Type 0} → Together R → Kind → Gathering R
gathering_of together Ordinary = together.ordinary
gathering_of together Reserved = together.reserved

-- their records, the latest first
abbrev pub gathered_of : {R : Type 0} → Together R → Kind → List (Record R)
gathered_of together kind = tags.gathered (gathering_of together kind)

-- the gathered hands belong to the pool
abbrev pub IsTogetherOf : {R : Type 0} → Pool R → Together R → Type 0
IsTogetherOf pool together = InBoth (λ kind. tags.IsGatheringOf (map_of pool kind) (gathering_of together kind))

-- these are the hands gathered, the last one added first
abbrev pub AreTogether : {R : Type 0} → List (Hand R) → Together R → Type 0
AreTogether hands together = InBoth (λ kind. gathered_of together kind ≡ records_of hands kind)

-- in each set the hand's record came before those gathered
abbrev pub Joins : {R : Type 0} → Hand R → Together R → Together R → Type 0
Joins hand old new = InBoth (λ kind. gathered_of new kind ≡ record_of (caller_of hand kind) ∷ gathered_of old kind)

-- the sums over both sets
abbrev pub totals_of_both : Totals → Totals → Totals
totals_of_both one other = record {
  got = one.got + other.got;
  back = one.back + other.back;
  held = one.held + other.held;
  posted = one.posted + other.posted;
}

-- each sum is below 2^63, so that two of them cannot overflow 64 bits
abbrev pub IsSmall : Totals → Type 0
IsSmall t = (t.got < 2 ^ 63) × (t.back < 2 ^ 63) × (t.held < 2 ^ 63) × (t.posted < 2 ^ 63)

-- both sets are gathered, each with its chain of maps, and tags are counted over both
pub record IsGathered {R : Type 0} (pool : Pool R) (hands : List (Hand R)) (totals : Totals) : Type 0 where
  pub ordinary : Closed R
  pub reserved : Closed R
  pub ordinary_is : tags.IsGathered (shape_of pool Ordinary) (records_of hands Ordinary) ordinary
  pub reserved_is : tags.IsGathered (shape_of pool Reserved) (records_of hands Reserved) reserved
  pub totals_are : totals ≡ totals_of_both ordinary.totals reserved.totals
  pub balance : totals.got ≡ totals.back + totals.held + totals.posted
