-- The terms in which contracts speak about a pool and its hands.
use Rattle.std.specs.Prelude.{◌+◌, ◌<◌, ◌≡◌}
use Rattle.tag_pool.specs.Uses.{Caller, Hint, Layout, Map, record_of, ℕ}
use mathlib.Core.Option as maybe
use Rattle.tag_core.specs.Callers as core
use Rattle.tag_pool.specs.declared.hand.Hand.{Hand}
use Rattle.tag_pool.specs.declared.side.Side.{Side}
use Rattle.tag_pool.specs.declared.kind.Kind.{Kind}
use Rattle.tag_pool.specs.declared.kind.Kind.TheVariants.{Ordinary, Reserved}
use Rattle.tag_pool.specs.declared.pool.Pool.{Pool}
use Rattle.tag_pool.specs.Sets.{kind_of, number_in_set, other_kind}
use Rattle.tag_pool.specs.Sides as side
use Rattle.tag_pool.specs.Lending.{side_of}

-- the map of a set
abbrev pub map_of : {R : Type 0} → Pool R → Kind → Map R
map_of pool Ordinary = pool.ordinary
map_of pool Reserved = pool.reserved

-- the number of reserved tags, which are the first of the range
abbrev pub reserved_of : {R : Type 0} → Pool R → ℕ
reserved_of pool = pool.reserved_count

-- the layout of a set
abbrev pub layout_of : {R : Type 0} → Pool R → Kind → Layout
layout_of pool kind = core.layout_of (map_of pool kind)

-- the minimum shallow depth in force, at least 1
abbrev pub least_of : {R : Type 0} → Pool R → ℕ
least_of pool = pool.shallowest

-- the number of tags in both sets together
abbrev pub total_of : {R : Type 0} → Pool R → ℕ
total_of pool = pool.reserved_count + (core.layout_of pool.ordinary).depth

-- how many hands the pool has
abbrev pub hands_of : {R : Type 0} → Pool R → ℕ
hands_of pool = pool.ordinary.shape.callers

-- the initial value of each slot
abbrev pub fill_of : {R : Type 0} → Pool R → R
fill_of pool = pool.fill

-- the number of reserved tags, as the hand knows it
abbrev pub split_of : {R : Type 0} → Hand R → ℕ
split_of hand = hand.reserved_count

-- the hand belongs to the pool
abbrev pub IsHandOf : {R : Type 0} → Pool R → Hand R → Type 0
IsHandOf pool hand = side.IsSideOf pool.reserved hand.reserved × side.IsSideOf pool.ordinary hand.ordinary
    × (split_of hand ≡ reserved_of pool) × (side.number_of hand.reserved ≡ side.number_of hand.ordinary)

-- the hand's number, from 0
abbrev pub number_of : {R : Type 0} → Hand R → ℕ
number_of hand = side.number_of hand.ordinary

-- the hand still belongs to the pool, and is the same one
abbrev pub IsStillOf : {R : Type 0} → Pool R → Hand R → Hand R → Type 0
IsStillOf pool old new = IsHandOf pool new × (number_of new ≡ number_of old)

-- the tag is in the hand's range: its number in its set is below the depth of the set
abbrev pub IsTagOf : {R : Type 0} → Hand R → ℕ → Type 0
IsTagOf hand tag = number_in_set (split_of hand) tag < side.depth_of (side_of hand (kind_of (split_of hand) tag))

-- the hand holds the tag: its side in the tag's set holds the tag's number there
abbrev pub Holds : {R : Type 0} → Hand R → ℕ → Type 0
Holds hand tag = side.Holds (side_of hand (kind_of (split_of hand) tag)) (number_in_set (split_of hand) tag)

-- the value in the slot of a tag, if the hand holds it
abbrev pub slot_of : {R : Type 0} → Hand R → ℕ → maybe.Option R
slot_of hand tag = side.slot_of (side_of hand (kind_of (split_of hand) tag)) (number_in_set (split_of hand) tag)

-- the hand as a caller of a set's map
abbrev pub caller_of : {R : Type 0} → Hand R → Kind → Caller R
caller_of hand kind = side.caller_of (side_of hand kind)

-- where the hand's next get in this set starts
abbrev pub hint_of : {R : Type 0} → Hand R → Kind → Hint
hint_of hand kind = side.hint_of (side_of hand kind)

-- the hand may win that many more tags of this set
abbrev pub HasRoom : {R : Type 0} → Hand R → Kind → ℕ → Type 0
HasRoom hand kind n = side.HasRoom (side_of hand kind) n

-- how many tags of a set the hand has given back
abbrev pub back_of : {R : Type 0} → Hand R → Kind → ℕ
back_of hand kind = (record_of (caller_of hand kind)).back

-- how many steps the hand has made in both sets
abbrev pub step_count : {R : Type 0} → Hand R → ℕ
step_count hand = side.step_count hand.reserved + side.step_count hand.ordinary

-- the hand's side in one set changed in this way, and its other side is unchanged
pub record Changes {R : Type 0} (kind : Kind) (change : Side R → Side R → Type 0) (old new : Hand R) : Type 0 where
  pub changed : change (side_of old kind) (side_of new kind)
  pub other : side_of new (other_kind kind) ≡ side_of old (other_kind kind)
  pub split : split_of new ≡ split_of old

-- the hand's side in the tag's set changed in this way for the tag's number there, and its other side is unchanged
abbrev pub ChangesAt : {R : Type 0} → ℕ → (Kind → ℕ → Side R → Side R → Type 0) → Hand R → Hand R → Type 0
ChangesAt tag change old new = let kind = kind_of (split_of old) tag in
    Changes kind (change kind (number_in_set (split_of old) tag)) old new
