-- What the calls of a pool check, in order, and what they answer if a check fails.
use Rattle.std.specs.Prelude.{◌<◌, ◌∷◌, ◌≡◌, ◌≤◌}
use Rattle.tag_pool.specs.Uses.{[], All, Checks, false, IfSome, List, MAX_CALLERS, MAX_DEPTH, MAX_SHIFT, MOST_WON, ℕ}
use Rattle.tag_pool.specs.declared.fault.OpenFault.{OpenFault}
use Rattle.tag_pool.specs.declared.fault.OpenFault.TheVariants.{CallerCount, LifeTooLong, ReservedTooLarge, ShiftTooLarge, TotalTooLarge}
use Rattle.tag_pool.specs.declared.fault.TagFault.{TagFault}
use Rattle.tag_pool.specs.declared.fault.TagFault.TheVariants.{BadCount, NoReserved, NoSuchTag, NotHeld, Spent, TooShallow}
use Rattle.tag_pool.specs.declared.hand.Hand.{Hand}
use Rattle.tag_pool.specs.declared.kind.Kind.{Kind}
use Rattle.tag_pool.specs.declared.kind.Kind.TheVariants.{Ordinary, Reserved}
use Rattle.tag_pool.specs.declared.options.Options.{Options}
use Rattle.tag_pool.specs.declared.pool.Pool.{Pool}
use Rattle.tag_pool.specs.declared.side.Side.{Side}
use Rattle.tag_pool.specs.Sides as side
use Rattle.tag_pool.specs.Hands.{HasRoom, hint_of, Holds, layout_of, least_of, reserved_of, total_of}
use Rattle.tag_pool.specs.Lists.{AreOrdinary, AreHeldOnce}
use Rattle.tag_pool.specs.Masks.{tags_in}
use Rattle.tag_pool.specs.Runs.{CountsTags}
use Rattle.tag_pool.specs.Sets.{kind_of}

-- an open
abbrev pub open_checks : Options → Checks OpenFault
open_checks options = (options.depth ≤ MAX_DEPTH, TotalTooLarge)
    ∷ (options.reserved ≤ options.depth, ReservedTooLarge)
    ∷ (IfSome options.shift (λ s. s ≤ MAX_SHIFT), ShiftTooLarge)
    ∷ ((1 ≤ options.hands) × (options.hands ≤ MAX_CALLERS), CallerCount)
    ∷ (options.life ≤ MOST_WON, LifeTooLong) ∷ []

-- a get of an ordinary tag
abbrev pub get_checks : {R : Type 0} → Hand R → Checks TagFault
get_checks hand = (HasRoom hand Ordinary 1, Spent) ∷ []

-- a get of this shallow depth
abbrev pub shallow_checks : {R : Type 0} → Pool R → Hand R → ℕ → Checks TagFault
shallow_checks pool hand depth = (least_of pool ≤ depth, TooShallow) ∷ (HasRoom hand Ordinary 1, Spent) ∷ []

-- the count is one that a batch can have, 1 to the bits of a word of the ordinary set
abbrev pub CountsBatch : {R : Type 0} → Pool R → ℕ → Type 0
CountsBatch pool n = side.CountsBatch (layout_of pool Ordinary) n

-- a get of up to n tags
abbrev pub batch_checks : {R : Type 0} → Pool R → Hand R → ℕ → Checks TagFault
batch_checks pool hand n = (CountsBatch pool n, BadCount)
    ∷ ((hint_of hand Ordinary).round_robin ≡ false → HasRoom hand Ordinary n, Spent) ∷ []

-- a get of n tags, all or none
abbrev pub many_checks : {R : Type 0} → Pool R → Hand R → ℕ → Checks TagFault
many_checks pool hand n = (n ≤ (layout_of pool Ordinary).depth, BadCount) ∷ (HasRoom hand Ordinary n, Spent) ∷ []

-- what tells that there is no tag of this kind
abbrev pub none_of : Kind → TagFault
none_of Ordinary = NoSuchTag
none_of Reserved = NoReserved

-- a get of this kind that waits
abbrev pub blocking_checks : {R : Type 0} → Pool R → Hand R → Kind → Checks TagFault
blocking_checks pool hand kind = (1 ≤ (layout_of pool kind).depth, none_of kind) ∷ (HasRoom hand kind 1, Spent) ∷ []

-- a get of a reserved tag
abbrev pub reserved_checks : {R : Type 0} → Pool R → Hand R → Checks TagFault
reserved_checks pool hand = (1 ≤ reserved_of pool, NoReserved) ∷ (HasRoom hand Reserved 1, Spent) ∷ []

-- a get of this tag
abbrev pub exact_checks : {R : Type 0} → Pool R → ℕ → Hand R → Checks TagFault
exact_checks pool tag hand = (tag < total_of pool, NoSuchTag) ∷ (HasRoom hand (kind_of (reserved_of pool) tag) 1, Spent) ∷ []

-- a call on a tag
abbrev pub number_checks : {R : Type 0} → Pool R → ℕ → Checks TagFault
number_checks pool tag = (tag < total_of pool, NoSuchTag) ∷ []

-- a call on a tag that the hand has to hold
abbrev pub tag_checks : {R : Type 0} → Pool R → Hand R → ℕ → Checks TagFault
tag_checks pool hand tag = (tag < total_of pool, NoSuchTag) ∷ (Holds hand tag, NotHeld) ∷ []

-- the same in one set
abbrev pub side_checks : {R : Type 0} → Side R → ℕ → Checks TagFault
side_checks own number = (number < side.depth_of own, NoSuchTag) ∷ (side.Holds own number, NotHeld) ∷ []

-- a clear of a list
abbrev pub list_checks : {R : Type 0} → Pool R → Hand R → List ℕ → Checks TagFault
list_checks pool hand list = (CountsTags list, BadCount) ∷ (AreOrdinary pool list, NoSuchTag)
    ∷ (AreHeldOnce hand list, NotHeld) ∷ []

-- a clear of a mask
abbrev pub mask_checks : {R : Type 0} → Pool R → Hand R → ℕ → ℕ → Checks TagFault
mask_checks pool hand first mask = (1 ≤ mask, BadCount) ∷ (AreOrdinary pool (tags_in first mask), NoSuchTag)
    ∷ (All (Holds hand) (tags_in first mask), NotHeld) ∷ []
