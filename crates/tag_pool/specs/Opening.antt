-- A new pool, and its hands.
use Rattle.std.specs.Prelude.{if◌then◌else◌, ◌+◌, ◌-◌, ◌≡◌}
use Rattle.tag_pool.specs.Uses.{All, Caller, get_elem?, HasShiftByHands, Hint, Layout, length, List, Map, map, max, some, unwrap_or, ℕ}
use Rattle.tag_core.specs.Callers as core
use Rattle.tag_core.specs.Opening.{IsNew, AreNew}
use Rattle.tag_pool.specs.declared.hand.Hand.{Hand}
use Rattle.tag_pool.specs.declared.kind.Kind.{Kind}
use Rattle.tag_pool.specs.declared.kind.Kind.TheVariants.{Ordinary, Reserved}
use Rattle.tag_pool.specs.declared.options.Options.{Options}
use Rattle.tag_pool.specs.declared.pool.Pool.{Pool}
use Rattle.tag_pool.specs.Hands.{caller_of, hint_of, Holds, IsHandOf, layout_of, least_of, map_of, number_of, split_of}
use Rattle.tag_pool.specs.Lending.{side_of}
use Rattle.tag_pool.specs.Sides.{hint_in_part}

-- the hand as a caller of the reserved map
abbrev pub reserved_part : {R : Type 0} → Hand R → Caller R
reserved_part hand = caller_of hand Reserved

-- the hand as a caller of the ordinary map
abbrev pub ordinary_part : {R : Type 0} → Hand R → Caller R
ordinary_part hand = caller_of hand Ordinary

-- this many tags of the hand's range are reserved
abbrev pub IsSplitAt : {R : Type 0} → ℕ → Hand R → Type 0
IsSplitAt reserved hand = split_of hand ≡ reserved

-- the hand has this hint in both sets
abbrev pub HasHints : {R : Type 0} → Hint → Hand R → Type 0
HasHints hint hand = (kind : Kind) → hint_of hand kind ≡ hint

-- the hand holds no tag
abbrev pub HoldsNone : {R : Type 0} → Hand R → Type 0
HoldsNone hand = (tag : ℕ) → ¬ (Holds hand tag)

-- these are the callers of the hands, in the same order
pub record AreParts {R : Type 0} (count : ℕ) (reserved ordinary : List (Caller R)) (hands : List (Hand R)) : Type 0 where
  pub reserved_are : map reserved_part hands ≡ reserved
  pub ordinary_are : map ordinary_part hands ≡ ordinary
  pub split : All (IsSplitAt count) hands

-- the hands that the default shift is for: those of the options or, by the kernel's rule, four
abbrev pub counted_hands : Options → ℕ
counted_hands options = if options.by_hands then options.hands else 4

-- a set of this depth has the shift of the options or, without one, the default for this depth and the number of hands
abbrev pub HasShiftOf : Options → ℕ → ℕ → Type 0
HasShiftOf options depth shift = HasShiftByHands depth (counted_hands options) options.shift shift

-- the reserved tags have the first layout, and the ordinary ones, which are the rest, the other: each has the shift of the
-- options or, without one, the default for its own depth
pub record AreLaidOut (options : Options) (first rest : Layout) : Type 0 where
  pub first_depth : first.depth ≡ options.reserved
  pub depths : first.depth + rest.depth ≡ options.depth
  pub first_shift : HasShiftOf options options.reserved first.shift
  pub rest_shift : HasShiftOf options (options.depth - options.reserved) rest.shift

-- a map of the options' hands and life, and its callers, in the order of their numbers, which have made no step
pub record IsNewSet {R : Type 0} (options : Options) (set : Map R) (all : List (Caller R)) : Type 0 where
  pub tags : IsNew (core.layout_of set) options.hands options.life set
  pub callers : AreNew set all

-- every hint is at the first tag of its set
abbrev pub HasFirstHints : {R : Type 0} → Options → Pool R → Hand R → Type 0
HasFirstHints options pool = HasHints (record { at = 0; round_robin = options.round_robin })

-- every hint is at the first tag of the hand's own part of its set, with round robin as the options say
abbrev pub HasPlacedHints : {R : Type 0} → Options → Pool R → Hand R → Type 0
HasPlacedHints options pool hand = (kind : Kind) → (hint_of hand kind ≡ hint_in_part (map_of pool kind) (side_of hand kind))
    × ((hint_of hand kind).round_robin ≡ options.round_robin)

-- both sets are as the options say; the hands are in the order of their numbers, hold no tag, have made no step, and start
-- as given
pub record IsOpenWith {R : Type 0} (HasStart : Options → Pool R → Hand R → Type 0) (options : Options) (pool : Pool R)
    (hands : List (Hand R)) : Type 0 where
  pub laid_out : AreLaidOut options (layout_of pool Reserved) (layout_of pool Ordinary)
  pub ordinary : IsNewSet options pool.ordinary (map ordinary_part hands)
  pub reserved : IsNewSet options pool.reserved (map reserved_part hands)
  pub least : least_of pool ≡ max (unwrap_or options.min_shallow 1) 1
  pub own : All (IsHandOf pool) hands
  pub none_held : All HoldsNone hands
  pub count : length hands ≡ options.hands
  pub ordered : (n : ℕ) (hand : Hand R) → get_elem? hands n ≡ some hand → number_of hand ≡ n
  pub hints : All (HasStart options pool) hands

-- the pool and its hands are new, and every hint is at the first tag of its set
abbrev pub IsOpen : {R : Type 0} → Options → Pool R → List (Hand R) → Type 0
IsOpen options pool hands = IsOpenWith HasFirstHints options pool hands

-- the pool and its hands are new, and every hint is at the first tag of its hand's own part of the set
abbrev pub IsOpenPlaced : {R : Type 0} → Options → Pool R → List (Hand R) → Type 0
IsOpenPlaced options pool hands = IsOpenWith HasPlacedHints options pool hands
