-- What the calls do that open, join, leave and close pools through their handles.
use Rattle.std.specs.Prelude.{if◌then◌else◌, ◌<◌, ◌≡◌, ◌≤◌, ◌⊎◌}
use Rattle.core.specs.Ordering.{int_eq}
use Rattle.tag_c.specs.Uses.{[], arc_value, FailsFirst, Hand, IsSome, List, Memory, nat_eq, negsuc, None, open_checks, OpenFault, Option, Options, PassesAll, Pool, pos, Some, suc, Totals, zero, ℕ, ℤ}
use Rattle.tag_model.specs.declared.world.TheConstants.{MOST_WON}
use Rattle.tag_cache.specs.declared.keeping.Keeping.TheVariants.{Always, WhileHolding}
use Rattle.tag_c.specs.declared.cached.CacheTerms.{CacheTerms}
use Rattle.tag_c.specs.declared.object.Kind.{Kind}
use Rattle.tag_c.specs.declared.object.Kind.TheVariants.{Pool as IsPool, Member as IsMember, Cached as IsCached}
use Rattle.tag_c.specs.declared.object.Object.{Object}
use Rattle.tag_c.specs.declared.status.Status.{Status}
use Rattle.tag_c.specs.declared.status.Status.TheVariants.{BadHandle, NotEmpty, HandsOut, BadFlag, NotOpened, NoBerth, HandLost, CacheTooLarge}
use Rattle.tag_c.specs.declared.structs.TheConstants.{BY_HANDS, MAX_CACHE}
use Rattle.tag_c.specs.declared.structs.Sums.{Sums}
use Rattle.tag_c.specs.declared.structs.RequestedOptions.{RequestedOptions}
use Rattle.tag_c.specs.Codes.{code_of}
use Rattle.tag_c.specs.Joins.{JoinsAs, Takes}
use Rattle.tag_c.specs.Pools.{Opens, LacksHand, Gathers}

-- this is a pool of these tags
abbrev pub IsPoolIn : Pool ℕ → Kind → Type 0
IsPoolIn tags (IsPool pool) = (arc_value pool.shared).tags ≡ tags
IsPoolIn tags _ = ⊥

-- this is a hand of these tags
abbrev pub IsMemberIn : Pool ℕ → Kind → Type 0
IsMemberIn tags (IsPool pool) = ⊥
IsMemberIn tags (IsMember member) = (arc_value member.shared).tags ≡ tags
IsMemberIn tags (IsCached member) = (arc_value member.shared).tags ≡ tags

-- the handle has a pool of these tags
abbrev pub IsPoolOf : Pool ℕ → Option Object → Type 0
IsPoolOf tags None = ⊥
IsPoolOf tags (Some object) = IsPoolIn tags object.kind

-- the handle has a hand of these tags
abbrev pub IsHandIn : Pool ℕ → Option Object → Type 0
IsHandIn tags None = ⊥
IsHandIn tags (Some object) = IsMemberIn tags object.kind

-- the handle has a pool
abbrev pub HasPool : Option Object → Type 0
HasPool value = (tags : Pool ℕ) × IsPoolOf tags value

-- the handle has a hand
abbrev pub HasHand : Option Object → Type 0
HasHand value = (tags : Pool ℕ) × IsHandIn tags value

-- the number, if it is not negative
abbrev pub unless_negative : ℤ → Option ℕ
unless_negative (pos n) = Some n
unless_negative (negsuc n) = None

-- the number, if it is not 0
abbrev pub unless_zero : ℕ → Option ℕ
unless_zero zero = None
unless_zero (suc n) = Some (suc n)

-- the options that C asks for; words are for the number of hands if the shift says so, and each hand may win as many tags as
-- a hand can
abbrev pub options_of : RequestedOptions → Options
options_of requested = record {
  depth = requested.total;
  reserved = requested.reserved;
  hands = requested.hands;
  shift = unless_negative requested.shift;
  by_hands = int_eq requested.shift BY_HANDS;
  round_robin = nat_eq requested.flags 1;
  min_shallow = unless_zero requested.min_shallow;
  life = MOST_WON;
}

-- the terms on which hands keep tags, as C asks for them: while they hold another one if the number is 1, and else always
abbrev pub terms_of : ℕ → ℕ → CacheTerms
terms_of most keeping = record { most = most; keeping = if nat_eq keeping 1 then WhileHolding else Always }

-- the totals as C sees them
abbrev pub sums_of : Totals → Sums
sums_of totals = record {
  got = totals.got;
  back = totals.back;
  held = totals.held;
  posted = totals.posted;
}

-- the number is that of a status with this reason
abbrev pub Refuses : (Status → Type 0) → ℤ → Type 0
Refuses reason code = (status : Status) × (code ≡ code_of status) × reason status

-- this is a new pool, opened with these options, whose hands keep tags on these terms
abbrev pub IsNewPool : Options → CacheTerms → Kind → Type 0
IsNewPool options terms (IsPool pool) = let state = arc_value pool.shared in
    Opens options state.tags pool.spare.items × (state.cache ≡ terms)
IsNewPool options terms _ = ⊥

-- the flags are known, and so is the number that says when tags are kept, of which there are few enough
abbrev pub IsKnown : RequestedOptions → ℕ → ℕ → Type 0
IsKnown requested most keeping = (requested.flags ≤ 1) × (keeping ≤ 1) × (most ≤ MAX_CACHE)

-- the handle has a new pool, opened with these options, whose hands keep up to so many tags
abbrev pub OpensPool : RequestedOptions → ℕ → ℕ → Option Object → Type 0
OpensPool requested most keeping None = ⊥
OpensPool requested most keeping (Some object) = IsKnown requested most keeping
    × IsNewPool (options_of requested) (terms_of most keeping) object.kind

-- the tags cannot be opened as requested, for the first check that fails, or because memory runs out
abbrev pub IsRefusedOpen : RequestedOptions → OpenFault → Type 0
IsRefusedOpen requested fault = let checks = open_checks (options_of requested) in
    FailsFirst checks fault ⊎ (PassesAll checks × (fault ≡ Memory))

-- an open is refused for the first that holds: a full handle, an unknown flag or number, too large a cache, a limit
-- exceeded, lack of memory
abbrev pub RefusesOpen : Option Object → RequestedOptions → ℕ → ℕ → Status → Type 0
RefusesOpen old requested most keeping status =
    ((status ≡ NotEmpty) × IsSome old)
    ⊎ ((status ≡ BadFlag) × (old ≡ None) × ((1 < requested.flags) ⊎ (1 < keeping)))
    ⊎ ((status ≡ CacheTooLarge) × (old ≡ None) × (requested.flags ≤ 1) × (keeping ≤ 1) × (MAX_CACHE < most))
    ⊎ ((fault : OpenFault) × (status ≡ NotOpened fault) × (old ≡ None) × IsKnown requested most keeping
    × IsRefusedOpen requested fault)

-- the spare hands of a pool
abbrev pub spare_in : Kind → List (Hand ℕ)
spare_in (IsPool pool) = pool.spare.items
spare_in _ = []

-- the spare hands of the handle's pool
abbrev pub spare_of : Option Object → List (Hand ℕ)
spare_of None = []
spare_of (Some object) = spare_in object.kind

-- the flags are known, and the pool gives a hand, whose gets begin in its own part if there is no flag
abbrev pub JoinsKind : ℕ → Kind → Kind → Kind → Type 0
JoinsKind flags (IsPool old) (IsPool new) hand = (flags ≤ 1) × JoinsAs (nat_eq flags 0) old new hand
JoinsKind flags _ _ hand = ⊥

-- the second handle has a hand that the first one's pool gives
abbrev pub JoinsPool : ℕ → Option Object → Option Object → Option Object → Type 0
JoinsPool flags (Some old) (Some new) (Some hand) = JoinsKind flags old.kind new.kind hand.kind
JoinsPool flags _ _ _ = ⊥

-- a pool with these spare hands gives no hand for unknown flags, nor for known ones if it lacks a hand
abbrev pub RefusesHand : List (Hand ℕ) → ℕ → Status → Type 0
RefusesHand spare flags status = ((status ≡ BadFlag) × (1 < flags)) ⊎ ((flags ≤ 1) × LacksHand spare status)

-- a hand gives no other hand
abbrev pub RefusesHandOf : Kind → ℕ → Status → Type 0
RefusesHandOf (IsPool pool) flags status = RefusesHand pool.spare.items flags status
RefusesHandOf _ flags status = status ≡ BadHandle

-- a join is refused for the first that holds: a full handle, a handle without a pool, a pool that gives no hand
abbrev pub RefusesJoin : Option Object → Option Object → ℕ → Status → Type 0
RefusesJoin pool hand flags status = ((status ≡ NotEmpty) × IsSome hand)
    ⊎ ((status ≡ BadHandle) × (hand ≡ None) × ¬ (HasPool pool))
    ⊎ ((hand ≡ None) × HasPool pool × RefusesHand (spare_of pool) flags status)

-- a hand that the pool gave may have left again
abbrev pub GaveBack : Kind → Kind → Type 0
GaveBack (IsPool old) (IsPool new) = (hand : Hand ℕ) × Takes old hand new
GaveBack _ _ = ⊥

-- the same of a handle
abbrev pub GaveBackBy : Option Object → Option Object → Type 0
GaveBackBy (Some old) (Some new) = GaveBack old.kind new.kind
GaveBackBy _ _ = ⊥

-- a refused join changes nothing of the pool, but where memory ran out it may have given a hand, which left again
abbrev pub IsRefusedJoin : ℤ → Option Object → Option Object → Type 0
IsRefusedJoin code old new = (new ≡ old) ⊎ ((code ≡ code_of (NotOpened Memory)) × GaveBackBy old new)

-- a leave is refused for a handle without a hand; when cells are free is not specified
abbrev pub RefusesLeave : Option Object → Status → Type 0
RefusesLeave hand status = ((status ≡ BadHandle) × ¬ (HasHand hand)) ⊎ (status ≡ NoBerth)

-- this was a pool, and its tags were gathered with these totals
abbrev pub Ends : Kind → Totals → Type 0
Ends kind totals = (tags : Pool ℕ) × IsPoolIn tags kind × Gathers tags (spare_in kind) totals

-- the tags of the handle's pool were gathered with these sums
abbrev pub ClosesPool : Option Object → Sums → Type 0
ClosesPool pool sums = (tags : Pool ℕ) × (totals : Totals) × IsPoolOf tags pool × Gathers tags (spare_of pool) totals
    × (sums ≡ sums_of totals)

-- a close is refused for a handle without a pool; when hands of a pool are out or lost is not specified
abbrev pub RefusesClose : Option Object → Status → Type 0
RefusesClose pool status = ((status ≡ BadHandle) × ¬ (HasPool pool))
    ⊎ (HasPool pool × ((status ≡ HandsOut) ⊎ (status ≡ HandLost)))
