-- The reasons why calls on pools are refused, and that each has a negative number.
use Rattle.std.specs.Prelude.{◌<◌, ◌≡◌, ◌≢◌, ◌≤◌, ◌⊎◌}
use Rattle.tag_c.proofs.Uses.{[], ap, arc_value, BadFlag, BadHandle, Bool, CallerCount, ClosesPool, code_of, code_of_open_fault, Ends, Gathers, GaveBack, Hand, HandLost, HandsOut, HasHand, HasPool, IfSome, inl, inr, IsHandIn, IsMemberIn, IsPoolIn, IsPoolOf, IsRefusal, JoinsAs, JoinsKind}
use Rattle.tag_c.proofs.Uses.{Kind, LacksHand, LifeTooLong, List, mag, Memory, nat_eq, NoHand, None, NotOpened, Object, of_z, Option, OpenPool, pos, Totals, refl, Refuses, RefusesClose, RefusesHand, RefusesHandOf, RefusesJoin, ReservedTooLarge, ShiftTooLarge, Some, spare_in, spare_of, Status}
use Rattle.tag_c.proofs.Uses.{subst, sums_of, sym, Pool, to_z, TotalTooLarge, w32, ℕ, ℤ, ⊎_elim, ◌∙◌}
use Rattle.tag_pool.specs.declared.fault.OpenFault.{OpenFault}
use Rattle.tag_c.specs.declared.object.Kind.TheVariants.{Pool as IsPool, Member as IsMember, Cached as IsCached}
use Rattle.tag_c.specs.declared.structs.Sums.{Sums}
use Rattle.tag_c.proofs.Calling.{stored}

-- a status is returned in 32 bits with its own number
pub refuses : (reason : Status → Type 0) (status : Status) (raw : ℤ) → raw ≡ code_of status → mag raw < 2147483648
    → reason status → Refuses reason (to_z w32 (of_z w32 raw))
refuses reason status raw is small why = (status, stored raw small ∙ is, why)

-- the number of a refusal, stored in 32 bits, is not 0
pub refused : (status : Status) (raw : ℤ) → raw ≡ code_of status → mag raw < 2147483648
    → IsRefusal (code_of status) → to_z w32 (of_z w32 raw) ≢ pos 0
refused status raw is small below zero = subst IsRefusal (sym (stored raw small ∙ is) ∙ zero) below

-- a status that equals a known refusal is a refusal
below : (status known : Status) → status ≡ known → IsRefusal (code_of known) → IsRefusal (code_of status)
below status known is refusal = subst (λ (s : Status). IsRefusal (code_of s)) (sym is) refusal

-- each reason why tags could not be opened is a refusal
pub fault_below : (fault : OpenFault) → IsRefusal (code_of_open_fault fault)
fault_below Memory = tt
fault_below TotalTooLarge = tt
fault_below ReservedTooLarge = tt
fault_below ShiftTooLarge = tt
fault_below CallerCount = tt
fault_below LifeTooLong = tt

-- an empty handle has no hand
pub no_hand : (value : Option Object) → value ≡ None → ¬ (HasHand value)
no_hand value none has = subst (λ (x : Option Object). IsHandIn has.0 x) none has.1

-- an empty handle has no pool
pub no_pool : (value : Option Object) → value ≡ None → ¬ (HasPool value)
no_pool value none has = subst (λ (x : Option Object). IsPoolOf has.0 x) none has.1

-- a handle has a hand if its object is one
pub hand_behind : (value : Option Object) (object : Object) (kind : Kind) (tags : Pool ℕ) → value ≡ Some object
    → object.kind ≡ kind → IsMemberIn tags kind → HasHand value
hand_behind value object kind tags some is has = (
  tags,
  subst (λ (v : Option Object). IsHandIn tags v) (sym some)
      (subst (λ (k : Kind). IsMemberIn tags k) (sym is) has),
)

-- the object behind a handle that has a hand is a hand
pub hand_there : (value : Option Object) (object : Object) → value ≡ Some object → HasHand value → (tags : Pool ℕ)
    × IsMemberIn tags object.kind
hand_there value object some has = (has.0, subst (λ (x : Option Object). IsHandIn has.0 x) some has.1)

-- a handle with an object that is a pool has a pool
pub has_pool : (value : Option Object) (object : Object) → value ≡ Some object
    → (tags : Pool ℕ) × IsPoolIn tags object.kind → HasPool value
has_pool value object some there =
    (there.0, subst (λ (x : Option Object). IsPoolOf there.0 x) (sym some) there.1)

-- the object behind a handle that has a pool is a pool
pub pool_there : (value : Option Object) (object : Object) → value ≡ Some object → HasPool value → (tags : Pool ℕ)
    × IsPoolIn tags object.kind
pool_there value object some has = (has.0, subst (λ (x : Option Object). IsPoolOf has.0 x) some has.1)

-- whatever joins the hands of a pool is a hand
is_hand : (placed : Bool) (old new : OpenPool) (kind : Kind) → JoinsAs placed old new kind → (tags : Pool ℕ)
    × IsMemberIn tags kind
is_hand placed old new (IsMember member) joins = ((arc_value member.shared).tags, refl)
is_hand placed old new (IsCached member) joins = ((arc_value member.shared).tags, refl)
is_hand placed old new (IsPool pool) joins = absurd joins

-- and it is one that the pool gave
gave : (placed : Bool) (old new : OpenPool) (kind : Kind) → JoinsAs placed old new kind → GaveBack (IsPool old) (IsPool new)
gave placed old new (IsMember member) joins = let gives = joins.2 in (gives.found, gives.takes)
gave placed old new (IsCached member) joins = let gives = joins.5 in (gives.found, gives.takes)
gave placed old new (IsPool pool) joins = absurd joins

-- whatever joins an object is a hand
pub joiner : (flags : ℕ) (old new kind : Kind) → JoinsKind flags old new kind → (tags : Pool ℕ) × IsMemberIn tags kind
joiner flags (IsPool old) (IsPool new) kind joins = is_hand (nat_eq flags 0) old new kind joins.1
joiner flags (IsPool old) (IsMember new) kind joins = absurd joins
joiner flags (IsPool old) (IsCached new) kind joins = absurd joins
joiner flags (IsMember old) new kind joins = absurd joins
joiner flags (IsCached old) new kind joins = absurd joins

-- that object is a pool, which gave the hand, for known flags
pub joined : (flags : ℕ) (old new kind : Kind) → JoinsKind flags old new kind → ((tags : Pool ℕ) × IsPoolIn tags old)
    × (flags ≤ 1) × GaveBack old new
joined flags (IsPool old) (IsPool new) kind joins =
    (((arc_value old.shared).tags, refl), joins.0, gave (nat_eq flags 0) old new kind joins.1)
joined flags (IsPool old) (IsMember new) kind joins = absurd joins
joined flags (IsPool old) (IsCached new) kind joins = absurd joins
joined flags (IsMember old) new kind joins = absurd joins
joined flags (IsCached old) new kind joins = absurd joins

-- the totals of a gathered pool are those of an object that is this pool
pub ends_of : (kind : Kind) (pool : OpenPool) → kind ≡ IsPool pool → (totals : Option Totals)
    → IfSome totals (Gathers (arc_value pool.shared).tags pool.spare.items) → IfSome totals (Ends kind)
ends_of kind pool is None gathers = tt
ends_of kind pool is (Some totals) gathers =
    subst (λ (k : Kind). Ends k totals) (sym is) ((arc_value pool.shared).tags, refl, gathers)

-- the handle that had this object is closed with the same totals
pub closes_of : (pool : Option Object) (object : Object) → pool ≡ Some object → (totals : Totals) (sums : Sums)
    → Ends object.kind totals → sums ≡ sums_of totals → ClosesPool pool sums
closes_of pool object some totals sums ends is =
    subst (λ (x : Option Object). ClosesPool x sums) (sym some) (ends.0, totals, ends.1, ends.2, is)

-- each reason why a pool is not closed is a refusal
pub close_below : (pool : Option Object) (status : Status) → RefusesClose pool status → IsRefusal (code_of status)
close_below pool status why = ⊎_elim (λ (no : (status ≡ BadHandle) × ¬ (HasPool pool)). below status BadHandle no.0 tt)
    (λ (rest : HasPool pool × ((status ≡ HandsOut) ⊎ (status ≡ HandLost))). ⊎_elim
    (λ (is : status ≡ HandsOut). below status HandsOut is tt)
    (λ (is : status ≡ HandLost). below status HandLost is tt) rest.1) why

module _ (flags : ℕ) (status : Status) where
  -- each reason why an object gives no hand is a refusal
  pub join_below : (kind : Kind) → RefusesHandOf kind flags status → IsRefusal (code_of status)
  join_below (IsMember member) is = below status BadHandle is tt
  join_below (IsCached member) is = below status BadHandle is tt
  join_below (IsPool pool) hand =
      ⊎_elim (λ (flag : (status ≡ BadFlag) × (1 < flags)). below status BadFlag flag.0 tt)
      (λ (lacks : (flags ≤ 1) × LacksHand pool.spare.items status).
      ⊎_elim (λ (is : (status ≡ NoHand) × (pool.spare.items ≡ [])). below status NoHand is.0 tt)
      (λ (is : status ≡ NotOpened Memory). below status (NotOpened Memory) is tt)
      lacks.1) hand

  module _ (pool hand : Option Object) (empty : hand ≡ None) where
    -- behind a handle that is no pool, or is one, stands an object that gives no hand
    join_behind : (kind : Kind) → ((tags : Pool ℕ) → IsPoolIn tags kind → IsPoolOf tags pool)
        → (HasPool pool → (tags : Pool ℕ) × IsPoolIn tags kind) → spare_of pool ≡ spare_in kind
        → RefusesHandOf kind flags status → RefusesJoin pool hand flags status
    join_behind (IsMember member) to from spare is = inr (inl (is, empty, λ has. (from has).1))
    join_behind (IsCached member) to from spare is = inr (inl (is, empty, λ has. (from has).1))
    join_behind (IsPool inner) to from spare why = let tags = (arc_value inner.shared).tags in
        inr (inr (empty, (tags, to tags refl), subst (λ (s : List (Hand ℕ)). RefusesHand s flags status) (sym spare) why))

    -- the join is refused for the same reason
    pub refuses_join : (object : Object) → pool ≡ Some object → RefusesHandOf object.kind flags status
        → RefusesJoin pool hand flags status
    refuses_join object is why = join_behind object.kind
        (λ tags in_it. subst (λ (x : Option Object). IsPoolOf tags x) (sym is) in_it) (pool_there pool object is)
        (ap spare_of is) why
