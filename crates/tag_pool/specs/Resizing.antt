-- Resizes of the ordinary set: when they are refused, and what they change.
use Rattle.std.specs.Prelude.{◌+◌, ◌-◌, ◌<◌, ◌↔◌, ◌≡◌, ◌≤◌, ◌⊎◌, count_by, nat_eq}
use Rattle.std.specs.Int.{bit_at}
use Rattle.std.specs.Result.{IsErrAnd}
use Rattle.tag_pool.specs.Uses.{All, Bool, Caller, Layout, List, Map, map, MAX_DEPTH, record_of, Result, ℕ}
use Rattle.step_ledger.specs.Gather.{HasAll, IsLeastMissing}
use Rattle.tag_core.specs.Callers as core
use Rattle.tag_core.specs.Chain.{GoesOn}
use Rattle.tag_core.specs.Reopening.{IsNext, AreReopened, LeadsOn, AllFree}
use Rattle.tag_core.specs.Settling.{AreSettled}
use Rattle.tag_core.specs.declared.record.Record.{Record}
use Rattle.tag_core.specs.declared.shape.Shape.{Shape}
use Rattle.tag_model.specs.declared.totals.Totals.{Totals}
use Rattle.tag_search.specs.declared.hint.Hint.{Hint}
use Rattle.tag_pool.specs.declared.hand.Hand.{Hand}
use Rattle.tag_pool.specs.declared.kind.Kind.{Kind}
use Rattle.tag_pool.specs.declared.kind.Kind.TheVariants.{Ordinary, Reserved}
use Rattle.tag_pool.specs.declared.pool.Pool.{Pool}
use Rattle.tag_pool.specs.declared.resizes.PoolResizeFault.{PoolResizeFault}
use Rattle.tag_pool.specs.declared.resizes.ResizeCause.{ResizeCause}
use Rattle.tag_pool.specs.declared.resizes.ResizeCause.TheVariants.{Missing, DepthTooLarge, InUse, Waiting, Memory}
use Rattle.tag_pool.specs.Gathering.{callers_of, numbers_of, records_of}
use Rattle.tag_pool.specs.Hands.{caller_of, fill_of, hands_of, hint_of, IsHandOf, layout_of, least_of, number_of, reserved_of, total_of}
use Rattle.tag_pool.specs.Using.{Balance, held_in, posted_in}

-- the number of tags of both sets that these hands hold
abbrev pub held_in_both : {R : Type 0} → List (Hand R) → ℕ
held_in_both hands = held_in (records_of hands Ordinary) + held_in (records_of hands Reserved)

-- the number of tags of both sets that are posted, if these are all hands
abbrev pub posted_in_both : {R : Type 0} → List (Hand R) → ℕ
posted_in_both hands = posted_in (records_of hands Ordinary) + posted_in (records_of hands Reserved)

-- in each set, each tag that these hands won was given back, is held or is posted
abbrev pub BalanceInBoth : {R : Type 0} → List (Hand R) → Type 0
BalanceInBoth hands = Balance (records_of hands Ordinary) × Balance (records_of hands Reserved)

-- no tag is held and none is posted, if these are all hands
abbrev pub AreUnused : {R : Type 0} → List (Hand R) → Type 0
AreUnused hands = (held_in_both hands ≡ 0) × (posted_in_both hands ≡ 0)

-- the bit of this number is 1 in the mask
abbrev pub has_bit : ℕ → ℕ → Bool
has_bit mask number = nat_eq (bit_at mask number) 1

-- by its own steps the hand is among those that wait for a tag of one of the sets
abbrev pub Waits : {R : Type 0} → Hand R → Type 0
Waits hand = core.IsAmongWaiters (caller_of hand Ordinary) ⊎ core.IsAmongWaiters (caller_of hand Reserved)

-- this many of the hands wait, those whose bit is 1 in the mask
pub record HaveWaiters {R : Type 0} (hands : List (Hand R)) (count : ℕ) : Type 0 where
  pub mask : ℕ
  pub mask_is : All (λ hand. (bit_at mask (number_of hand) ≡ 1) ↔ Waits hand) hands
  pub count_is : count ≡ count_by (has_bit mask) (numbers_of hands)

-- the total is one to which the reserved tags leave the rest
abbrev pub HasRange : ℕ → ℕ → Type 0
HasRange total reserved = (total ≤ MAX_DEPTH) × (reserved ≤ total)

-- the total is too large, or smaller than the reserved set
abbrev pub IsOutOfRange : ℕ → ℕ → Type 0
IsOutOfRange total reserved = (MAX_DEPTH < total) ⊎ (total < reserved)

-- all hands are present, and the pool can have this total
abbrev pub HasMap : {R : Type 0} → Pool R → List (Hand R) → ℕ → Type 0
HasMap pool hands total = HasAll (numbers_of hands) (hands_of pool) × HasRange total (reserved_of pool)

-- a resize can fail only for lack of memory
abbrev pub MayResize : {R : Type 0} → Pool R → List (Hand R) → ℕ → Type 0
MayResize pool hands total = HasMap pool hands total × AreUnused hands × HaveWaiters hands 0

-- this many tags are held and this many are posted, and at least one tag is either
abbrev pub AreUsed : {R : Type 0} → List (Hand R) → ℕ → ℕ → Type 0
AreUsed hands held posted = (held ≡ held_in_both hands) × (posted ≡ posted_in_both hands) × ¬ (AreUnused hands)

-- no tag is in use, and this many hands wait, at least one
abbrev pub AreWaiting : {R : Type 0} → List (Hand R) → ℕ → Type 0
AreWaiting hands count = AreUnused hands × HaveWaiters hands count × (1 ≤ count)

-- tags are in use or hands wait, as the cause says
abbrev pub IsBusyFor : {R : Type 0} → List (Hand R) → ResizeCause → Type 0
IsBusyFor hands (InUse held posted) = AreUsed hands held posted
IsBusyFor hands (Waiting count) = AreWaiting hands count
IsBusyFor hands _ = ⊥

-- what holds if a resize is refused for this cause
abbrev pub IsRefusedFor : {R : Type 0} → Pool R → List (Hand R) → ℕ → ResizeCause → Type 0
IsRefusedFor pool hands total (Missing number) = IsLeastMissing (numbers_of hands) (hands_of pool) number
IsRefusedFor pool hands total DepthTooLarge =
    HasAll (numbers_of hands) (hands_of pool) × IsOutOfRange total (reserved_of pool)
IsRefusedFor pool hands total (InUse held posted) = HasMap pool hands total × AreUsed hands held posted
IsRefusedFor pool hands total (Waiting count) = HasMap pool hands total × AreWaiting hands count
IsRefusedFor pool hands total Memory = MayResize pool hands total

-- the result is a refusal for this cause
abbrev pub IsRefusedAs : {R A : Type 0} → Result A (PoolResizeFault R) → ResizeCause → Type 0
IsRefusedAs result cause = IsErrAnd result (λ fault. fault.cause ≡ cause)

-- the next map continues any history that accounts for these records when their callers settle
abbrev pub GoesOnAfter : {R : Type 0} → Shape → List (Record R) → Shape → Type 0
GoesOnAfter k rs next = (totals : Totals) (known : AreSettled k rs totals)
    → GoesOn (record { shape = k; history = known.history }) next

-- the callers continue, in the same order, on a next map of this layout, all of whose tags are free
pub record MoveOn {R : Type 0} (layout : Layout) (old : Map R) (before : List (Caller R)) (new : Map R)
    (after : List (Caller R)) : Type 0 where
  pub next : IsNext layout old.shape new.shape
  pub goes_on : GoesOnAfter old.shape (map record_of before) new.shape
  pub callers : AreReopened new before after
  pub own : All (core.IsCallerOf new) after
  pub leads : LeadsOn old before new
  pub free : AllFree new.shape (map record_of after)

-- the ordinary set of this total, with the shift as before
abbrev pub layout_at : {R : Type 0} → Pool R → ℕ → Layout
layout_at pool total = record { depth = total - reserved_of pool; shift = (layout_of pool Ordinary).shift }

-- where the hands' next gets in a set start
abbrev pub hints_of : {R : Type 0} → List (Hand R) → Kind → List Hint
hints_of hands kind = map (λ hand. hint_of hand kind) hands

-- except for its ordinary map the pool is as before, and it has this total
pub record KeepsRest {R : Type 0} (old : Pool R) (total : ℕ) (new : Pool R) : Type 0 where
  pub total_is : total_of new ≡ total
  pub split : reserved_of new ≡ reserved_of old
  pub reserved : new.reserved ≡ old.reserved
  pub least : least_of new ≡ least_of old
  pub fill : fill_of new ≡ fill_of old

-- the hands continue, in the same order, with this total, on a next map of the ordinary tags that the reserved ones leave of
-- it, all free; the reserved set, the numbers and the hints of the hands, and the rest of the pool are as before
pub record IsResized {R : Type 0} (old : Pool R) (hands : List (Hand R)) (total : ℕ) (new : Pool R)
    (resized : List (Hand R)) : Type 0 where
  pub rest : KeepsRest old total new
  pub ordinary : MoveOn (layout_at old total) old.ordinary (callers_of hands Ordinary) new.ordinary
      (callers_of resized Ordinary)
  pub reserved_callers : core.AreUnchanged (callers_of hands Reserved) (callers_of resized Reserved)
  pub hints : (kind : Kind) → hints_of resized kind ≡ hints_of hands kind
  pub numbers : numbers_of resized ≡ numbers_of hands
  pub own : All (IsHandOf new) resized
