-- The terms of public clauses about wait groups and their waiters.
use Rattle.std.specs.Prelude.{◌+◌, ◌<◌, ◌∷◌, ◌≡◌, ◌≢◌, ◌≤◌, ◌⊎◌}
use Rattle.wake_book.specs.Uses.{All, List, map, None, Option, Record, Some, total, ℕ}
use Rattle.step_ledger.specs.Gather as members
use Rattle.step_ledger.specs.Records as ledger
use Rattle.wake_book.specs.declared.grants.Grants.{Grants}
use Rattle.wake_book.specs.declared.groups.Groups.{Groups}
use Rattle.wake_book.specs.declared.groups.Waiter.{Waiter}
use Rattle.wake_book.specs.declared.groups.WaiterGathering.{WaiterGathering}
use Rattle.wake_book.specs.declared.rings.Rung.{Rung}
use Rattle.wake_book.specs.declared.rings.Rung.TheVariants.{Granted, Nudged}
use Rattle.wake_book.specs.declared.sighting.Sighting.{Sighting}
use Rattle.wake_book.specs.declared.sleeping.Announcement.{Announcement}
use Rattle.wake_book.specs.declared.sleeping.Key.{Key}
use Rattle.wake_book.specs.declared.steps.GroupStep.{GroupStep}
use Rattle.wake_book.specs.declared.waiting.Left.{Left}
use Rattle.wake_book.specs.Grants.{AreGrantsOf}
use Rattle.wake_book.specs.Waits.{moved_by}
use Rattle.wake_book.specs.Walks.{Idles, IsLeave, IsSleep}

-- the waiter was opened with these groups
abbrev pub IsWaiterOf : Groups → Waiter → Type 0
IsWaiterOf groups waiter = waiter.seat.table_id ≡ groups.table.shared.table_id

-- the waiter's own steps, newest first
abbrev pub steps_of : Waiter → List GroupStep
steps_of waiter = ledger.steps_of waiter.seat.me.0

-- the waiter's number, from 0
abbrev pub number_of : Waiter → ℕ
number_of waiter = waiter.number

-- the group that the waiter is in, if any
abbrev pub standing_of : Waiter → Option ℕ
standing_of waiter = waiter.standing

-- the group that the waiter enters next
abbrev pub wait_index_of : Waiter → ℕ
wait_index_of waiter = waiter.next

-- how many waiters this one moved from waiting to granted
abbrev pub moved_of : Waiter → ℕ
moved_of waiter = total moved_by (steps_of waiter)

-- whom the waiter's latest ring was for
abbrev pub rung_of : Waiter → Rung
rung_of waiter = waiter.rung.value

-- whom the waiter's latest ring was for, and the one before it
abbrev pub rings_of : Waiter → Rung × Rung
rings_of waiter = (rung_of waiter, waiter.before.value.value)

-- the waiter's number and steps
abbrev pub record_of : Waiter → Record GroupStep
record_of waiter = record { number = waiter.number; steps = steps_of waiter }

-- the records of several waiters
abbrev pub records_of : List Waiter → List (Record GroupStep)
records_of waiters = map record_of waiters

-- the numbers of several waiters
abbrev pub numbers_of : List Waiter → List ℕ
numbers_of waiters = map number_of waiters

-- the gathered waiters were opened with the groups
abbrev pub IsGatheringOf : Groups → WaiterGathering → Type 0
IsGatheringOf groups gathering = gathering.seat.table_id ≡ groups.table.shared.table_id

-- the records of the waiters gathered, the last one added first
abbrev pub gathered : WaiterGathering → List (Record GroupStep)
gathered gathering = members.turned gathering.seat.me.0.records.value

-- these are the waiters gathered, and they were opened with the groups
abbrev pub AreGathered : Groups → List Waiter → WaiterGathering → Type 0
AreGathered groups waiters gathering = IsGatheringOf groups gathering × (gathered gathering ≡ records_of waiters)

-- how many waiters the groups have
abbrev pub waiters_of : Groups → ℕ
waiters_of groups = groups.waiters

-- the same waiter, in the same group and with the same wait index
abbrev pub StandsAsBefore : Waiter → Waiter → Type 0
StandsAsBefore old new = (number_of new ≡ number_of old) × (standing_of new ≡ standing_of old)
    × (wait_index_of new ≡ wait_index_of old)

-- the waiter has rung for nobody since
abbrev pub RingsNobody : Waiter → Waiter → Type 0
RingsNobody old new = rings_of new ≡ rings_of old

-- the waiter has rung once since, and for these
abbrev pub RingsOnce : Rung → Waiter → Waiter → Type 0
RingsOnce rung old new = rings_of new ≡ (rung, rung_of old)

-- the waiter stands as before, and has rung for nobody since
abbrev pub StandsSilent : Waiter → Waiter → Type 0
StandsSilent old new = (number_of new ≡ number_of old) × (standing_of new ≡ standing_of old)
    × (wait_index_of new ≡ wait_index_of old) × RingsNobody old new

-- the waiter rang once, for these, and nothing else of the waiter changed
abbrev pub RingsFor : Rung → Waiter → Waiter → Type 0
RingsFor rung old new = StandsAsBefore old new × (steps_of new ≡ steps_of old) × RingsOnce rung old new

-- the waiter's steps granted these wakeups since, and it has rung for nobody
pub record GrantsUnrung (grants : Grants) (old new : Waiter) : Type 0 where
  pub are : AreGrantsOf grants (steps_of old) (steps_of new)
  pub silent : RingsNobody old new

-- whom the waiter's steps granted a wakeup since, if anybody, it rang for once, and for nobody else
abbrev pub RingsGranted : Waiter → Waiter → Type 0
RingsGranted old new = ((moved_of new ≡ moved_of old) × RingsNobody old new)
    ⊎ ((grants : Grants) × RingsOnce (Granted grants) old new × AreGrantsOf grants (steps_of old) (steps_of new))

-- what the other value was at the look
abbrev pub sighted_beside : {T : Type 0} → Sighting T → T
sighted_beside sighting = sighting.beside.value

-- the waiter's own steps, newest first, right after the look
abbrev pub sighted_steps : {T : Type 0} → Sighting T → List GroupStep
sighted_steps sighting = steps_of sighting.waiter.value

-- when the sleep of this key was announced
abbrev pub announcement_of : {T : Type 0} → Key T → Announcement T
announcement_of key = key.announcement

-- what the other value was at the announcement
abbrev pub announced_beside : {T : Type 0} → Announcement T → T
announced_beside announcement = announcement.beside.value

-- the waiter's own steps, newest first, at the announcement
abbrev pub announced_steps : {T : Type 0} → Announcement T → List GroupStep
announced_steps announcement = steps_of announcement.waiter.value

-- the key announces a sleep in the group of these groups that the waiter is in
abbrev pub IsKeyFor : {T : Type 0} → Groups → Waiter → Key T → Type 0
IsKeyFor groups waiter key = (key.groups.value ≡ groups) × (standing_of waiter ≡ Some key.group)

-- the waiter left the group that it was in, as the result says
abbrev pub LeavesAs : Waiter → Waiter → Left → Type 0
LeavesAs old new left = (group : ℕ) × (standing_of old ≡ Some group) × IsLeave group (steps_of old) (steps_of new) left

-- the waiter's one exchange in its group lost: it found a word other than the one that the look before it found
abbrev pub IdlesOnce : Waiter → Waiter → Type 0
IdlesOnce old new = (group : ℕ) × (standing_of old ≡ Some group) × Idles 1 group (steps_of old) (steps_of new)

-- the waiter slept in the group that it is in, where it looked once
abbrev pub Sleeps : Waiter → Waiter → Type 0
Sleeps old new = (group : ℕ) × (standing_of old ≡ Some group) × IsSleep group (steps_of old) (steps_of new)

-- the waiter made an exchange, as a step of the word that it found, and that was not the word expected
abbrev pub Loses : ℕ → (ℕ → GroupStep) → Waiter → Waiter → Type 0
Loses expected step old new = (seen : ℕ) × (seen ≢ expected) × (steps_of new ≡ step seen ∷ steps_of old)

-- the waiter's number of moves to granted went up by the count
abbrev pub MovesMore : ℕ → Waiter → Waiter → Type 0
MovesMore count old new = new.moved ≡ old.moved + count

-- the number of waiters is one that groups can have, 1 to 64
abbrev pub CountsGroups : ℕ → Type 0
CountsGroups waiters = (1 ≤ waiters) × (waiters ≤ 64)

-- the waiter is in no group, enters group 0 next, and has rung for nobody
abbrev pub IsNew : Waiter → Type 0
IsNew waiter = (standing_of waiter ≡ None) × (wait_index_of waiter ≡ 0) × (rung_of waiter ≡ Nudged 0)

-- new groups, whose waiters are in the order of their numbers and have made no step
pub record AreOpenGroups (waiters : ℕ) (groups : Groups) (all : List Waiter) : Type 0 where
  pub count : (1 ≤ waiters) × (waiters ≤ 64)
  pub waiters_are : waiters_of groups ≡ waiters
  pub own : All (IsWaiterOf groups) all
  pub new : All IsNew all
  pub fresh_all : records_of all ≡ ledger.fresh 0 waiters
