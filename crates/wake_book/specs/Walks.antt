-- Lawful walks, and how a waiter sleeps in a group and leaves it.
use Rattle.std.specs.Prelude.{◌%◌, ◌*◌, ◌+◌, ◌-◌, ◌<◌, ◌^◌, ◌∷◌, ◌≡◌, ◌≢◌, ◌≤◌, ◌⊎◌}
use Rattle.wake_book.specs.Uses.{[], length, List, min, suc, sum, total, zero, ℕ}
use Rattle.wake_book.specs.declared.steps.GroupStep.{GroupStep}
use Rattle.wake_book.specs.declared.steps.GroupStep.TheVariants.{Look, Lower, Grant, Use, Withdraw, Store}
use Rattle.wake_book.specs.declared.waiting.Left.{Left}
use Rattle.wake_book.specs.declared.waiting.Left.TheVariants.{Woken, Unwoken}
use Rattle.wake_book.specs.Waits.{active_at, index_at, one_waiting, group_at, granted, waiting, moved_by}

-- the look of a try at a group
abbrev pub looked : ℕ → ℕ → List GroupStep → List GroupStep
looked g found before = Look (group_at g) found ∷ before

-- that many tries at a group, each of which found somebody waiting and lost its exchange
abbrev pub LosesGrants : ℕ → ℕ → ℕ → List GroupStep → List GroupStep → Type 0
LosesGrants zero g most steps steps' = steps' ≡ steps
LosesGrants (suc tries) g most steps steps' = (found : ℕ) × (seen : ℕ) × (before : List GroupStep)
    × LosesGrants tries g most steps before × (1 ≤ waiting found) × (seen ≢ found)
    × (steps' ≡ Grant g found (min (waiting found) most) seen ∷ looked g found before)

-- fewer than four tries were lost, and the next load found this word
abbrev pub LosesAndLooks : ℕ → ℕ → List GroupStep → List GroupStep → ℕ → Type 0
LosesAndLooks g most steps steps' found = (tries : ℕ) × (tries < 4) × (before : List GroupStep)
    × LosesGrants tries g most steps before × (steps' ≡ looked g found before)

-- a visit found nobody waiting
abbrev pub FindsNobody : ℕ → ℕ → List GroupStep → List GroupStep → ℕ → Type 0
FindsNobody g most steps steps' moved = (found : ℕ) × LosesAndLooks g most steps steps' found
    × (waiting found ≡ 0) × (moved ≡ 0)

-- a visit won a try, and moved all that waited, or the most asked for if that is less
abbrev pub WinsGrant : ℕ → ℕ → List GroupStep → List GroupStep → ℕ → Type 0
WinsGrant g most steps steps' moved = (found : ℕ) × (before : List GroupStep) × LosesAndLooks g most steps before found
    × (1 ≤ waiting found) × (moved ≡ min (waiting found) most) × (steps' ≡ Grant g found moved found ∷ before)

-- a visit lost four tries
abbrev pub LosesFour : ℕ → ℕ → List GroupStep → List GroupStep → ℕ → Type 0
LosesFour g most steps steps' moved = (tries : ℕ) × (tries ≡ 4) × LosesGrants tries g most steps steps' × (moved ≡ 0)

-- a visit to a group that moves at most this many
abbrev pub VisitsGroup : ℕ → ℕ → List GroupStep → List GroupStep → ℕ → Type 0
VisitsGroup g most steps steps' moved = FindsNobody g most steps steps' moved
    ⊎ (WinsGrant g most steps steps' moved ⊎ LosesFour g most steps steps' moved)

-- the visits of a walk from the group `first` on, and how many waiters each moved, the last one first: each is to the
-- next group in cyclic order, and moves at most what those before it left of `nr`, which was not 0
abbrev pub AreVisits : ℕ → ℕ → List ℕ → List GroupStep → List GroupStep → Type 0
AreVisits first nr [] steps steps' = steps' ≡ steps
AreVisits first nr (moved ∷ earlier) steps steps' = (before : List GroupStep)
    × AreVisits first nr earlier steps before × (sum earlier < nr)
    × VisitsGroup ((first + length earlier) % 8) (nr - sum earlier) before steps' moved

-- the walk loads an active count other than 0 and the wake index, visits groups until `nr` are moved or all eight were
-- visited, and stores the group after the last one visited
abbrev pub WalksOn : ℕ → List GroupStep → List GroupStep → ℕ → Type 0
WalksOn nr steps steps' moved = (active : ℕ) × (1 ≤ active) × (first : ℕ) × (first < 8)
    × (counts : List ℕ) × (before : List GroupStep)
    × AreVisits first nr counts (Look index_at first ∷ Look active_at active ∷ steps) before
    × (length counts ≤ 8) × ((sum counts ≡ nr) ⊎ (length counts ≡ 8))
    × (steps' ≡ Store ((first + length counts) % 8) ∷ before) × (moved ≡ sum counts)

-- a walk for nr makes no step if its waiter's moves could exceed 2^56, and ends at once if it finds nobody active
abbrev pub IsWalk : ℕ → List GroupStep → List GroupStep → ℕ → Type 0
IsWalk nr steps steps' moved = ((2 ^ 56 < total moved_by steps + nr) × (steps' ≡ steps) × (moved ≡ 0))
    ⊎ (((total moved_by steps + nr ≤ 2 ^ 56) × (steps' ≡ Look active_at 0 ∷ steps) × (moved ≡ 0))
    ⊎ ((total moved_by steps + nr ≤ 2 ^ 56) × WalksOn nr steps steps' moved))

-- the most steps of a walk: two loads, eight visits of four tries of two steps each, and the store
abbrev pub walk_steps : ℕ
walk_steps = 2 + 8 * (4 * 2) + 1

-- the exchange that follows a look: a use of a grant if the look found one, otherwise a withdrawal
abbrev pub IsCalledFor : ℕ → ℕ → ℕ → GroupStep → Type 0
IsCalledFor g found seen step = ((0 < granted found) × (step ≡ Use g found seen))
    ⊎ ((granted found ≡ 0) × (step ≡ Withdraw g found seen))

-- a waiter leaves a group with this word by using a grant if there is one, and otherwise by withdrawing; `next` is the
-- word without it
abbrev pub IsWayOut : ℕ → Left → ℕ → Type 0
IsWayOut found Woken next = (0 < granted found) × (next ≡ found - 1)
IsWayOut found Unwoken next = (granted found ≡ 0) × (next ≡ found - one_waiting)

-- that many idles, each a look at the group and then its exchange, which was lost
abbrev pub Idles : ℕ → ℕ → List GroupStep → List GroupStep → Type 0
Idles zero g steps steps' = steps' ≡ steps
Idles (suc idles) g steps steps' = (found : ℕ) × (seen : ℕ) × (step : GroupStep) × (before : List GroupStep)
    × Idles idles g steps before × IsCalledFor g found seen step × (seen ≢ found)
    × (steps' ≡ step ∷ looked g found before)

-- after some idles the waiter looked at its group, and found this word
abbrev pub IdlesAndLooks : ℕ → List GroupStep → List GroupStep → ℕ → Type 0
IdlesAndLooks g steps steps' found = (idles : ℕ) × (before : List GroupStep) × Idles idles g steps before
    × (steps' ≡ looked g found before)

-- the waiter left the group: by a grant that it found there, or by a withdrawal because it found none
abbrev pub IsLeave : ℕ → List GroupStep → List GroupStep → Left → Type 0
IsLeave g steps steps' Woken = (active : ℕ) × (found : ℕ) × (before : List GroupStep)
    × IdlesAndLooks g steps before found
    × (0 < granted found) × (steps' ≡ Lower active ∷ Use g found found ∷ before)
IsLeave g steps steps' Unwoken = (active : ℕ) × (found : ℕ) × (before : List GroupStep)
    × IdlesAndLooks g steps before found
    × (granted found ≡ 0) × (steps' ≡ Lower active ∷ Withdraw g found found ∷ before)

-- the waiter looked at its group once, and made no other step
abbrev pub IsSleep : ℕ → List GroupStep → List GroupStep → Type 0
IsSleep g steps steps' = (found : ℕ) × (steps' ≡ looked g found steps)
