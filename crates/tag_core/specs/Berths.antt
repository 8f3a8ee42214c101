-- A caller's berth, the one word by which it waits and is told: what a tell leaves of it, and how it stands in a word.
use Rattle.std.specs.Prelude.{◌%◌, ◌*◌, ◌+◌, ◌/◌, ◌<◌, ◌≡◌, Bool, cond, false, IsTrue, nat_eq, true, ℕ}
use Rattle.tag_core.specs.declared.berth.TheConstants.{TURNS}
use Rattle.tag_core.specs.declared.berth.Waiter.{Waiter}
use Rattle.tag_core.specs.declared.berth.Waiter.TheVariants.{Listener, Sleeper}
use Rattle.tag_core.specs.declared.berth.Berth.{Berth}
use Rattle.tag_core.specs.declared.berth.Berth.TheVariants.{Listed, Told, Up}

-- they wait as the same
abbrev pub same_waiter : Waiter → Waiter → Bool
same_waiter Sleeper Sleeper = true
same_waiter Sleeper Listener = false
same_waiter Listener Sleeper = false
same_waiter Listener Listener = true

-- it does not wait
abbrev pub IsUp : Berth → Type 0
IsUp Up = Unit {0}
IsUp (Listed waiter turn) = ⊥
IsUp (Told waiter turn) = ⊥

-- it waits as one of these waiters, and nobody has told it
abbrev pub IsListed : (Waiter → Bool) → Berth → Type 0
IsListed kinds Up = ⊥
IsListed kinds (Listed waiter turn) = IsTrue (kinds waiter)
IsListed kinds (Told waiter turn) = ⊥

-- it was told as one of these waiters
abbrev pub IsTold : (Waiter → Bool) → Berth → Type 0
IsTold kinds Up = ⊥
IsTold kinds (Listed waiter turn) = ⊥
IsTold kinds (Told waiter turn) = IsTrue (kinds waiter)

-- it is listed so
abbrev pub IsListedAs : Waiter → ℕ → Berth → Type 0
IsListedAs waiter turn Up = ⊥
IsListedAs waiter turn (Listed own_waiter own_turn) = (own_waiter ≡ waiter) × (own_turn ≡ turn)
IsListedAs waiter turn (Told own_waiter own_turn) = ⊥

-- what a tell leaves that expects the berth to be listed so: the berth as it was, unless it is
abbrev pub told_as : Waiter → ℕ → Berth → Berth
told_as waiter turn Up = Up
told_as waiter turn (Listed own_waiter own_turn) = cond (same_waiter own_waiter waiter)
    (cond (nat_eq own_turn turn) (Told own_waiter own_turn) (Listed own_waiter own_turn)) (Listed own_waiter own_turn)
told_as waiter turn (Told own_waiter own_turn) = Told own_waiter own_turn

-- the turn fits the word
abbrev pub TurnFits : Berth → Type 0
TurnFits Up = Unit {0}
TurnFits (Listed waiter turn) = turn < TURNS
TurnFits (Told waiter turn) = turn < TURNS

-- bit 2 tells as what it waits
abbrev pub waiter_bit : Waiter → ℕ
waiter_bit Sleeper = 0
waiter_bit Listener = 4

abbrev pub waiter_of : ℕ → Waiter
waiter_of word = cond (nat_eq (word / 4 % 2) 0) Sleeper Listener

-- the word of a berth: bits 0 and 1 tell whether it is listed or told, and those above bit 2 its turn
abbrev pub berth_word : Berth → ℕ
berth_word Up = 0
berth_word (Listed waiter turn) = turn * 8 + waiter_bit waiter + 1
berth_word (Told waiter turn) = turn * 8 + waiter_bit waiter + 2

-- the berth of a word
abbrev pub berth_of : ℕ → Berth
berth_of word = cond (nat_eq (word % 4) 1) (Listed (waiter_of word) (word / 8))
    (cond (nat_eq (word % 4) 2) (Told (waiter_of word) (word / 8)) Up)
