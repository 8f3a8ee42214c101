-- Rounds of a wait for a tag of a set by the bell, through the handle of a hand.
use Rattle.std.specs.Prelude.{if◌then◌else◌, ◌∷◌, ◌≡◌, ◌≢◌, ◌≤◌, ◌⊎◌}
use Rattle.tag_c.specs.Uses.{[], Bool, Checks, Err, false, Hand, hand_of, IfOk, KeepsNone, Kind, nat_eq, None, Ok, Option, Ordinary, Pool, pos, RefusesBy, Reserved, Result, Some, Spent, TagFault, true, zero, ℕ, ℤ, ⊤}
use Rattle.tag_core.specs.declared.berth.Waiter.{Waiter}
use Rattle.tag_bell.specs.declared.told.Told.{Told}
use Rattle.tag_bell.specs.declared.waiting.Turn.{Turn}
use Rattle.tag_bell.specs.declared.waiting.Turn.TheVariants.{Next as NextTurn, Same}
use Rattle.tag_pool.specs.Gets as gets
use Rattle.tag_pool.specs.Hands.{HasRoom, layout_of}
use Rattle.tag_pool.specs.Holding as hand_holding
use Rattle.tag_pool.specs.Refusals.{none_of}
use Rattle.tag_pool.specs.Waits as hands
use Rattle.tag_pool.specs.declared.gets.rounds.Next.{Next}
use Rattle.tag_pool.specs.declared.gets.rounds.Next.TheVariants.{Won, Over, Sleep}
use Rattle.tag_cache.specs.declared.cache.Cache.{Cache}
use Rattle.tag_cache.specs.Gets as cached_gets
use Rattle.tag_cache.specs.Holding as user_holding
use Rattle.tag_cache.specs.Waits as caches
use Rattle.tag_c.specs.declared.bell.ToldHands.{ToldHands}
use Rattle.tag_c.specs.declared.status.Status.TheVariants.{NoTag}
use Rattle.tag_c.specs.Bell.{told_of}
use Rattle.tag_c.specs.Calls.{Through}
use Rattle.tag_c.specs.Codes.{code_of, code_of_fault}
use Rattle.tag_c.specs.Holders.{Holder, Either}

-- the turn that a hand had, or the next one
abbrev pub turn_of : ℕ → Turn
turn_of again = if nat_eq again 0 then NextTurn else Same

-- the wait is over, as the number says why, or 0 that it goes on
abbrev pub is_over : ℤ → Bool
is_over (pos zero) = false
is_over _ = true

-- the tag won; that the hand may sleep, or waits to be notified; why the wait is over; or why the hand can't wait
abbrev pub code_of_round : ℤ → Result Next TagFault → ℤ
code_of_round why (Ok (Won tag)) = pos tag
code_of_round why (Ok Sleep) = code_of NoTag
code_of_round why (Ok Over) = why
code_of_round why (Err fault) = code_of_fault fault

-- of the tag won, if there is one
abbrev pub IfWon : (ℕ → Type 0) → Next → Type 0
IfWon fact (Won tag) = fact tag
IfWon fact _ = ⊤

-- the tag is the one won
abbrev pub IsWon : Next → ℕ → Type 0
IsWon (Won tag) other = other ≡ tag
IsWon _ other = ⊥

-- a round: there have to be tags of this kind, and if the wait goes on, the hand may have to win one
abbrev pub round_checks : Kind → Bool → Pool ℕ → Hand ℕ → Checks TagFault
round_checks kind over pool hand = (1 ≤ (layout_of pool kind).depth, none_of kind)
    ∷ (over ≡ false → HasRoom hand kind 1, Spent) ∷ []

-- what comes before a round: nothing if the wait is over or the hand can wait at once, and otherwise a get, which may end
-- the wait
abbrev pub Begins : Pool ℕ → Kind → Bool → Option Next → Hand ℕ → Hand ℕ → Type 0
Begins pool kind over None old new = (over ≡ false) × hands.CanWait kind new × ((new ≡ old) ⊎ gets.Gets pool kind None old new)
Begins pool kind over (Some Over) old new = (over ≡ true) × (new ≡ old)
Begins pool kind over (Some (Won tag)) old new = (over ≡ false) × gets.Gets pool kind (Some tag) old new
Begins pool kind over (Some Sleep) old new = ⊥

-- then the round itself, which is no end of the wait but by a tag; or that end
abbrev pub GoesOn : Pool ℕ → Kind → Waiter → Turn → Option Next → Next → Told → Hand ℕ → Hand ℕ → Type 0
GoesOn pool kind waiter turn None next told old new = (next ≢ Over) × hands.Goes pool kind waiter turn next told old new
GoesOn pool kind waiter turn (Some end) next told old new = (next ≡ end) × hands.EndsWait pool kind told old new

-- a hand made a round, or ended its wait, and told these; it gained the tag won, if there is one, and no other
pub record MakesRound (pool : Pool ℕ) (kind : Kind) (waiter : Waiter) (turn : Turn) (over : Bool) (next : Next)
    (told : Told) (old new : Hand ℕ) : Type 0 where
  pub end : Option Next
  pub ready : Hand ℕ
  pub begins : Begins pool kind over end old ready
  pub goes : GoesOn pool kind waiter turn end next told ready new
  pub more : hand_holding.HoldsMore (IsWon next) old new

-- the same four of a hand with a cache, which gets the least kept tag of the kind if one is kept: no reserved tag is
abbrev pub round_checks_over : Kind → Bool → Pool ℕ → Cache ℕ → Checks TagFault
round_checks_over kind over pool cache = (1 ≤ (layout_of pool kind).depth, none_of kind)
    ∷ (over ≡ false → (kind ≡ Ordinary → KeepsNone cache) → HasRoom (hand_of cache) kind 1, Spent) ∷ []

-- a get of this kind, of which there are tags
abbrev pub get_checks_over : Kind → Cache ℕ → Checks TagFault
get_checks_over kind cache = ((kind ≡ Ordinary → KeepsNone cache) → HasRoom (hand_of cache) kind 1, Spent) ∷ []

abbrev pub GetsOver : Pool ℕ → Kind → Option ℕ → Cache ℕ → Cache ℕ → Type 0
GetsOver pool Ordinary answer old new = cached_gets.Gets pool answer old new
GetsOver pool Reserved answer old new = gets.Gets pool Reserved answer (hand_of old) (hand_of new)
    × user_holding.HoldsMore (gets.IsAnswer answer) old new

abbrev pub BeginsOver : Pool ℕ → Kind → Bool → Option Next → Cache ℕ → Cache ℕ → Type 0
BeginsOver pool kind over None old new = (over ≡ false) × hands.CanWait kind (hand_of new)
    × ((new ≡ old) ⊎ GetsOver pool kind None old new)
BeginsOver pool kind over (Some Over) old new = (over ≡ true) × (new ≡ old)
BeginsOver pool kind over (Some (Won tag)) old new = (over ≡ false) × GetsOver pool kind (Some tag) old new
BeginsOver pool kind over (Some Sleep) old new = ⊥

abbrev pub GoesOnOver : Pool ℕ → Kind → Waiter → Turn → Option Next → Next → Told → Cache ℕ → Cache ℕ → Type 0
GoesOnOver pool kind waiter turn None next told old new =
    (next ≢ Over) × caches.Goes pool kind waiter turn next told old new
GoesOnOver pool kind waiter turn (Some end) next told old new = (next ≡ end) × caches.EndsWait pool kind told old new

pub record MakesRoundOver (pool : Pool ℕ) (kind : Kind) (waiter : Waiter) (turn : Turn) (over : Bool) (next : Next)
    (told : Told) (old new : Cache ℕ) : Type 0 where
  pub end : Option Next
  pub ready : Cache ℕ
  pub begins : BeginsOver pool kind over end old ready
  pub goes : GoesOnOver pool kind waiter turn end next told ready new
  pub more : user_holding.HoldsMore (IsWon next) old new

-- a hand made a round as this waiter, with this turn, and told these, or is refused, and its wait has ended
pub record DoesRoundOf (kind : Kind) (waiter : Waiter) (turn : Turn) (over : Bool) (told : Told) (pool : Pool ℕ)
    (answer : Result Next TagFault) (old new : Hand ℕ) : Type 0 where
  pub refusals : RefusesBy (round_checks kind over pool old) (hands.EndsWait pool kind told old new) answer
  pub makes : IfOk answer (λ next. MakesRound pool kind waiter turn over next told old new)

-- the same of a hand with a cache
pub record DoesRoundOver (kind : Kind) (waiter : Waiter) (turn : Turn) (over : Bool) (told : Told) (pool : Pool ℕ)
    (answer : Result Next TagFault) (old new : Cache ℕ) : Type 0 where
  pub refusals : RefusesBy (round_checks_over kind over pool old) (caches.EndsWait pool kind told old new) answer
  pub makes : IfOk answer (λ next. MakesRoundOver pool kind waiter turn over next told old new)

-- the same of whoever holds tags through a handle
abbrev pub DoesRound : Kind → Waiter → Turn → Bool → Told → Pool ℕ → Result Next TagFault → Holder → Holder → Type 0
DoesRound kind waiter turn over told pool answer = Either (DoesRoundOf kind waiter turn over told pool answer)
    (DoesRoundOver kind waiter turn over told pool answer)

-- a call makes a round, by the number that says why the wait is over, and returns the number of its answer
abbrev pub CallsRound : Kind → Waiter → Turn → ℤ → ToldHands → ℤ → Pool ℕ → Holder → Holder → Type 0
CallsRound kind waiter turn why told =
    Through (DoesRound kind waiter turn (is_over why) (told_of told)) (code_of_round why)
