-- Waits for a tag of a set by the bell, round by round: in each the hand lists itself, and tries each tag once more.
use Rattle.std.specs.Prelude.{◌-◌, ◌^◌, ◌≡◌, ◌≢◌, ◌⊎◌}
use Rattle.tag_pool.specs.Uses.{Bool, false, None, Option, Some, suc, zero, ℕ}
use Rattle.tag_core.specs.declared.berth.Waiter.{Waiter}
use Rattle.tag_core.specs.declared.berth.Waiter.TheVariants.{Sleeper}
use Rattle.tag_bell.specs.Callers.{IsUp, IsWaiting, OwesNothing, WaitsAsBefore}
use Rattle.tag_bell.specs.Calls.{nobody}
use Rattle.tag_bell.specs.Looks.{SawFree}
use Rattle.tag_bell.specs.Sleeping.{told_by}
use Rattle.tag_bell.specs.declared.sleeping.Woken.{Woken}
use Rattle.tag_bell.specs.declared.told.Told.{Told}
use Rattle.tag_bell.specs.declared.waiting.Turn.{Turn}
use Rattle.tag_bell.specs.declared.waiting.Turn.TheVariants as turns
use Rattle.tag_search.specs.Vain.{MaySleep}
use Rattle.tag_pool.specs.declared.gets.rounds.Next.{Next}
use Rattle.tag_pool.specs.declared.gets.rounds.Next.TheVariants.{Won, Over, Sleep}
use Rattle.tag_pool.specs.declared.hand.Hand.{Hand}
use Rattle.tag_pool.specs.declared.kind.Kind.{Kind}
use Rattle.tag_pool.specs.declared.pool.Pool.{Pool}
use Rattle.tag_pool.specs.Bell.{GetsUp, ListsSelf, SleepsUntilTold}
use Rattle.tag_pool.specs.Gets.{Gets, IsAnswer, IsTagIn}
use Rattle.tag_pool.specs.Hands.{caller_of, Changes, HasRoom, hint_of, layout_of}
use Rattle.tag_pool.specs.Holding.{HoldsMore, HoldsSame}
use Rattle.tag_pool.specs.Sides.{see_to_all_steps, SeesTo}

-- the hand may win one more tag of this kind, and its next get tries each: it is not round robin, or begins at the first
pub record CanWait {R : Type 0} (kind : Kind) (hand : Hand R) : Type 0 where
  pub room : HasRoom hand kind 1
  pub begins : ((hint_of hand kind).round_robin ≡ false) ⊎ ((hint_of hand kind).at ≡ 0)

-- the hand sees to all tags of this kind, and tells these: it has nothing more to see to, and told nobody unless a look of
-- its own found a tag free
pub record SeesToAll {R : Type 0} (pool : Pool R) (kind : Kind) (told : Told) (old new : Hand R) : Type 0 where
  pub set : Changes kind (SeesTo 1 (see_to_all_steps (layout_of pool kind)) told) old new
  pub saw : (told ≡ nobody) ⊎ SawFree (caller_of old kind) (caller_of new kind)

-- the hand listed itself, then tried each tag in vain, and has nothing to see to, so that it may sleep until it is told, and
-- then try again
pub record MaySleepNow {R : Type 0} (pool : Pool R) (kind : Kind) (waiter : Waiter) (turn : Turn) (old new : Hand R)
    : Type 0 where
  pub listed : Hand R
  pub lists : Changes kind (ListsSelf waiter turn) old listed
  pub none : Gets pool kind None listed new
  pub waiting : IsWaiting waiter (caller_of new kind)
  pub may : MaySleep (caller_of new kind)
  pub same : HoldsSame old new
  pub again : CanWait kind new

-- the hand got up, and then saw to all tags
pub record EndsWait {R : Type 0} (pool : Pool R) (kind : Kind) (told : Told) (old new : Hand R) : Type 0 where
  pub was_told : Bool
  pub risen : Hand R
  pub gets_up : Changes kind (GetsUp was_told) old risen
  pub sees : SeesToAll pool kind told risen new
  pub up : IsUp (caller_of new kind)
  pub same : HoldsSame old new

-- the hand listed itself once more and won this tag, and then ended its wait
pub record WinsRound {R : Type 0} (pool : Pool R) (kind : Kind) (waiter : Waiter) (turn : Turn) (tag : ℕ) (told : Told)
    (old new : Hand R) : Type 0 where
  pub listed : Hand R
  pub lists : Changes kind (ListsSelf waiter turn) old listed
  pub won : Hand R
  pub wins : Gets pool kind (Some tag) listed won
  pub ends : EndsWait pool kind told won new
  pub more : HoldsMore (λ other. other ≡ tag) old new

-- what one round did, by its answer: one after which the hand may sleep told nobody
abbrev pub Tries : {R : Type 0} → Pool R → Kind → Waiter → Turn → Option ℕ → Told → Hand R → Hand R → Type 0
Tries pool kind waiter turn (Some tag) told old new = WinsRound pool kind waiter turn tag told old new
Tries pool kind waiter turn None told old new = (told ≡ nobody) × MaySleepNow pool kind waiter turn old new

-- the same, or the end of the wait
abbrev pub Goes : {R : Type 0} → Pool R → Kind → Waiter → Turn → Next → Told → Hand R → Hand R → Type 0
Goes pool kind waiter turn (Won tag) told old new = WinsRound pool kind waiter turn tag told old new
Goes pool kind waiter turn Over told old new = EndsWait pool kind told old new
Goes pool kind waiter turn Sleep told old new = (told ≡ nobody) × MaySleepNow pool kind waiter turn old new

-- how a hand sleeps between two rounds: until it finds itself told
abbrev pub UntilTold : {R : Type 0} → Kind → Hand R → Hand R → Type 0
UntilTold kind old new = Changes kind SleepsUntilTold old new

-- or by other means, which do nothing with the hand
abbrev pub Beside : {R : Type 0} → Hand R → Hand R → Type 0
Beside old new = new ≡ old

-- the turn of a round that comes after so many sleeps: a wait keeps the turn of its first round
abbrev pub turn_after : ℕ → Turn
turn_after zero = turns.Next
turn_after (suc sleeps) = turns.Same

-- that many rounds after which the hand slept so, one after another
abbrev pub AreSleeps : {R : Type 0} → ℕ → Pool R → Kind → (Hand R → Hand R → Type 0) → Hand R → Hand R → Type 0
AreSleeps zero pool kind so old new = new ≡ old
AreSleeps {R} (suc sleeps) pool kind so old new =
    (mid tried : Hand R) × AreSleeps sleeps pool kind so old mid
    × MaySleepNow pool kind Sleeper (turn_after sleeps) mid tried × so tried new

-- what ends the wait of a sleeper after so many sleeps
abbrev pub EndsSo : {R : Type 0} → Pool R → Kind → ℕ → Option ℕ → Told → Hand R → Hand R → Type 0
EndsSo pool kind sleeps (Some tag) told old new = WinsRound pool kind Sleeper (turn_after sleeps) tag told old new
EndsSo pool kind sleeps None told old new = EndsWait pool kind told old new

-- the hand slept some times, each time so and as it may, and then won a tag; or it gave up, since its wait was over, or
-- after as many sleeps as a word counts
pub record Sleeps {R : Type 0} (pool : Pool R) (kind : Kind) (so : Hand R → Hand R → Type 0) (over : Type 0)
    (answer : Option ℕ) (told : Told) (old new : Hand R) : Type 0 where
  pub sleeps : ℕ
  pub last : Hand R
  pub slept : AreSleeps sleeps pool kind so old last
  pub ends : EndsSo pool kind sleeps answer told last new
  pub gives_up : answer ≡ None → over ⊎ (sleeps ≡ 2 ^ 64 - 1)

-- the hand won this tag at once, and then saw to all tags
pub record WinsAtOnce {R : Type 0} (pool : Pool R) (kind : Kind) (answer : Option ℕ) (told : Told) (old new : Hand R)
    : Type 0 where
  pub won : Hand R
  pub wins : Gets pool kind answer old won
  pub some : answer ≢ None
  pub sees : SeesToAll pool kind told won new

-- the hand found no tag, and then slept for one
pub record SleepsForOne {R : Type 0} (pool : Pool R) (kind : Kind) (so : Hand R → Hand R → Type 0) (over : Type 0)
    (answer : Option ℕ) (told : Told) (old new : Hand R) : Type 0 where
  pub tried : Hand R
  pub none : Gets pool kind None old tried
  pub sleeps : Sleeps pool kind so over answer told tried new

-- what a wait comes to, whether or not the hand slept: it gained the tag returned, if there is one, and no other; it has
-- nothing to see to, and does not wait, unless it did before and never slept
pub record ComesTo {R : Type 0} (pool : Pool R) (kind : Kind) (answer : Option ℕ) (old new : Hand R) : Type 0 where
  pub more : HoldsMore (IsAnswer answer) old new
  pub tag : (tag : ℕ) → IsAnswer answer tag → IsTagIn pool kind tag
  pub done : (waiter : Waiter) → OwesNothing waiter (caller_of new kind)
  pub waits : IsUp (caller_of new kind) ⊎ WaitsAsBefore (caller_of old kind) (caller_of new kind)

-- the hand won a tag at once, or slept until it won one or its wait was over
pub record GetsUntil {R : Type 0} (pool : Pool R) (kind : Kind) (so : Hand R → Hand R → Type 0) (over : Type 0)
    (answer : Option ℕ) (told : Told) (old new : Hand R) : Type 0 where
  pub how : WinsAtOnce pool kind answer told old new ⊎ SleepsForOne pool kind so over answer told old new
  pub comes : ComesTo pool kind answer old new

-- the hand won this tag, at once or after it slept until it was told, and woke those whom it told then
abbrev pub GetsBlocking : {R : Type 0} → Pool R → Kind → ℕ → Woken → Hand R → Hand R → Type 0
GetsBlocking pool kind tag woken = GetsUntil pool kind (UntilTold kind) ⊥ (Some tag) (told_by woken)
