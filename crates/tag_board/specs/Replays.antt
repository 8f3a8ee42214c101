-- The answer of each command, and the state that it leaves.
use Rattle.tag_board.specs.Uses.{bit_at, Bool, Checks, Err, FailsFirst, false, IsTrue, Kind, Left, length, List, list_any, nat_eq, nat_le, None, NoSuchTag, not, NotPosted, Ok, Option, Ordinary, PassesAll, Reserved, Result, Some, TagFault, true, WaitFault, Wakes, ℕ}
use Rattle.std.specs.Prelude.{◌≡◌, ◌≢◌, ◌+◌, ◌-◌, ◌<◌, ◌≤◌, ◌&&◌, ◌||◌}
use Rattle.tag_search.specs.Gains.{count_of, count_of_run}
use Rattle.tag_board.specs.AloneSets.{AloneSets, plain, shallow, put_back, post_in, ChangesTag, AloneGets, AloneBatch, AloneClearsList, AloneTakes}
use Rattle.tag_board.specs.States.{Part, Waiter, State}
use Rattle.tag_board.specs.Wakeups.{GrantsFor, GrantsForTag, Enters, Leaves as LeavesGroup, Finds}
use Rattle.tag_board.specs.Refusals.{get_checks, shallow_checks, batch_checks, tag_checks, list_checks, wait_checks, leave_checks}

-- every check passes, and `done` holds of the answer; or the fault is that of the first check that fails, and nothing
-- changes
abbrev pub Answers : {A E : Type 0} → Checks E → (A → Type 0) → State → Result A E → State → Type 0
Answers checks done old (Ok answer) new = PassesAll checks × done answer
Answers checks done old (Err fault) new = FailsFirst checks fault × (new ≡ old)

-- it is unchanged
abbrev pub AsBefore : {A : Type 0} → A → A → Type 0
AsBefore old new = new ≡ old

-- all that is known of this caller is unchanged
pub record Keeps (caller : ℕ) (old new : State) : Type 0 where
  pub part : new.part caller ≡ old.part caller
  pub waiter : new.waiter caller ≡ old.waiter caller

-- this caller's tags changed so, and so did the caller as it waits and wakes others; if it is the only one, both sets
-- changed so; all else is unchanged
pub record Changes (caller : ℕ) (change : Part → Part) (waits : Waiter → Waiter → Type 0)
    (alters : AloneSets → AloneSets → Type 0) (old new : State) : Type 0 where
  pub terms : new.terms ≡ old.terms
  pub total : new.total ≡ old.total
  pub own : new.part caller ≡ change (old.part caller)
  pub waiter : waits (old.waiter caller) (new.waiter caller)
  pub others : (other : ℕ) → other ≢ caller → Keeps other old new
  pub alone : old.terms.callers ≡ 1 → alters old.alone new.alone

-- the caller holds and counts what it did
abbrev pub as_before : Part → Part
as_before p = p

-- the number of tags won of each set, after n more of this one
abbrev pub won_more : Kind → ℕ → (Kind → ℕ) → Kind → ℕ
won_more Ordinary n won Ordinary = won Ordinary + n
won_more Ordinary n won Reserved = won Reserved
won_more Reserved n won Ordinary = won Ordinary
won_more Reserved n won Reserved = won Reserved + n

-- the caller also holds the named tags
abbrev pub joined : (ℕ → Bool) → Part → Part
joined named p = record p { held = λ tag. p.held tag || named tag }

-- the caller won the named tags, n of this set
abbrev pub won : Kind → (ℕ → Bool) → ℕ → Part → Part
won kind named n p = record (joined named p) { won = won_more kind n p.won }

-- the caller no longer holds the named tags
abbrev pub left : (ℕ → Bool) → Part → Part
left named p = record p { held = λ tag. p.held tag && not (named tag) }

-- the caller gave back the named tags, n of them
abbrev pub cleared : (ℕ → Bool) → ℕ → Part → Part
cleared named n p = record (left named p) { back = p.back + n }

-- the caller is in a wait group, or in none
abbrev pub standing : Bool → Part → Part
standing stands p = record p { stands = stands }

-- no caller holds a named tag
abbrev pub NobodyHolds : State → (ℕ → Bool) → Type 0
NobodyHolds s named = (caller tag : ℕ) → IsTrue (named tag) → (s.part caller).held tag ≡ false

-- the tag is in this set
abbrev pub IsOf : State → Kind → ℕ → Type 0
IsOf s Ordinary tag = (s.terms.reserved ≤ tag) × (tag < s.total)
IsOf s Reserved tag = tag < s.terms.reserved

-- the caller won the named tags, n of this set, and no caller held one of them; if it is the only one, they are the
-- choice from both sets
pub record Wins (caller : ℕ) (kind : Kind) (named : ℕ → Bool) (n : ℕ) (chooses : AloneSets → AloneSets → Type 0)
    (old new : State) : Type 0 where
  pub free : NobodyHolds old named
  pub there : (tag : ℕ) → IsTrue (named tag) → IsOf old kind tag
  pub change : Changes caller (won kind named n) AsBefore chooses old new

-- the tag answered, as a test
abbrev pub is_answer : Option ℕ → ℕ → Bool
is_answer None tag = false
is_answer (Some answer) tag = nat_eq tag answer

-- the tags of an answered batch, as a test: bit k of the mask is the tag `first + k`
abbrev pub is_in_run : Option (ℕ × ℕ) → ℕ → Bool
is_in_run None tag = false
is_in_run (Some run) tag = nat_le run.0 tag && nat_eq (bit_at run.1 (tag - run.0)) 1

-- the tags of a list, as a test
abbrev pub is_in_list : List ℕ → ℕ → Bool
is_in_list tags tag = list_any (nat_eq tag) tags

-- a get from a set
abbrev pub Gets : Kind → ℕ → State → Result (Option ℕ) TagFault → State → Type 0
Gets kind caller old result new =
    Answers (get_checks old caller kind)
    (λ answer. Wins caller kind (is_answer answer) (count_of answer) (AloneGets kind plain answer) old new) old result new

-- a shallow get of this depth
abbrev pub GetsShallow : ℕ → ℕ → State → Result (Option ℕ) TagFault → State → Type 0
GetsShallow depth caller old result new =
    Answers (shallow_checks old caller depth)
    (λ answer. Wins caller Ordinary (is_answer answer) (count_of answer) (AloneGets Ordinary (shallow depth) answer) old
    new) old result new

-- a batch get of n tags, which finds none under round robin
abbrev pub GetsBatch : ℕ → ℕ → State → Result (Option (ℕ × ℕ)) TagFault → State → Type 0
GetsBatch n caller old result new = Answers (batch_checks old caller n)
    (λ answer. ((old.part caller).round_robin ≡ true → answer ≡ None)
    × Wins caller Ordinary (is_in_run answer) (count_of_run answer) (AloneBatch n answer) old new) old result new

-- a clear, with the number of waiters woken
abbrev pub Clears : ℕ → ℕ → State → Result ℕ TagFault → State → Type 0
Clears tag caller old result new = Answers (tag_checks old caller tag)
    (λ woken. Changes caller (cleared (nat_eq tag) 1) (GrantsForTag old.terms tag woken) (ChangesTag put_back tag)
    old new) old result new

-- a clear of a list of tags, with the number of waiters woken
abbrev pub ClearsList : List ℕ → ℕ → State → Result ℕ TagFault → State → Type 0
ClearsList tags caller old result new = Answers (list_checks old caller tags)
    (λ woken. Changes caller (cleared (is_in_list tags) (length tags)) (GrantsFor old.terms.cap (length tags) woken)
    (AloneClearsList tags) old new) old result new

-- a post
abbrev pub Posts : ℕ → ℕ → State → Result (Unit {0}) TagFault → State → Type 0
Posts tag caller old result new = Answers (tag_checks old caller tag)
    (λ done. Changes caller (left (nat_eq tag)) AsBefore (ChangesTag post_in tag) old new) old result new

-- a take of a tag in range finds it posted or not; no caller held a tag that was taken
abbrev pub Takes : ℕ → ℕ → State → Result (Unit {0}) TagFault → State → Type 0
Takes tag caller old (Ok done) new = (tag < old.total) × NobodyHolds old (nat_eq tag)
    × Changes caller (joined (nat_eq tag)) AsBefore (λ sets. AloneTakes tag sets (Ok done)) old new
Takes tag caller old (Err NoSuchTag) new = (old.total ≤ tag) × (new ≡ old)
Takes tag caller old (Err NotPosted) new = (tag < old.total)
    × Changes caller as_before AsBefore (λ sets. AloneTakes tag sets (Err NotPosted)) old new
Takes tag caller old (Err fault) new = ⊥

-- a wait, with the group that the caller entered
abbrev pub Waits : ℕ → State → Result ℕ WaitFault → State → Type 0
Waits caller old result new = Answers (wait_checks old caller)
    (λ group. Changes caller (standing true) (Enters group) AsBefore old new) old result new

-- the end of a wait, which tells whether the caller used a wakeup
abbrev pub Leaves : ℕ → State → Result Left WaitFault → State → Type 0
Leaves caller old result new = Answers (leave_checks old caller)
    (λ left. Changes caller (standing false) (LeavesGroup left) AsBefore old new) old result new

-- the counts of wakeups: at most as many wakeups as completions, and at least one active waiter if the caller waits
pub record FindsWakes (caller : ℕ) (old : State) (wakes : Wakes) (new : State) : Type 0 where
  pub ordered : wakes.charged ≤ wakes.counted
  pub active : (old.part caller).stands ≡ true → 1 ≤ wakes.active
  pub change : Changes caller as_before (Finds wakes) AsBefore old new

-- no other caller holds a named tag
abbrev pub NobodyElseHolds : State → ℕ → (ℕ → Bool) → Type 0
NobodyElseHolds s caller named = (other tag : ℕ) → other ≢ caller → IsTrue (named tag) → (s.part other).held tag ≡ false

-- another caller holds the tag
abbrev pub IsOtherHolder : State → ℕ → ℕ → ℕ → Type 0
IsOtherHolder s caller tag other = (other < s.terms.callers) × (other ≢ caller) × ((s.part other).held tag ≡ true)

-- the caller holds the named tags
abbrev pub HoldsAll : State → ℕ → (ℕ → Bool) → Type 0
HoldsAll s caller named = (tag : ℕ) → IsTrue (named tag) → (s.part caller).held tag ≡ true
