-- The wait groups' words, what each step does to them, and when a step may happen.
use Rattle.std.specs.Prelude.{◌%◌, ◌*◌, ◌+◌, ◌-◌, ◌/◌, ◌<◌, ◌^◌, ◌∷◌, ◌≡◌, ◌≤◌}
use Rattle.wake_book.specs.Uses.{[], cond, fresh, Ledger, List, nat_eq, own_steps, Records, replicate, slice_index, slice_set, State, suc, total, viewing, words_left, ℕ}
use Rattle.wake_book.specs.declared.groups.TheConstants.{ACTIVE, INDEX, GROUP_WORDS, WAITING}
use Rattle.wake_book.specs.declared.spacing.TheConstants.{STRIDE}
use Rattle.wake_book.specs.declared.steps.GroupStep.{GroupStep}
use Rattle.wake_book.specs.declared.steps.GroupStep.TheVariants.{Look, Raise, Lower, Enter, Grant, Use, Withdraw, Store}
use Rattle.wake_book.specs.Charges.{exchange_to}

-- the distance between words that different threads write: 64 bytes
abbrev pub line : ℕ
line = STRIDE

-- the index of a group's word: the eight groups follow the spare word at 0
abbrev pub group_at : ℕ → ℕ
group_at group = line + line * group

-- the index of the active count, after the groups
abbrev pub active_at : ℕ
active_at = ACTIVE

-- the index of the wake index, after the active count
abbrev pub index_at : ℕ
index_at = INDEX

-- the length of the table, in words; its last word also has 64 bytes of its own
abbrev pub groups_width : ℕ
groups_width = GROUP_WORDS

-- the words at the start
abbrev pub opening_words : List ℕ
opening_words = replicate groups_width 0

-- one waiting waiter, in a group's word: its high 32 bits count the waiting, its low 32 bits the grants not used yet
abbrev pub one_waiting : ℕ
one_waiting = WAITING

-- the number of grants not used yet
abbrev pub granted : ℕ → ℕ
granted word = word % one_waiting

-- the number of waiters that wait without a grant
abbrev pub waiting : ℕ → ℕ
waiting word = word / one_waiting

-- the word after this many have moved from waiting to granted
abbrev pub moved_in : ℕ → ℕ → ℕ
moved_in word count = word + count - one_waiting * count

-- the word of a group
abbrev pub word : List ℕ → ℕ → ℕ
word ws group = slice_index ws (group_at group)

-- the words after a step
abbrev pub words_after : GroupStep → List ℕ → List ℕ
words_after (Look place found) ws = ws
words_after (Raise found) ws = slice_set ws active_at (slice_index ws active_at + 1)
words_after (Lower found) ws = slice_set ws active_at (slice_index ws active_at - 1)
words_after (Enter g found) ws = slice_set ws (group_at g) (word ws g + one_waiting)
words_after (Grant g expected count found) ws =
    slice_set ws (group_at g) (exchange_to expected (moved_in expected count) (word ws g))
words_after (Use g expected found) ws = slice_set ws (group_at g) (exchange_to expected (expected - 1) (word ws g))
words_after (Withdraw g expected found) ws =
    slice_set ws (group_at g) (exchange_to expected (expected - one_waiting) (word ws g))
words_after (Store index) ws = slice_set ws index_at index

-- the words after a history, newest step first
abbrev pub words_in : List (ℕ × GroupStep) → List ℕ
words_in h = words_left opening_words words_after h

-- 1 if the waiter with these steps has raised the active count and not lowered it again, else 0
abbrev pub raised : List GroupStep → ℕ
raised [] = 0
raised (Look place found ∷ steps) = raised steps
raised (Raise found ∷ steps) = 1
raised (Lower found ∷ steps) = 0
raised (Enter g found ∷ steps) = raised steps
raised (Grant g expected count found ∷ steps) = raised steps
raised (Use g expected found ∷ steps) = raised steps
raised (Withdraw g expected found ∷ steps) = raised steps
raised (Store index ∷ steps) = raised steps

-- one more than the group that the waiter with these steps is in, or 0 if it is in none
abbrev pub stand : List GroupStep → ℕ
stand [] = 0
stand (Look place found ∷ steps) = stand steps
stand (Raise found ∷ steps) = stand steps
stand (Lower found ∷ steps) = stand steps
stand (Enter g found ∷ steps) = suc g
stand (Grant g expected count found ∷ steps) = stand steps
stand (Use g expected found ∷ steps) = cond (nat_eq found expected) 0 (stand steps)
stand (Withdraw g expected found ∷ steps) = cond (nat_eq found expected) 0 (stand steps)
stand (Store index ∷ steps) = stand steps

-- 1 if the waiter with these steps is in the group, else 0
abbrev pub stands_in : ℕ → List GroupStep → ℕ
stands_in g steps = cond (nat_eq (stand steps) (suc g)) 1 0

-- how many waiters the step moved from waiting to granted
abbrev pub moved_by : GroupStep → ℕ
moved_by (Grant g expected count found) = cond (nat_eq found expected) count 0
moved_by _ = 0

-- how many grants the step used
abbrev pub used_by : GroupStep → ℕ
used_by (Use g expected found) = cond (nat_eq found expected) 1 0
used_by _ = 0

-- each step finds what the steps before it left; a waiter enters a group only while it is active and in none, leaves
-- only the group that it is in, and moves at most 2^56 waiters in all
abbrev pub MayStep : ℕ → GroupStep → List (ℕ × GroupStep) → Type 0
MayStep c (Look place found) h = found ≡ slice_index (words_in h) place
MayStep c (Raise found) h = (found ≡ slice_index (words_in h) active_at) × (raised (own_steps c h) ≡ 0)
MayStep c (Lower found) h = (found ≡ slice_index (words_in h) active_at) × (raised (own_steps c h) ≡ 1)
    × (stand (own_steps c h) ≡ 0)
MayStep c (Enter g found) h = (found ≡ word (words_in h) g) × (g < 8) × (raised (own_steps c h) ≡ 1)
    × (stand (own_steps c h) ≡ 0)
MayStep c (Grant g expected count found) h = (found ≡ word (words_in h) g) × (g < 8) × (count ≤ waiting expected)
    × (total moved_by (own_steps c h) + count ≤ 2 ^ 56)
MayStep c (Use g expected found) h = (found ≡ word (words_in h) g) × (g < 8) × (0 < granted expected)
    × (stand (own_steps c h) ≡ suc g)
MayStep c (Withdraw g expected found) h = (found ≡ word (words_in h) g) × (g < 8) × (granted expected ≡ 0)
    × (stand (own_steps c h) ≡ suc g)
MayStep c (Store index) h = index < 8

-- the rule of the table
abbrev pub GroupsRule : {S : Type 0} → ℕ → State S (Records GroupStep) → Type 0
GroupsRule waiters s = Ledger waiters opening_words words_after MayStep s

-- the records on the first seat: those of all waiters, without steps
abbrev pub all_fresh : ℕ → Records GroupStep
all_fresh waiters = viewing (fresh 0 waiters)
