-- The state of a board: what is known of its callers, and of both sets if there is only one.
use Rattle.tag_board.specs.Uses.{[], Bool, count_below, false, Kind, List, None, Option, Ordinary, Reserved, sum_below, ℕ}
use Rattle.std.specs.Prelude.{◌+◌, ◌-◌}
use Rattle.wake_book.specs.declared.steps.BookStep.{BookStep}
use Rattle.wake_book.specs.declared.steps.GroupStep.{GroupStep}
use Rattle.tag_board.specs.AloneSets.{AloneSets}

-- what never changes: the number of reserved tags, which are the lowest; the number of callers; the most tags of a set
-- that a caller may win; the most completions that it may count; the least depth of a shallow get; and the bits of a
-- word of a set
pub record Terms : Type 0 where
  pub reserved : ℕ
  pub callers : ℕ
  pub life : Kind → ℕ
  pub cap : ℕ
  pub least : ℕ
  pub bits : Kind → ℕ

-- a caller: which tags it holds, how many it won of each set, how many it gave back, whether it is in a wait group, and
-- whether its gets are round robin
pub record Part : Type 0 where
  pub held : ℕ → Bool
  pub won : Kind → ℕ
  pub back : ℕ
  pub stands : Bool
  pub round_robin : Bool

-- a caller as it waits and wakes others: its own steps on the book of completions and on the wait groups, newest first,
-- the group that it is in, and the group that it enters next
pub record Waiter : Type 0 where
  pub book : List BookStep
  pub groups : List GroupStep
  pub group : Option ℕ
  pub next : ℕ

-- what never changes, the number of tags in both sets, each caller: its tags, and how it waits and wakes others; and both
-- sets as the steps of caller 0 leave them, which are all steps if there is no other caller
pub record State : Type 0 where
  pub terms : Terms
  pub total : ℕ
  pub part : ℕ → Part
  pub waiter : ℕ → Waiter
  pub alone : AloneSets

-- a caller that has done nothing
abbrev pub idle : Bool → Part
idle round_robin = record { held = λ tag. false; won = λ kind. 0; back = 0; stands = false; round_robin = round_robin }

-- a caller that has made no step to wait or to wake others
abbrev pub newcomer : Waiter
newcomer = record { book = []; groups = []; group = None; next = 0 }

-- the number of tags that the gets of all callers returned
abbrev pub got_in : State → ℕ
got_in s = sum_below (λ caller. (s.part caller).won Ordinary + (s.part caller).won Reserved) s.terms.callers

-- the number of tags given back
abbrev pub back_in : State → ℕ
back_in s = sum_below (λ caller. (s.part caller).back) s.terms.callers

-- the number of tags that callers hold
abbrev pub held_in : State → ℕ
held_in s = sum_below (λ caller. count_below (s.part caller).held s.total) s.terms.callers

-- the number of posted tags: those won that are neither given back nor held
abbrev pub posted_in : State → ℕ
posted_in s = got_in s - (back_in s + held_in s)

-- the number of callers in a wait group
abbrev pub standing_in : State → ℕ
standing_in s = count_below (λ caller. (s.part caller).stands) s.terms.callers
