-- The terms of public clauses about a book and its tellers.
use Rattle.std.specs.Prelude.{◌<◌, ◌^◌, ◌∷◌, ◌≡◌, ◌≢◌, ◌≤◌, ◌⊎◌}
use Rattle.wake_book.specs.Uses.{All, List, map, Record, total, ℕ}
use Rattle.step_ledger.specs.Gather as members
use Rattle.step_ledger.specs.Records as ledger
use Rattle.wake_book.specs.declared.book.Book.{Book}
use Rattle.wake_book.specs.declared.book.Limits.{Limits}
use Rattle.wake_book.specs.declared.book.Teller.{Teller}
use Rattle.wake_book.specs.declared.book.TellerGathering.{TellerGathering}
use Rattle.wake_book.specs.declared.steps.BookStep.{BookStep}
use Rattle.wake_book.specs.declared.steps.BookStep.TheVariants.{LookCompletions, Advance}
use Rattle.wake_book.specs.Charges.{added, taken}

-- the teller was opened with the book
abbrev pub IsTellerOf : Book → Teller → Type 0
IsTellerOf book teller = teller.seat.table_id ≡ book.table.shared.table_id

-- the teller's own steps, newest first
abbrev pub steps_of : Teller → List BookStep
steps_of teller = ledger.steps_of teller.seat.me.0

-- the teller's number, from 0
abbrev pub number_of : Teller → ℕ
number_of teller = teller.number

-- the completions that the teller counted
abbrev pub counted_by : Teller → ℕ
counted_by teller = total added (steps_of teller)

-- the completions that the teller charged
abbrev pub charged_by : Teller → ℕ
charged_by teller = total taken (steps_of teller)

-- the teller's number and steps
abbrev pub record_of : Teller → Record BookStep
record_of teller = record { number = teller.number; steps = steps_of teller }

-- the records of several tellers
abbrev pub records_of : List Teller → List (Record BookStep)
records_of tellers = map record_of tellers

-- the numbers of several tellers
abbrev pub numbers_of : List Teller → List ℕ
numbers_of tellers = map number_of tellers

-- the gathered tellers were opened with the book
abbrev pub IsGatheringOf : Book → TellerGathering → Type 0
IsGatheringOf book gathering = gathering.seat.table_id ≡ book.table.shared.table_id

-- the records of the tellers gathered, the last one added first
abbrev pub gathered : TellerGathering → List (Record BookStep)
gathered gathering = members.turned gathering.seat.me.0.records.value

-- these are the tellers gathered, and they were opened with the book
abbrev pub AreGathered : Book → List Teller → TellerGathering → Type 0
AreGathered book tellers gathering = IsGatheringOf book gathering × (gathered gathering ≡ records_of tellers)

-- the parameters with which the book was opened
abbrev pub limits_of : Book → Limits
limits_of book = book.limits

-- how many tellers the book has
abbrev pub tellers_of : Book → ℕ
tellers_of book = book.limits.tellers

-- the most completions that one teller may count
abbrev pub cap_of : Book → ℕ
cap_of book = book.limits.cap

-- how many completions one charge takes
abbrev pub batch_of : Book → ℕ
batch_of book = book.batch

-- the teller's last step loaded the completions, and found at least this many
abbrev pub JustSaw : Teller → ℕ → Type 0
JustSaw teller most = (completions : ℕ) × (before : List BookStep)
    × (steps_of teller ≡ LookCompletions completions ∷ before) × (most ≤ completions)

-- the teller's exchange of the wakeups found a count other than the one expected
abbrev pub LosesAdvance : ℕ → ℕ → Teller → Teller → Type 0
LosesAdvance start end old new = (found : ℕ) × (found ≢ start) × (steps_of new ≡ Advance start end found ∷ steps_of old)

-- only the book's batch is changed
pub record Rebatches (old new : Book) (batch : ℕ) : Type 0 where
  pub batch_is : batch_of new ≡ batch
  pub table : new.table ≡ old.table
  pub limits : limits_of new ≡ limits_of old

-- the batch is 1 to 8, and the number of tellers 1 to 64
abbrev pub CountsBook : ℕ → ℕ → Type 0
CountsBook batch tellers = (1 ≤ batch) × (batch ≤ 8) × (1 ≤ tellers) × (tellers ≤ 64)

-- a new book, whose tellers are in the order of their numbers and have made no step
pub record IsOpenBook (batch tellers cap : ℕ) (book : Book) (all : List Teller) : Type 0 where
  pub counts : (1 ≤ batch) × (batch ≤ 8) × (1 ≤ tellers) × (tellers ≤ 64) × (cap ≤ 2 ^ 56)
  pub batch_is : batch_of book ≡ batch
  pub tellers_are : tellers_of book ≡ tellers
  pub cap_is : cap_of book ≡ cap
  pub own : All (IsTellerOf book) all
  pub fresh_all : records_of all ≡ ledger.fresh 0 tellers
