-- The charge book's words, what each step does to them, and when a step may happen.
use Rattle.std.specs.Prelude.{◌+◌, ◌-◌, ◌<◌, ◌^◌, ◌∷◌, ◌≡◌, ◌≤◌}
use Rattle.wake_book.specs.Uses.{cond, fresh, Ledger, List, Me, min, nat_eq, one_if, own_steps, Records, replicate, slice_index, slice_set, State, Stepped, steps_of, total, viewing, words_left, ℕ}
use Rattle.atomic_table.specs.Table as table
use Rattle.wake_book.specs.declared.book.Limits.{Limits}
use Rattle.wake_book.specs.declared.book.TheConstants.{COMPLETIONS, WAKEUPS, BOOK_WORDS}
use Rattle.wake_book.specs.declared.steps.BookStep.{BookStep}
use Rattle.wake_book.specs.declared.steps.BookStep.TheVariants.{LookCompletions, LookWakeups, Add, Advance}

-- the index of the word that counts completions, 64 bytes after the spare word at 0
abbrev pub completions_at : ℕ
completions_at = COMPLETIONS

-- the index of the word that counts the completions charged, 64 bytes further on
abbrev pub wakeups_at : ℕ
wakeups_at = WAKEUPS

-- the length of the table, in words; the last of the three spaced words also has 64 bytes of its own
abbrev pub book_width : ℕ
book_width = BOOK_WORDS

-- the words at the start
abbrev pub opening_words : List ℕ
opening_words = replicate book_width 0

-- the value of a word after a compare-exchange
abbrev pub exchange_to : ℕ → ℕ → ℕ → ℕ
exchange_to expected new found = cond (nat_eq found expected) new found

-- the words after a step
abbrev pub words_after : BookStep → List ℕ → List ℕ
words_after (LookCompletions found) ws = ws
words_after (LookWakeups found) ws = ws
words_after (Add n found) ws = slice_set ws completions_at (slice_index ws completions_at + n)
words_after (Advance start end found) ws = slice_set ws wakeups_at (exchange_to start end (slice_index ws wakeups_at))

-- the words after a history, newest step first
abbrev pub words_in : List (ℕ × BookStep) → List ℕ
words_in h = words_left opening_words words_after h

-- the completions counted in a history
abbrev pub completions_in : List (ℕ × BookStep) → ℕ
completions_in h = slice_index (words_in h) completions_at

-- the completions charged in a history
abbrev pub wakeups_in : List (ℕ × BookStep) → ℕ
wakeups_in h = slice_index (words_in h) wakeups_at

-- how many completions a step counts
abbrev pub added : BookStep → ℕ
added (LookCompletions found) = 0
added (LookWakeups found) = 0
added (Add n found) = n
added (Advance start end found) = 0

-- 1 if the step won an interval, else 0
abbrev pub charged : BookStep → ℕ
charged (LookCompletions found) = 0
charged (LookWakeups found) = 0
charged (Add n found) = 0
charged (Advance start end found) = one_if (nat_eq found start)

-- how many completions the step charged
abbrev pub taken : BookStep → ℕ
taken (LookCompletions found) = 0
taken (LookWakeups found) = 0
taken (Add n found) = 0
taken (Advance start end found) = cond (nat_eq found start) (end - start) 0

-- 1 if the step won an interval that contains the number y, else 0
abbrev pub covers : ℕ → BookStep → ℕ
covers y (LookCompletions found) = 0
covers y (LookWakeups found) = 0
covers y (Add n found) = 0
covers y (Advance start end found) = cond (nat_eq found start) (min 1 (end - y) - min 1 (start - y)) 0

-- each step finds what the steps before it left; no teller counts more than the cap; an interval is at most 8 long, and
-- its end was counted before
abbrev pub MayStep : Limits → ℕ → BookStep → List (ℕ × BookStep) → Type 0
MayStep k c (LookCompletions found) h = found ≡ completions_in h
MayStep k c (LookWakeups found) h = found ≡ wakeups_in h
MayStep k c (Add n found) h = (found ≡ completions_in h) × (total added (own_steps c h) + n ≤ k.cap)
MayStep k c (Advance start end found) h = (found ≡ wakeups_in h) × (start < end) × (end ≤ start + 8)
    × (end ≤ completions_in h)

-- the rule of the table
abbrev pub BookRule : {S : Type 0} → Limits → State S (Records BookStep) → Type 0
BookRule k s = Ledger k.tellers opening_words words_after (MayStep k) s

-- the records on the first seat: those of all tellers, without steps
abbrev pub all_fresh : Limits → Records BookStep
all_fresh k = viewing (fresh 0 k.tellers)

-- what a teller learns from each kind of step
module _ {S : Type 0} where
  -- the completions are at least what the teller counted, and at least the wakeups if it has just loaded those
  abbrev pub looked_completions : table.Step S → Me S (Records BookStep) → ℕ → Me S (Records BookStep) → Type 0
  looked_completions step m found m' = Stepped (LookCompletions found) m m' × (found < 2 ^ 63)
      × (total added (steps_of m.0) ≤ found)
      × ((wakeups : ℕ) (before : List BookStep) → steps_of m.0 ≡ LookWakeups wakeups ∷ before → wakeups ≤ found)

  -- the wakeups are loaded
  abbrev pub looked_wakeups : table.Step S → Me S (Records BookStep) → ℕ → Me S (Records BookStep) → Type 0
  looked_wakeups step m found m' = Stepped (LookWakeups found) m m' × (found < 2 ^ 63)

  -- completions are added
  abbrev pub adding : table.Step S → Me S (Records BookStep) → ℕ → Me S (Records BookStep) → Type 0
  adding step m found m' = Stepped (Add step.first found) m m'

  -- the wakeups advance if they are what was expected
  abbrev pub advancing : table.Step S → Me S (Records BookStep) → ℕ → Me S (Records BookStep) → Type 0
  advancing step m found m' = Stepped (Advance step.first step.second found) m m'
