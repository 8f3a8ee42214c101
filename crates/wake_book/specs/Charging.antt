-- Lawful charges: which steps a charge makes, and which outcome it returns.
use Rattle.std.specs.Prelude.{◌*◌, ◌+◌, ◌<◌, ◌∷◌, ◌≡◌, ◌≢◌, ◌≤◌}
use Rattle.wake_book.specs.Uses.{List, suc, total, zero, ℕ}
use Rattle.wake_book.specs.declared.steps.BookStep.{BookStep}
use Rattle.wake_book.specs.declared.steps.BookStep.TheVariants.{LookCompletions, LookWakeups, Add, Advance}
use Rattle.wake_book.specs.declared.charge.Charge.{Charge}
use Rattle.wake_book.specs.declared.charge.Charge.TheVariants.{Full, Below, Won, Busy}
use Rattle.wake_book.specs.Charges.{added}

-- how many completions a charge of n counts, by its outcome
abbrev pub counted_as : ℕ → Charge → ℕ
counted_as n Full = 0
counted_as n Below = n
counted_as n (Won start) = n
counted_as n Busy = n

-- how many completions a charge takes, by its outcome
abbrev pub taken_as : ℕ → Charge → ℕ
taken_as batch Full = 0
taken_as batch Below = 0
taken_as batch (Won start) = batch
taken_as batch Busy = 0

-- the two loads of a try: wakeups first, then completions
abbrev pub looked : ℕ → ℕ → List BookStep → List BookStep
looked start completions before = LookCompletions completions ∷ LookWakeups start ∷ before

-- that many tries, each of which found a batch due and lost its exchange
abbrev pub LosesTries : ℕ → ℕ → List BookStep → List BookStep → Type 0
LosesTries zero batch steps steps' = steps' ≡ steps
LosesTries (suc tries) batch steps steps' = (start : ℕ) × (completions : ℕ) × (found : ℕ) × (before : List BookStep)
    × LosesTries tries batch steps before × (start + batch ≤ completions) × (found ≢ start)
    × (steps' ≡ Advance start (start + batch) found ∷ looked start completions before)

-- n completions were counted, and then fewer than 16 tries were lost
abbrev pub CountsAndLoses : ℕ → ℕ → ℕ → List BookStep → List BookStep → Type 0
CountsAndLoses cap batch n steps before = (total added steps + n ≤ cap) × (found : ℕ) × (tries : ℕ) × (tries < 16)
    × LosesTries tries batch (Add n found ∷ steps) before

-- the steps of a charge of n, by its outcome
abbrev pub IsCharge : ℕ → ℕ → ℕ → List BookStep → List BookStep → Charge → Type 0
IsCharge cap batch n steps steps' Full = (cap < total added steps + n) × (steps' ≡ steps)
IsCharge cap batch n steps steps' Below = (before : List BookStep) × CountsAndLoses cap batch n steps before
    × (start : ℕ) × (completions : ℕ) × (completions < start + batch) × (steps' ≡ looked start completions before)
IsCharge cap batch n steps steps' (Won start) = (before : List BookStep) × CountsAndLoses cap batch n steps before
    × (completions : ℕ) × (start + batch ≤ completions)
    × (steps' ≡ Advance start (start + batch) start ∷ looked start completions before)
IsCharge cap batch n steps steps' Busy = (total added steps + n ≤ cap) × (found : ℕ) × (tries : ℕ) × (tries ≡ 16)
    × LosesTries tries batch (Add n found ∷ steps) steps'

-- the most steps of a count: the add, and 16 tries of two loads and an exchange each
abbrev pub count_steps : ℕ
count_steps = 1 + 16 * 3
