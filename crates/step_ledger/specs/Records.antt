-- Records that keep a member's number and steps, and nothing else.
use Rattle.std.specs.Prelude.{◌≡◌, ℕ, ◌-◌, List, [], ◌∷◌, map}
use Rattle.atomic_table.specs.Table.{Me}
use Rattle.step_ledger.specs.declared.record.Record.{Record}
use Rattle.step_ledger.specs.declared.record.View.{View}
use Rattle.step_ledger.specs.Gather.{HasAll, turned}
use Rattle.step_ledger.specs.History.{total}
use Rattle.step_ledger.specs.Views.{viewing, records_from}

-- the view of a seat that has such records
abbrev pub Records : Type 0 → Type 0
Records T = View (Record T)

module _ {T : Type 0} where
  -- the record with one more step
  abbrev pub with_step : T → Record T → Record T
  with_step x r = record { number = r.number; steps = x ∷ r.steps }

  -- the records, with one more step in the first
  abbrev pub push_first : T → List (Record T) → List (Record T)
  push_first x [] = []
  push_first x (r ∷ rs) = with_step x r ∷ rs

  -- the view, with one more step in its first record
  abbrev pub push : T → Records T → Records T
  push x v = viewing (push_first x v.records.value)

  -- the steps of the first record
  abbrev pub steps_of : Records T → List T
  steps_of v = steps_in v.records.value
    where
      steps_in : {T : Type 0} → List (Record T) → List T
      steps_in [] = []
      steps_in (r ∷ rs) = r.steps

  -- the record of a member that has made no step
  abbrev pub fresh_record : ℕ → Record T
  fresh_record c = record { number = c; steps = [] }

  -- the records of n such members, numbered from c
  abbrev pub fresh : ℕ → ℕ → List (Record T)
  fresh c n = records_from fresh_record c n

  -- the numbers of the members whose records these are
  abbrev pub numbers : List (Record T) → List ℕ
  numbers rs = map (λ (r : Record T). r.number) rs

  -- the sum, over the records, of a function of their lists of steps
  abbrev pub sum_over : (List T → ℕ) → List (Record T) → ℕ
  sum_over f rs = total (λ (r : Record T). f r.steps) rs

  -- the view of the seat that members are handed out from, once those below `number` are out
  abbrev pub still_to_come : ℕ → ℕ → Records T
  still_to_come number n = viewing (fresh number (n - number))

  -- the records are the list `members` in reverse, as taken off its end, and each number below n is among them
  abbrev pub AreAll : ℕ → List (Record T) → List (Record T) → Type 0
  AreAll n members records = (records ≡ turned members) × HasAll (numbers members) n

  -- what a seat knows after a step: the step is added to its first record
  abbrev pub Stepped : {S : Type 0} → T → Me S (Records T) → Me S (Records T) → Type 0
  Stepped x m m' = m' ≡ (push x m.0, m.1)
