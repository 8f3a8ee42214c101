-- What a waiter learns from each kind of step on the wait groups.
use Rattle.std.specs.Prelude.{◌<◌, ◌≡◌, ◌≤◌}
use Rattle.wake_book.specs.Uses.{Me, Records, Stepped, steps_of, suc, ℕ}
use Rattle.atomic_table.specs.Table as table
use Rattle.wake_book.specs.declared.steps.GroupStep.{GroupStep}
use Rattle.wake_book.specs.declared.steps.GroupStep.TheVariants.{Look, Raise, Lower, Enter, Grant, Store}
use Rattle.wake_book.specs.Waits.{active_at, index_at, group_at, granted, waiting, moved_in, raised, stand}
use Rattle.wake_book.specs.Walks.{IsCalledFor}

module _ {S : Type 0} where
  -- a waiter that has raised the active count is counted in it
  abbrev pub looked_active : table.Step S → Me S (Records GroupStep) → ℕ → Me S (Records GroupStep) → Type 0
  looked_active step m found m' = Stepped (Look active_at found) m m' × (raised (steps_of m.0) ≡ 1 → 1 ≤ found)

  -- the wake index is one of the eight groups
  abbrev pub looked_index : table.Step S → Me S (Records GroupStep) → ℕ → Me S (Records GroupStep) → Type 0
  looked_index step m found m' = Stepped (Look index_at found) m m' × (found < 8)

  -- if the waiter is in this group and the group has no grant, somebody waits there
  abbrev pub looked_group : table.Step S → Me S (Records GroupStep) → ℕ → Me S (Records GroupStep) → Type 0
  looked_group step m found m' = Stepped (Look step.word found) m m'
      × ((g : ℕ) → step.word ≡ group_at g → stand (steps_of m.0) ≡ suc g → granted found ≡ 0 → 1 ≤ waiting found)

  -- the active count goes up
  abbrev pub raising : table.Step S → Me S (Records GroupStep) → ℕ → Me S (Records GroupStep) → Type 0
  raising step m found m' = Stepped (Raise found) m m'

  -- the active count goes down
  abbrev pub lowering : table.Step S → Me S (Records GroupStep) → ℕ → Me S (Records GroupStep) → Type 0
  lowering step m found m' = Stepped (Lower found) m m'

  -- a waiter enters a group
  abbrev pub entering : table.Step S → Me S (Records GroupStep) → ℕ → Me S (Records GroupStep) → Type 0
  entering step m found m' = (g : ℕ) → step.word ≡ group_at g → Stepped (Enter g found) m m'

  -- waiters move from waiting to granted, if the word is what was expected
  abbrev pub granting : table.Step S → Me S (Records GroupStep) → ℕ → Me S (Records GroupStep) → Type 0
  granting step m found m' = (g count : ℕ) → step.word ≡ group_at g → count ≤ waiting step.first
      → step.second ≡ moved_in step.first count → Stepped (Grant g step.first count found) m m'

  -- a waiter leaves a group, as the word expected calls for, if the word is what was expected
  abbrev pub leaving : table.Step S → Me S (Records GroupStep) → ℕ → Me S (Records GroupStep) → Type 0
  leaving step m found m' = (g : ℕ) → step.word ≡ group_at g
      → (made : GroupStep) × IsCalledFor g step.first found made × Stepped made m m'

  -- the wake index is stored
  abbrev pub storing : table.Step S → Me S (Records GroupStep) → ℕ → Me S (Records GroupStep) → Type 0
  storing step m index m' = Stepped (Store index) m m'
