-- The rule of a table: its words are the result of a lawful history of its members' steps.
use Rattle.std.specs.Prelude.{◌≡◌, ℕ, ◌<◌, List}
use mathlib.Core.Option.{some}
use lib.ListN.{get_elem?}
use Rattle.atomic_table.specs.Table.{State}
use Rattle.step_ledger.specs.Records.{Records}
use Rattle.step_ledger.specs.declared.record.Record.{Record}
use Rattle.step_ledger.specs.Views.{EachStands}
use Rattle.step_ledger.specs.History.{own_steps, words_left, Lawful}

-- some lawful history results in the words, and each of n members has its own steps of it in exactly one record
pub record Ledger {S T : Type 0} (n : ℕ) (start : List ℕ) (after : T → List ℕ → List ℕ) (MayStep : ℕ → T
    → List (ℕ × T) → Type 0)
    (s : State S (Records T)) : Type 0 where
  pub history : List (ℕ × T)
  pub lawful : Lawful n MayStep history
  pub words_are : s.words ≡ words_left start after history
  pub seat : ℕ → ℕ
  pub position : ℕ → ℕ
  pub records : (j : ℕ) (v : Records T) → get_elem? s.views j ≡ some v → (i : ℕ) (r : Record T)
      → get_elem? v.records.value i ≡ some r
      → (r.number < n) × (r.steps ≡ own_steps r.number history) × (seat r.number ≡ j) × (position r.number ≡ i)
  pub each : EachStands (λ (r : Record T). r.number) n s.views seat position
