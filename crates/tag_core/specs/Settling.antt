-- All callers of a map together, so that nobody else acts.
use Rattle.std.specs.Prelude.{◌+◌, ◌<◌, ◌≡◌, ◌≤◌}
use Rattle.tag_core.specs.Uses.{AreTotals, get_elem?, length, List, some, Totals, ℕ}
use Rattle.tag_core.specs.declared.shape.Shape.{Shape}
use Rattle.tag_core.specs.declared.record.Record.{Record}
use Rattle.tag_core.specs.Histories.{History, IsLawful, cells_of, world_of}
use Rattle.tag_core.specs.Rule.{IsKnown}
use Rattle.tag_core.specs.Sizes.{total_of, size_of}

-- each caller below a bound has its record among these
abbrev pub HasRecords : {R : Type 0} → ℕ → List (Record R) → Type 0
HasRecords {R} callers rs = (n : ℕ) → n < callers → (i : ℕ) × (r : Record R)
    × (get_elem? rs i ≡ some r) × (r.number ≡ n)

-- these are the records of all callers, each once; one lawful history shows them all, and these totals are its world's
pub record AreSettled {R : Type 0} (k : Shape) (rs : List (Record R)) (totals : Totals) : Type 0 where
  pub history : History R
  pub lawful : IsLawful k history
  pub each : (i : ℕ) (r : Record R) → get_elem? rs i ≡ some r → IsKnown k history r
  pub once : (i j : ℕ) (r q : Record R) → get_elem? rs i ≡ some r → get_elem? rs j ≡ some q
      → r.number ≡ q.number → i ≡ j
  pub every : HasRecords k.callers rs
  pub few : length rs ≤ k.callers
  pub got : totals.got ≡ total_of (λ (r : Record R). r.won) rs
  pub back : totals.back ≡ total_of (λ (r : Record R). r.back) rs
  pub held : totals.held ≡ total_of (λ (r : Record R). size_of r.held) rs
  pub totals_are : AreTotals k.layout k.callers (world_of k history) totals
  pub balance : totals.got ≡ totals.back + totals.held + totals.posted

-- these are the records of all callers; one lawful history shows them all, and leaves the word of all who wait so
pub record LeavesWaiters {R : Type 0} (k : Shape) (rs : List (Record R)) (waiting : ℕ) : Type 0 where
  pub history : History R
  pub lawful : IsLawful k history
  pub each : (i : ℕ) (r : Record R) → get_elem? rs i ≡ some r → IsKnown k history r
  pub every : HasRecords k.callers rs
  pub waiting_is : waiting ≡ (cells_of history).waits.waiters
