-- What all callers of a map show when they come together.
use Rattle.std.specs.Prelude.{◌+◌, ◌<◌, ◌≡◌}
use Rattle.tag_core.specs.Uses.{AreTotals, get_elem?, Layout, length, List, map, Posted, slice_index, some, sum_below, ℕ}
use Rattle.tag_core.specs.declared.shape.Shape.{Shape}
use Rattle.tag_core.specs.declared.record.Record.{Record}
use Rattle.tag_core.specs.declared.caller.Caller.{Caller}
use Rattle.tag_core.specs.declared.map.Map.{Map}
use Rattle.tag_core.specs.declared.closed.Closed.{Closed}
use Rattle.tag_core.specs.declared.together.Gathering.{Gathering}
use Rattle.tag_core.specs.Bits.{posted_by_word}
use Rattle.tag_core.specs.Spacing.{state_at}
use Rattle.tag_core.specs.Histories.{History, IsLawful, world_of, steps_by, last_post}
use Rattle.tag_core.specs.Sizes.{total_of, size_of}
use Rattle.tag_core.specs.Chain.{CountsChain}

-- the totals are the sums over these records, those of the world that one history of all their steps leaves, and
-- what was
-- won and given back in this map and in those before it
pub record IsGathered {R : Type 0} (k : Shape) (rs : List (Record R)) (closed : Closed R) : Type 0 where
  pub history : History R
  pub lawful : IsLawful k history
  pub own : (i : ℕ) (r : Record R) → get_elem? rs i ≡ some r → r.steps ≡ steps_by r.number history
  pub layout : closed.layout ≡ k.layout
  pub got : closed.totals.got ≡ total_of (λ (r : Record R). r.won) rs
  pub back : closed.totals.back ≡ total_of (λ (r : Record R). r.back) rs
  pub held : closed.totals.held ≡ total_of (λ (r : Record R). size_of r.held) rs
  pub totals : AreTotals k.layout k.callers (world_of k history) closed.totals
  pub chain : CountsChain k history closed.totals
  pub balance : closed.totals.got ≡ closed.totals.back + closed.totals.held + closed.totals.posted
  pub slots : length closed.slots.items ≡ k.layout.depth
  -- a posted tag's slot has the value of its last Post
  pub posts :
      (tag : ℕ) → tag < k.layout.depth → (world_of k history).place tag ≡ Posted
      → get_elem? closed.slots.items tag ≡ last_post tag history

-- how many tags have a state that is not 0 in a table's words
abbrev pub states_posted : Layout → List ℕ → ℕ
states_posted l table = sum_below (λ tag. posted_by_word (slice_index table (state_at l tag))) l.depth

-- the numbers of these callers
abbrev pub numbers_of : {R : Type 0} → List (Caller R) → List ℕ
numbers_of {R} callers = map (λ (c : Caller R). c.number) callers

-- whose records these are
abbrev pub numbers : {R : Type 0} → List (Record R) → List ℕ
numbers {R} rs = map (λ (r : Record R). r.number) rs

-- these callers are of this map
abbrev pub IsGatheringOf : {R : Type 0} → Map R → Gathering R → Type 0
IsGatheringOf owner gathering = gathering.seat.table_id ≡ owner.table.shared.table_id

-- the records of the callers gathered, the newest first
abbrev pub gathered : {R : Type 0} → Gathering R → List (Record R)
gathered gathering = gathering.seat.me.0.records.value
