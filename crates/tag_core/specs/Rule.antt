-- The rule of the table: words, states, slots and records show one world, which one history of all callers' steps
-- gives.
use Rattle.std.specs.Prelude.{◌%◌, ◌*◌, ◌<◌, ◌≡◌, ◌≤◌}
use Rattle.tag_core.specs.Uses.{back_in, bit_at, EachStands, get_elem?, got_in, Held, IsWithin, length, List, MOST_WON, none, Place, place_of, Posted, slice_index, some, State, word_of, words, ℕ}
use mathlib.Core.Option as maybe
use Rattle.tag_core.specs.Views.{View}
use Rattle.tag_core.specs.declared.shape.Shape.{Shape}
use Rattle.tag_core.specs.declared.record.Record.{Record}
use Rattle.tag_model.specs.declared.world.TheConstants.{MAX_CALLERS}
use Rattle.tag_core.specs.declared.berth.TheConstants.{TURNS}
use Rattle.tag_core.specs.Berths.{berth_word}
use Rattle.tag_core.specs.Spacing.{aside_at, berth_at, clock_at, state_at, table_width, waiters_at, word_at}
use Rattle.tag_core.specs.Bits.{word_bit, aside_bit, posted_bit, held_bit, state_word, sweep_bit}
use Rattle.tag_core.specs.Histories.{Cells, History, cells_of, opening_world, world_of, IsLawful, last_post, steps_by}
use Rattle.tag_core.specs.Records.{tag_bit}

-- before the map, nobody had won more tags than one may, and as many were given back as were won
pub record IsOpening (k : Shape) : Type 0 where
  pub unspent : (caller : ℕ) → (opening_world k).won caller ≤ MOST_WON
  pub even : got_in k.callers (opening_world k) ≡ back_in k.callers (opening_world k)

-- the table's words are the cells, of which no word has a bit that its layout has not; the clock counts turns by 8, and
-- begins anew where a turn would not fit a berth
pub record HasCells (k : Shape) (table : List ℕ) (c : Cells) : Type 0 where
  pub wide : length table ≡ table_width k.layout
  pub word : (i : ℕ) → i < words k.layout → slice_index table (word_at i) ≡ c.words.word i
  pub aside : (i : ℕ) → i < words k.layout → slice_index table (aside_at i) ≡ c.words.aside i
  pub state : (tag : ℕ) → tag < k.layout.depth → slice_index table (state_at k.layout tag)
      ≡ state_word (c.state tag) (c.note tag)
  pub waiters : slice_index table waiters_at ≡ c.waits.waiters
  pub clock : slice_index table clock_at ≡ 8 * (c.waits.clock % TURNS)
  pub berth : (caller : ℕ) → caller < MAX_CALLERS
      → slice_index table (berth_at caller) ≡ berth_word (c.waits.berths caller)
  pub word_within : (i : ℕ) → i < words k.layout → IsWithin k.layout i (c.words.word i)
  pub aside_within : (i : ℕ) → i < words k.layout → IsWithin k.layout i (c.words.aside i)

-- what the cells show of a tag that is at this place
pub record ShowsTag (k : Shape) (c : Cells) (place : Place) (tag : ℕ) : Type 0 where
  pub word : word_bit place ≡ bit_at (c.words.word (word_of k.layout tag)) (place_of k.layout tag)
  pub aside : aside_bit place ≡ bit_at (c.words.aside (word_of k.layout tag)) (place_of k.layout tag)
  pub posted : posted_bit place ≡ c.state tag

-- the slot of a tag is out with the caller who holds it, and at home where nobody does
abbrev pub SlotIs : {R : Type 0} → maybe.Option (maybe.Option R) → Place → Type 0
SlotIs home (Held caller) = home ≡ some none
SlotIs {R} home _ = (value : R) × (home ≡ some (some value))

-- the caller's record shows the world that the history leaves, and its own steps in it
pub record IsKnown {R : Type 0} (k : Shape) (h : History R) (r : Record R) : Type 0 where
  pub shape : r.shape ≡ k
  pub number : r.number < k.callers
  pub held_wide : length r.held ≡ words k.layout
  pub swept_wide : length r.swept ≡ words k.layout
  pub within : (i : ℕ) → i < words k.layout → IsWithin k.layout i (slice_index r.held i)
  pub swept_within : (i : ℕ) → i < words k.layout → IsWithin k.layout i (slice_index r.swept i)
  pub held : (tag : ℕ) → tag < k.layout.depth
      → held_bit r.number ((world_of k h).place tag) ≡ tag_bit k.layout r.held tag
  pub swept : (tag : ℕ) → tag < k.layout.depth
      → sweep_bit r.number ((world_of k h).place tag) ≡ tag_bit k.layout r.swept tag
  pub won : r.won ≡ (world_of k h).won r.number
  pub back : r.back ≡ (world_of k h).back r.number
  pub steps : r.steps ≡ steps_by r.number h

-- some lawful history of all callers leaves these words, states and slots, and each caller's record is its part of it
pub record Shown {R : Type 0} (k : Shape) (s : State R (View R)) : Type 0 where
  pub opening : IsOpening k
  pub history : History R
  pub lawful : IsLawful k history
  pub cells : HasCells k s.words (cells_of history)
  pub tags : (tag : ℕ) → tag < k.layout.depth → ShowsTag k (cells_of history) ((world_of k history).place tag) tag
  pub slots : (tag : ℕ) → tag < k.layout.depth → SlotIs (get_elem? s.homes tag) ((world_of k history).place tag)
  pub posts :
      (tag : ℕ) → tag < k.layout.depth → (world_of k history).place tag ≡ Posted
      → get_elem? s.homes tag ≡ some (last_post tag history)
  -- the seat of each caller's record, and its position in the view there: so each number stands once
  pub seat : ℕ → ℕ
  pub position : ℕ → ℕ
  pub records :
      (j : ℕ) (v : View R) → get_elem? s.views j ≡ some v → (n : ℕ) (r : Record R)
      → get_elem? v.records.value n ≡ some r
      → IsKnown k history r × (seat r.number ≡ j) × (position r.number ≡ n)
  pub each : EachStands (λ (r : Record R). r.number) k.callers s.views seat position
