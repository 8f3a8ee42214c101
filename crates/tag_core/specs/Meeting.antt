-- What a caller's record shows alone, and what two callers of a map show when they come together.
use Rattle.std.specs.Prelude.{◌<◌, ◌≡◌, ◌≢◌}
use Rattle.tag_core.specs.Uses.{IsWithin, words, ℕ}
use Rattle.tag_core.specs.declared.shape.Shape.{Shape}
use Rattle.tag_core.specs.declared.record.Record.{Record}
use Rattle.tag_core.specs.Histories.{History, cells_of, world_of, IsLawful}
use Rattle.tag_core.specs.Records.{tag_bit}
use Rattle.tag_core.specs.Rule.{ShowsTag, IsKnown}

-- one lawful history shows the record: its world has its held set and counts, its list is its caller's steps in it,
-- and the
-- words show the place that each tag has in that world, and have no bit outside the layout
pub record HasHistory {R : Type 0} (k : Shape) (r : Record R) : Type 0 where
  pub history : History R
  pub lawful : IsLawful k history
  pub known : IsKnown k history r
  pub tags : (tag : ℕ) → tag < k.layout.depth → ShowsTag k (cells_of history) ((world_of k history).place tag) tag
  pub word_within : (i : ℕ) → i < words k.layout → IsWithin k.layout i ((cells_of history).words.word i)
  pub aside_within : (i : ℕ) → i < words k.layout → IsWithin k.layout i ((cells_of history).words.aside i)

-- one lawful history shows both records: its world has their held sets and counts, and their lists are their steps
-- in it
pub record ShareHistory {R : Type 0} (k : Shape) (first second : Record R) : Type 0 where
  pub history : History R
  pub lawful : IsLawful k history
  pub first_known : IsKnown k history first
  pub second_known : IsKnown k history second

-- no tag is in both held sets
abbrev pub AreApart : {R : Type 0} → Shape → Record R → Record R → Type 0
AreApart k first second =
    (tag : ℕ) → tag < k.layout.depth → tag_bit k.layout first.held tag ≡ 1 → tag_bit k.layout second.held tag ≢ 1
