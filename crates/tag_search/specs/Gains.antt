-- What a get over a shared map changes of its caller.
use Rattle.std.specs.Prelude.{◌*◌, ◌+◌, ◌^◌, ◌≡◌}
use Rattle.tag_search.specs.Uses.{bit_at, Caller, count_ones, joined, Layout, List, None, Option, place_of, record_of, SameMap, Some, word_of, ℕ}
use Rattle.tag_core.specs.Holding.{HoldsMore}

-- the held set with the tag won, if there is one
abbrev pub held_with : Layout → Option ℕ → List ℕ → List ℕ
held_with l None held = held
held_with l (Some tag) held = joined held (word_of l tag) (2 ^ place_of l tag)

-- the number of tags won
abbrev pub count_of : Option ℕ → ℕ
count_of None = 0
count_of (Some tag) = 1

-- the tag is the one answered
abbrev pub IsAnswer : Option ℕ → ℕ → Type 0
IsAnswer None tag = ⊥
IsAnswer (Some answer) tag = tag ≡ answer

-- the caller acquires the tag answered, if there is one, and no other, and gave nothing back
pub record Gains {R : Type 0} (l : Layout) (answer : Option ℕ) (old new : Caller R) : Type 0 where
  pub acquires : HoldsMore (IsAnswer answer) old new
  pub held : (record_of new).held ≡ held_with l answer (record_of old).held
  pub count : (record_of new).won ≡ (record_of old).won + count_of answer
  pub back : (record_of new).back ≡ (record_of old).back
  pub number : (record_of new).number ≡ (record_of old).number
  pub shape : (record_of new).shape ≡ (record_of old).shape
  pub same_map : SameMap old new

-- the tag is one of a batch: bit k of the mask is the tag k after the first
abbrev pub IsInRun : Option (ℕ × ℕ) → ℕ → Type 0
IsInRun None tag = ⊥
IsInRun (Some won) tag = (k : ℕ) × (tag ≡ won.0 + k) × (bit_at won.1 k ≡ 1)

-- the held set with the tags of a batch, if there is one: the mask is shifted to the place of the first tag
abbrev pub held_with_run : Layout → Option (ℕ × ℕ) → List ℕ → List ℕ
held_with_run l None held = held
held_with_run l (Some won) held = joined held (word_of l won.0) (won.1 * 2 ^ place_of l won.0)

-- the number of tags that a batch won
abbrev pub count_of_run : Option (ℕ × ℕ) → ℕ
count_of_run None = 0
count_of_run (Some won) = count_ones won.1

-- as `Gains`, for the tags of a batch
pub record GainsRun {R : Type 0} (l : Layout) (answer : Option (ℕ × ℕ)) (old new : Caller R) : Type 0 where
  pub acquires : HoldsMore (IsInRun answer) old new
  pub held : (record_of new).held ≡ held_with_run l answer (record_of old).held
  pub count : (record_of new).won ≡ (record_of old).won + count_of_run answer
  pub back : (record_of new).back ≡ (record_of old).back
  pub number : (record_of new).number ≡ (record_of old).number
  pub shape : (record_of new).shape ≡ (record_of old).shape
  pub same_map : SameMap old new
