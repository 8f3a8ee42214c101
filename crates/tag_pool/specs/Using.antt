-- How many tags of a pool are in use, and which of its hands wait.
use Rattle.std.specs.Prelude.{◌+◌, ◌-◌, ◌≡◌}
use Rattle.tag_pool.specs.Uses.{get_elem?, length, List, some, ℕ}
use Rattle.tag_core.specs.Settling.{AreSettled, LeavesWaiters}
use Rattle.tag_core.specs.Sizes.{total_of, size_of}
use Rattle.tag_core.specs.declared.record.Record.{Record}
use Rattle.tag_core.specs.declared.shape.Shape.{Shape}
use Rattle.tag_pool.specs.declared.hand.Hand.{Hand}
use Rattle.tag_pool.specs.declared.kind.Kind.{Kind}
use Rattle.tag_pool.specs.declared.kind.Kind.TheVariants.{Ordinary, Reserved}
use Rattle.tag_pool.specs.declared.pool.Pool.{Pool}
use Rattle.tag_pool.specs.declared.usage.SetUsage.{SetUsage}
use Rattle.tag_pool.specs.declared.usage.Usage.{Usage}
use Rattle.tag_pool.specs.Sets.{InBoth}
use Rattle.tag_pool.specs.Gathering.{shape_of}
use Rattle.tag_pool.specs.Holding.{IsUnchanged}

-- the hands are in the same order, and each of them is unchanged
pub record AreUnchanged {R : Type 0} (old new : List (Hand R)) : Type 0 where
  pub count : length new ≡ length old
  pub each : (n : ℕ) (a b : Hand R) → get_elem? old n ≡ some a → get_elem? new n ≡ some b → IsUnchanged a b

-- one lawful history accounts for these records, with these totals; and one leaves the word of all who wait so
pub record IsSetUsage {R : Type 0} (k : Shape) (rs : List (Record R)) (usage : SetUsage) : Type 0 where
  pub settled : AreSettled k rs usage.totals
  pub waiting : LeavesWaiters k rs usage.waiting

-- what is in use in a set
abbrev pub usage_in : Usage → Kind → SetUsage
usage_in usage Ordinary = usage.ordinary
usage_in usage Reserved = usage.reserved

-- it is so in each set
abbrev pub IsUsage : {R : Type 0} → Pool R → (Kind → List (Record R)) → Usage → Type 0
IsUsage pool records usage = InBoth (λ kind. IsSetUsage (shape_of pool kind) (records kind) (usage_in usage kind))

-- the number of tags that callers with these records hold
abbrev pub held_in : {R : Type 0} → List (Record R) → ℕ
held_in {R} rs = total_of (λ (r : Record R). size_of r.held) rs

-- the number of tags that they won and neither gave back nor hold: those posted, if these are all callers of a map
abbrev pub posted_in : {R : Type 0} → List (Record R) → ℕ
posted_in {R} rs = total_of (λ (r : Record R). r.won) rs - (total_of (λ (r : Record R). r.back) rs + held_in rs)

-- each tag that these callers won was given back, is held or is posted
abbrev pub Balance : {R : Type 0} → List (Record R) → Type 0
Balance {R} rs =
    total_of (λ (r : Record R). r.won) rs ≡ total_of (λ (r : Record R). r.back) rs + held_in rs + posted_in rs

-- no tag is held, and none posted
abbrev pub NoneInUse : {R : Type 0} → List (Record R) → Type 0
NoneInUse rs = (held_in rs ≡ 0) × (posted_in rs ≡ 0)
