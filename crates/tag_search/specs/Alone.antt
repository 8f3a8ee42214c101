-- What the only caller of a map knows of it from its own steps.
use Rattle.std.specs.Prelude.{◌≡◌}
use Rattle.tag_search.specs.Uses.{Bool, Caller, Layout, List, nat_eq, Option, record_of, ℕ}
use Rattle.tag_search.specs.AloneLaws.{cells_left, words_left}
use Rattle.tag_search.specs.Pool.{Pool, pool_of}
use Rattle.tag_search.specs.Search.{Visit}
use Rattle.tag_search.specs.Choice.{IsChoice, IsBatchChoice}
use Rattle.tag_search.specs.Batch.{batch_words}

-- the caller's map has no other caller
abbrev pub IsAlone : {R : Type 0} → Caller R → Type 0
IsAlone c = c.shape.value.callers ≡ 1

-- the places that are free, and those set aside, after the caller's own steps
abbrev pub pool_left : {R : Type 0} → Caller R → Pool
pool_left c = pool_of (words_left (record_of c).steps)

-- the tag is posted, after the caller's own steps
abbrev pub is_posted : {R : Type 0} → Caller R → ℕ → Bool
is_posted c tag = nat_eq ((cells_left (record_of c).steps).state tag) 1

-- the answer is the choice over the pool that the caller's own steps left, the pool afterwards is what the choice
-- leaves, and no tag is posted or taken from the posted ones
pub record Chooses {R : Type 0} (l : Layout) (visits : List Visit) (answer : Option ℕ)
    (old new : Caller R) : Type 0 where
  pub choice : IsChoice l (pool_left old) visits answer (pool_left new)
  pub posted : (tag : ℕ) → is_posted new tag ≡ is_posted old tag

-- as `Chooses`, for n adjacent tags in one word
pub record ChoosesRun {R : Type 0} (l : Layout) (n first : ℕ) (answer : Option (ℕ × ℕ))
    (old new : Caller R) : Type 0 where
  pub choice : IsBatchChoice l n (pool_left old) (batch_words l first) answer (pool_left new)
  pub posted : (tag : ℕ) → is_posted new tag ≡ is_posted old tag

-- the caller's own steps leave this pool, and no tag is posted or taken from the posted ones
pub record LeavesPool {R : Type 0} (pool : Pool) (old new : Caller R) : Type 0 where
  pub pool_is : pool_left new ≡ pool
  pub posted : (tag : ℕ) → is_posted new tag ≡ is_posted old tag
