-- How a caller's hint moves with its gets and clears.
use Rattle.std.specs.Prelude.{◌≡◌, ℕ, Option, if◌then◌else◌}
use Rattle.tag_search.specs.declared.hint.Hint.{Hint}
use Rattle.tag_search.specs.Hints.{reduced, hint_after_get, hint_after_batch}

-- the hint moves by the answer of the search, and round robin is unchanged
pub record HintFollows (depth : ℕ) (old new : Hint) (answer : Option ℕ) : Type 0 where
  pub at : new.at ≡ hint_after_get depth old.round_robin (reduced depth old.at) answer
  pub round_robin : new.round_robin ≡ old.round_robin

-- after a batch the hint moves as after a get of the last of the n tags; if none is won, it is the reduced hint
pub record BatchFollows (depth n : ℕ) (old new : Hint) (answer : Option (ℕ × ℕ)) : Type 0 where
  pub at : new.at ≡ hint_after_batch depth n (reduced depth old.at) answer
  pub round_robin : new.round_robin ≡ old.round_robin

-- a clear moves the hint to the tag, except under round robin
pub record ClearFollows (tag : ℕ) (old new : Hint) : Type 0 where
  pub at : new.at ≡ (if old.round_robin then old.at else tag)
  pub round_robin : new.round_robin ≡ old.round_robin
