-- Lists of ordinary tags.
use Rattle.std.specs.Prelude.{◌<◌, ◌≢◌, ◌≤◌}
use Rattle.tag_pool.specs.Uses.{All, AllPairs, List, ℕ}
use Rattle.tag_pool.specs.declared.hand.Hand.{Hand}
use Rattle.tag_pool.specs.declared.pool.Pool.{Pool}
use Rattle.tag_pool.specs.Hands.{reserved_of, total_of, Holds}

-- each number is an ordinary tag's
abbrev pub AreOrdinary : {R : Type 0} → Pool R → List ℕ → Type 0
AreOrdinary pool list = All (λ tag. (reserved_of pool ≤ tag) × (tag < total_of pool)) list

-- each tag in the list is held, and none is named twice
abbrev pub AreHeldOnce : {R : Type 0} → Hand R → List ℕ → Type 0
AreHeldOnce hand list = All (Holds hand) list × AllPairs (λ a b. a ≢ b) list
