-- When a pool opens, gives a hand and closes.
use Rattle.std.specs.Prelude.{◌++◌, ◌≡◌, ◌⊎◌}
use Rattle.tag_c.specs.Uses.{[], All, Hand, IsHandOf, IsOpen, List, Memory, open_checks, Options, PassesAll, Pool, reverse, Totals, ℕ}
use Rattle.step_ledger.specs.Gather.{HasAll}
use Rattle.tag_pool.specs.Gathering.{numbers_of, IsGathered}
use Rattle.tag_pool.specs.Hands.{hands_of}
use Rattle.tag_c.specs.declared.status.Status.{Status}
use Rattle.tag_c.specs.declared.status.Status.TheVariants.{NoHand, NotOpened}

-- the tags are newly opened with these options, and all their hands are spare, the first one last
pub record Opens (options : Options) (tags : Pool ℕ) (spare : List (Hand ℕ)) : Type 0 where
  pub hands : List (Hand ℕ)
  pub opened : IsOpen options tags hands
  pub spare_are : spare ≡ reverse hands
  pub can : PassesAll (open_checks options)

-- these are all hands of the tags
abbrev pub HasHands : Pool ℕ → List (Hand ℕ) → Type 0
HasHands tags hands = HasAll (numbers_of hands) (hands_of tags)

-- a pool with these spare hands gives none: memory ran out, which may always happen, or there is no spare hand
abbrev pub LacksHand : List (Hand ℕ) → Status → Type 0
LacksHand spare status = ((status ≡ NoHand) × (spare ≡ [])) ⊎ (status ≡ NotOpened Memory)

-- the spare hands, and those that had left, were gathered with these totals, and they are all hands of the tags
pub record Gathers (tags : Pool ℕ) (spare : List (Hand ℕ)) (totals : Totals) : Type 0 where
  pub left : List (Hand ℕ)
  pub own : All (IsHandOf tags) (spare ++ left)
  pub every : HasHands tags (spare ++ left)
  pub gathered : IsGathered tags (spare ++ left) totals
