-- Hands of the same tags.
use Rattle.tag_c.specs.Uses.{Hand, IsHandOf, Pool, ℕ}

-- both hands belong to the same tags
abbrev pub SharesTags : Hand ℕ → Hand ℕ → Type 0
SharesTags first second = (tags : Pool ℕ) × IsHandOf tags first × IsHandOf tags second
