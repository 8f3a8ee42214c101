-- The scan of the code in terms of the specification.
use Rattle.tag_search.specs.Uses.{Layout, None, Option, shallow_limit, Some, word_depth, ℕ}
use Rattle.tag_search.specs.declared.scan.Scan.{Scan}
use Rattle.tag_search.specs.Visits.{Reach}

-- the number of places of a word that may be taken
abbrev pub limit_of : Layout → Option ℕ → ℕ → ℕ
limit_of l None = word_depth l
limit_of l (Some depth) = λ i. shallow_limit l i depth

-- the places that a scan may take
abbrev pub reach_of : Scan → Reach
reach_of scan = record { start = scan.start; limit = limit_of scan.layout scan.shallow; wrap = scan.wrap }
