-- The places of the rest of a rank.
use Rattle.std.specs.Prelude.{ℕ, List, ◌++◌}
use Rattle.tag_search.specs.declared.rank.Rank.{Rank}
use Rattle.tag_search.specs.Order.{numbers}

-- the places of a rank, in order
abbrev pub places_of : Rank → List ℕ
places_of rank = numbers rank.from rank.limit ++ numbers 0 rank.then
