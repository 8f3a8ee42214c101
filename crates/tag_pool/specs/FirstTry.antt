-- A get in two calls: its first try, and what follows it.
use Rattle.std.specs.Prelude.{◌≡◌}
use Rattle.tag_pool.specs.Uses.{Makes, Map}
use Rattle.tag_core.specs.Callers as core
use Rattle.tag_search.specs.declared.search.Unfinished.{Unfinished}
use Rattle.tag_search.specs.declared.search.Unfinished.TheVariants.{NotBegun, Full, Lost}
use Rattle.tag_search.specs.Begun.{CanFinish, IsBegun}
use Rattle.tag_pool.specs.declared.hand.Hand.{Hand}
use Rattle.tag_pool.specs.declared.kind.Kind.TheVariants.{Ordinary}
use Rattle.tag_pool.specs.declared.pool.Pool.{Pool}
use Rattle.tag_pool.specs.declared.side.Side.{Side}
use Rattle.tag_pool.specs.Sides.{caller_of, HasRoom, hint_of, IsSideOf}
use Rattle.tag_pool.specs.Hands.{Changes, IsHandOf}

-- with room for one more tag, a first try in the set won nothing: of all but the steps nothing changed, and the get can be
-- finished
pub record TriesFirstIn {R : Type 0} (map : Map R) (rest : Unfinished) (old new : Side R) : Type 0 where
  pub side : IsSideOf map old
  pub room : HasRoom old 1 × HasRoom new 1
  pub can : CanFinish (core.layout_of map) (hint_of old) rest
  pub steps : Makes (caller_of old) (caller_of new) (IsBegun (core.layout_of map) (hint_of old) rest)
  pub hint : hint_of new ≡ hint_of old

-- a hand of the pool made a first try for an ordinary tag, which won nothing
pub record TriesFirst {R : Type 0} (pool : Pool R) (rest : Unfinished) (old new : Hand R) : Type 0 where
  pub hand : IsHandOf pool old
  pub set : Changes Ordinary (TriesFirstIn pool.ordinary rest) old new

-- a get that is not over has done nothing, or has made a first try
abbrev pub BeginsGet : {R : Type 0} → Pool R → Unfinished → Hand R → Hand R → Type 0
BeginsGet pool NotBegun old new = new ≡ old
BeginsGet pool Full old new = TriesFirst pool Full old new
BeginsGet pool (Lost from found) old new = TriesFirst pool (Lost from found) old new
