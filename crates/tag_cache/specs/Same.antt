-- Calls that neither give the user tags nor take any.
use Rattle.tag_cache.specs.declared.cache.Cache.{Cache}
use Rattle.tag_cache.specs.Changes.{KeepsSame, SameWindow}
use Rattle.tag_cache.specs.Holding.{HoldsSame}
use Rattle.tag_cache.specs.Tallies.{Tallies}

-- the user holds the same tags with the values of their slots and is known to, the same tags are kept, and none was handed
-- out or taken back
pub record SameTags {R : Type 0} (old new : Cache R) : Type 0 where
  pub held : HoldsSame old new
  pub kept : KeepsSame old new
  pub window : SameWindow old new
  pub tally : Tallies 0 0 old new
