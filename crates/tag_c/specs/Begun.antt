-- A get by a hand without a cache, when its first try is over.
use Rattle.std.specs.Prelude.{◌≡◌}
use Rattle.tag_c.specs.Uses.{arc_value}
use Rattle.tag_search.specs.declared.search.Unfinished.{Unfinished}
use Rattle.tag_pool.specs.FirstTry as pools
use Rattle.tag_c.specs.declared.member.Member.{Member}

-- the hand stays one of the same pool and made a first try, which won nothing
abbrev pub TriesFirst : Unfinished → Member → Member → Type 0
TriesFirst rest old new = (new.shared ≡ old.shared) × pools.TriesFirst (arc_value old.shared).tags rest old.hand new.hand
