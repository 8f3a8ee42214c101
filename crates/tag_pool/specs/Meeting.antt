-- What two hands that are passed in together show about each other.
use Rattle.tag_pool.specs.Uses.{record_of}
use Rattle.tag_core.specs.Meeting.{ShareHistory}
use Rattle.tag_pool.specs.declared.hand.Hand.{Hand}
use Rattle.tag_pool.specs.declared.kind.Kind.{Kind}
use Rattle.tag_pool.specs.declared.pool.Pool.{Pool}
use Rattle.tag_pool.specs.Hands.{map_of, caller_of}

-- in each set the steps of both hands are part of one history
abbrev pub ShareHistories : {R : Type 0} → Pool R → Hand R → Hand R → Type 0
ShareHistories pool first second = (kind : Kind)
    → ShareHistory (map_of pool kind).shape (record_of (caller_of first kind)) (record_of (caller_of second kind))
