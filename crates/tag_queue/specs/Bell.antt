-- Hands that do not wait by the bell.
use Rattle.tag_core.specs.Callers.{IsAmongWaiters}
use Rattle.tag_pool.specs.Hands.{caller_of}
use Rattle.tag_pool.specs.declared.hand.Hand.{Hand}
use Rattle.tag_pool.specs.declared.kind.Kind.{Kind}

-- by its own steps the hand is among those that wait in no set
abbrev pub WaitsNowhere : {R : Type 0} → Hand R → Type 0
WaitsNowhere hand = (kind : Kind) → ¬ IsAmongWaiters (caller_of hand kind)
