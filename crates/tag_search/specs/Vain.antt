-- Gets that find no tag: they tried each one.
use Rattle.std.specs.Prelude.{◌≡◌, ◌⊎◌}
use Rattle.tag_search.specs.Uses.{Caller, false, Layout, place_of}
use Rattle.tag_core.specs.declared.berth.Waiter.{Waiter}
use Rattle.tag_bell.specs.Callers.{HasTriedAll, OwesNothing}
use Rattle.tag_search.specs.declared.hint.Hint.{Hint}
use Rattle.tag_search.specs.Hints.{reduced}

-- a get from this hint tries each tag: without round robin, or from the first place of a word
abbrev pub TriesAll : Layout → Hint → Type 0
TriesAll l hint = (hint.round_robin ≡ false) ⊎ (place_of l (reduced l.depth hint.at) ≡ 0)

-- the caller may sleep: it tried each tag in vain, and has to see to none
abbrev pub MaySleep : {R : Type 0} → Caller R → Type 0
MaySleep caller = HasTriedAll caller × ((kind : Waiter) → OwesNothing kind caller)
