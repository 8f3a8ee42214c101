-- Resizes: which are refused, and the state after one.
use Rattle.std.specs.Prelude.{◌≡◌, ℕ, ◌≤◌, true, Result, Ok, Err}
use Rattle.tag_pool.specs.Resizing.{HasRange, IsOutOfRange}
use Rattle.tag_pool.specs.declared.resizes.ResizeCause.{ResizeCause}
use Rattle.tag_pool.specs.declared.resizes.ResizeCause.TheVariants.{DepthTooLarge, InUse, Waiting}
use Rattle.tag_board.specs.States.{State, held_in, posted_in, standing_in}
use Rattle.tag_board.specs.Replays.{NobodyHolds}
use Rattle.tag_board.specs.AloneSets.{AloneResizes}

-- no tag is held, and none is posted
abbrev pub AreUnused : State → Type 0
AreUnused s = (held_in s ≡ 0) × (posted_in s ≡ 0)

-- the first cause that holds, in this order: the total out of range, tags in use, callers in a wait group
abbrev pub RefusesResize : State → ℕ → ResizeCause → Type 0
RefusesResize s total DepthTooLarge = IsOutOfRange total s.terms.reserved
RefusesResize s total (InUse held posted) =
    HasRange total s.terms.reserved × ¬ (AreUnused s) × (held ≡ held_in s) × (posted ≡ posted_in s)
RefusesResize s total (Waiting count) =
    HasRange total s.terms.reserved × AreUnused s × (count ≡ standing_in s) × (1 ≤ count)
RefusesResize s total cause = ⊥

-- no cause to refuse the resize holds
abbrev pub MayResize : State → ℕ → Type 0
MayResize s total = HasRange total s.terms.reserved × AreUnused s × (standing_in s ≡ 0)

-- a resize: the total changes, and no caller holds a tag; if there is one caller, it goes on with a new ordinary set and
-- the same reserved one; a refusal changes nothing
abbrev pub Resizes : ℕ → State → Result (Unit {0}) ResizeCause → State → Type 0
Resizes total old (Ok done) new =
    MayResize old total × (new ≡ record old { total = total; alone = new.alone }) × NobodyHolds new (λ tag. true)
    × (old.terms.callers ≡ 1 → AloneResizes total old.alone new.alone)
Resizes total old (Err cause) new = RefusesResize old total cause × (new ≡ old)
