-- How a pool is resized through its handle.
use Rattle.std.specs.Prelude.{◌++◌, ◌<◌, ◌≡◌, ◌≤◌}
use Rattle.tag_c.specs.Uses.{All, arc_value, Hand, HasRange, IsHandOf, List, MAX_DEPTH, None, Option, reserved_of, ReservedTooLarge, Some, Pool, TotalTooLarge, WantOfMemory, ℕ, ℤ}
use Rattle.tag_pool.specs.declared.resizes.ResizeCause.{ResizeCause}
use Rattle.tag_pool.specs.declared.resizes.ResizeCause.TheVariants.{Missing, DepthTooLarge, InUse as Used, Waiting, Memory}
use Rattle.tag_pool.specs.Resizing.{IsRefusedFor, IsResized, MayResize}
use Rattle.tag_pool.specs.Using.{AreUnchanged}
use Rattle.tag_c.specs.declared.object.Kind.{Kind}
use Rattle.tag_c.specs.declared.object.Kind.TheVariants.{Pool as IsPool}
use Rattle.tag_c.specs.declared.object.Object.{Object}
use Rattle.tag_c.specs.declared.status.Status.{Status}
use Rattle.tag_c.specs.declared.status.Status.TheVariants.{Done, BadHandle, HandsOut, HandLost, InUse, HandsWait, NotOpened}
use Rattle.tag_c.specs.Codes.{code_of}

-- the status for each cause
abbrev pub status_of_cause : ResizeCause → Status
status_of_cause (Missing number) = HandLost
status_of_cause DepthTooLarge = NotOpened TotalTooLarge
status_of_cause (Used held posted) = InUse
status_of_cause (Waiting count) = HandsWait
status_of_cause Memory = NotOpened WantOfMemory

-- all hands of the old tags, of which none is in use, continue with this total: the spare ones and those that had left,
-- in this order; now they are all spare
pub record Resizes (total : ℕ) (old : Pool ℕ) (spare : List (Hand ℕ)) (new : Pool ℕ) (resized : List (Hand ℕ)) : Type 0
  where
    pub left : List (Hand ℕ)
    pub own : All (IsHandOf old) (spare ++ left)
    pub may : MayResize old (spare ++ left) total
    pub is : IsResized old (spare ++ left) total new resized

-- the total is in range, and the tags' hands, the spare ones and those that had left, do not continue with it for this
-- cause; they are unchanged and spare
pub record Prevents (total : ℕ) (tags : Pool ℕ) (spare : List (Hand ℕ)) (cause : ResizeCause) (back : List (Hand ℕ))
    : Type 0 where
  pub range : HasRange total (reserved_of tags)
  pub left : List (Hand ℕ)
  pub own : All (IsHandOf tags) (spare ++ left)
  pub refused : IsRefusedFor tags (spare ++ left) total cause
  pub back_are : AreUnchanged (spare ++ left) back

-- why tags with these spare hands do not continue with this total, and which hands are spare then; for `HandsOut` only
-- that the total is in range: that a hand is out is not stated
abbrev pub RefusesResize : ℕ → Pool ℕ → List (Hand ℕ) → Status → List (Hand ℕ) → Type 0
RefusesResize total tags spare (NotOpened TotalTooLarge) back = (MAX_DEPTH < total) × (back ≡ spare)
RefusesResize total tags spare (NotOpened ReservedTooLarge) back =
    (total ≤ MAX_DEPTH) × (total < reserved_of tags) × (back ≡ spare)
RefusesResize total tags spare HandsOut back = HasRange total (reserved_of tags) × (back ≡ spare)
RefusesResize total tags spare HandLost back = (number : ℕ) × Prevents total tags spare (Missing number) back
RefusesResize total tags spare InUse back = (held : ℕ) × (posted : ℕ) × Prevents total tags spare (Used held posted) back
RefusesResize total tags spare HandsWait back = (count : ℕ) × Prevents total tags spare (Waiting count) back
RefusesResize total tags spare (NotOpened WantOfMemory) back = Prevents total tags spare Memory back
RefusesResize total tags spare _ back = ⊥

-- tags continue with this total, or stay the same for this reason
abbrev pub EndsResize : ℕ → Pool ℕ → List (Hand ℕ) → Status → Pool ℕ → List (Hand ℕ) → Type 0
EndsResize total old spare Done new back = Resizes total old spare new back
EndsResize total old spare status new back = RefusesResize total old spare status back × (new ≡ old)

-- a pool is resized or refused, and the code is that of the status; its hands keep tags on the same terms; on a hand the
-- call is refused, and nothing changes
abbrev pub ResizesAs : ℕ → ℤ → Kind → Kind → Type 0
ResizesAs total code (IsPool old) (IsPool new) = (status : Status) × (code ≡ code_of status)
    × EndsResize total (arc_value old.shared).tags old.spare.items status (arc_value new.shared).tags new.spare.items
    × ((arc_value new.shared).cache ≡ (arc_value old.shared).cache)
ResizesAs total code (IsPool old) new = ⊥
ResizesAs total code old new = (code ≡ code_of BadHandle) × (new ≡ old)

-- the same of a handle; through an empty one the call is refused, and nothing changes
abbrev pub ResizesBy : ℕ → ℤ → Option Object → Option Object → Type 0
ResizesBy total code None None = code ≡ code_of BadHandle
ResizesBy total code None (Some new) = ⊥
ResizesBy total code (Some old) None = ⊥
ResizesBy total code (Some old) (Some new) = ResizesAs total code old.kind new.kind
