-- Notes: what a program says of a posted tag, for anybody to read.
use Rattle.std.specs.Prelude.{◌∷◌, ◌≡◌, ◌≢◌, Option}
use Rattle.tag_core.specs.Uses.{None, Posted, Some, suc, ℕ}
use Rattle.tag_core.specs.declared.shape.Shape.{Shape}
use Rattle.tag_core.specs.declared.step.Step.TheVariants.{ReadNote}
use Rattle.tag_core.specs.Histories.{History, IsLawful, cells_of, world_of}

-- what a load of a tag's state finds: 0 if the tag is not posted, else one more than its note
abbrev pub found_of : Option ℕ → ℕ
found_of None = 0
found_of (Some note) = suc note

-- the history leaves the tag posted, with this note
pub record HasNote {R : Type 0} (k : Shape) (h : History R) (tag note : ℕ) : Type 0 where
  pub posted : (world_of k h).place tag ≡ Posted
  pub note_is : (cells_of h).note tag ≡ note

-- what the history leaves of the tag is what was read: it is not posted, or it is, with this note
abbrev pub LeavesNote : {R : Type 0} → Shape → History R → ℕ → Option ℕ → Type 0
LeavesNote k h tag None = (world_of k h).place tag ≢ Posted
LeavesNote k h tag (Some note) = HasNote k h tag note

-- at the moment of this look, which comes after these lawful steps of all callers, the tag is as was read
abbrev pub IsTrueNote : Type 0 → Shape → ℕ → ℕ → Option ℕ → Type 0
IsTrueNote R k caller tag answer =
    (older : History R) → IsLawful k ((caller, ReadNote tag (found_of answer)) ∷ older) → LeavesNote k older tag answer
