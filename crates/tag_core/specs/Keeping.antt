-- A sweep of which the caller keeps the least tag.
use Rattle.std.specs.Prelude.{◌<◌, ◌^◌, ◌≡◌, ◌≢◌}
use Rattle.tag_core.specs.Uses.{bit_at, IsWithin, Layout, ℕ}
use Rattle.tag_core.specs.declared.caller.Caller.{Caller}
use Rattle.tag_core.specs.declared.step.Step.TheVariants.{Word}
use Rattle.tag_core.specs.declared.word_step.WordStep.TheVariants.{Swap, Keep, Spill}
use Rattle.tag_core.specs.Steps.{without}
use Rattle.tag_core.specs.Callers.{AddsTwo, AddsThree}

-- the place is that of the lowest bit of the mask
pub record IsLeastIn (mask place : ℕ) : Type 0 where
  pub is : bit_at mask place ≡ 1
  pub least : (other : ℕ) → other < place → bit_at mask other ≡ 0

-- the caller swept a mask of the word, kept its least tag and freed the rest, if there was any
pub record KeepsLeast {R : Type 0} (l : Layout) (word place rest : ℕ) (old new : Caller R) : Type 0 where
  pub mask : ℕ
  pub within : IsWithin l word mask
  pub least : IsLeastIn mask place
  pub rest_is : rest ≡ without mask (2 ^ place)
  pub alone : rest ≡ 0 → AddsTwo (Word (Swap word mask)) (Word (Keep word (2 ^ place))) old new
  pub others : rest ≢ 0 → (found : ℕ)
      × AddsThree (Word (Swap word mask)) (Word (Keep word (2 ^ place))) (Word (Spill word rest found)) old new
