-- What a claim of one place does.
use Rattle.std.specs.Prelude.{◌<◌, ◌^◌, ◌≡◌}
use Rattle.tag_core.specs.Uses.{bit_at, Layout, place_of, word_of, ℕ}
use Rattle.tag_core.specs.declared.caller.Caller.{Caller}
use Rattle.tag_core.specs.declared.step.Step.TheVariants.{Word}
use Rattle.tag_core.specs.declared.word_step.WordStep.TheVariants.{Claimed}
use Rattle.tag_core.specs.Callers.{Holds, Adds}

-- the caller claimed the place in one step, which found these 64 bits in the word: of all its tags there, the bit is 1
pub record ClaimsPlace {R : Type 0} (l : Layout) (word place found : ℕ) (old new : Caller R) : Type 0 where
  pub step : Adds (Word (Claimed word (2 ^ place) found)) old new
  pub fits : found < 2 ^ 64
  pub held : (tag : ℕ) → Holds old tag → word_of l tag ≡ word → bit_at found (place_of l tag) ≡ 1
