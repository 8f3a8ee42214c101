-- What a call saw by its own looks.
use Rattle.std.specs.Prelude.{◌++◌, ◌<◌, ◌∷◌, ◌≡◌, ◌≤◌, ◌⊎◌}
use Rattle.tag_bell.specs.Uses.{[], bit_at, Caller, Layout, length, List, Step, Word, ℕ}
use Rattle.tag_core.specs.declared.word_step.WordStep.{WordStep}
use Rattle.tag_core.specs.declared.word_step.WordStep.TheVariants.{Look, LookAside, Claimed, Give, Put, Swap, Keep, Spill}
use Rattle.tag_bell.specs.declared.spot.Spot.{Spot}
use Rattle.tag_bell.specs.Callers.{layout_of}
use Rattle.tag_bell.specs.Calls.{OnlyAdds}
use Rattle.tag_bell.specs.Waiting.{in_aside, in_word, IsInAside, IsInWord}

-- the step is a look that found a tag free at the spot
abbrev pub SeesOpen : WordStep → Spot → Type 0
SeesOpen (Look i found) = IsInWord i (λ bit. bit_at found bit ≡ 0)
SeesOpen (LookAside i found) = IsInAside i (λ bit. bit_at found bit ≡ 1)
SeesOpen (Claimed i mask found) = λ spot. ⊥
SeesOpen (Give i mask found) = λ spot. ⊥
SeesOpen (Put i mask found) = λ spot. ⊥
SeesOpen (Swap i found) = λ spot. ⊥
SeesOpen (Keep i mask) = λ spot. ⊥
SeesOpen (Spill i mask found) = λ spot. ⊥

-- it is a look that found this tag free
abbrev pub SeesFree : Layout → WordStep → ℕ → Type 0
SeesFree l look tag = (tag < l.depth) × (SeesOpen look (in_word l tag) ⊎ SeesOpen look (in_aside l tag))

-- these are steps on words
abbrev pub AreOnWords : {R : Type 0} → List (Step R) → Type 0
AreOnWords [] = Unit {0}
AreOnWords (Word step ∷ older) = AreOnWords older
AreOnWords (step ∷ older) = ⊥

-- the call made at most so many steps, all on words, and changed nothing else of its record
pub record OnlyLooks {R : Type 0} (most : ℕ) (old new : Caller R) : Type 0 where
  pub steps : List (Step R)
  pub only : OnlyAdds steps old new
  pub few : length steps ≤ most
  pub are : AreOnWords steps

-- one of the steps that the call made is a look that found a tag free
pub record SawFree {R : Type 0} (old new : Caller R) : Type 0 where
  pub newer : List (Step R)
  pub older : List (Step R)
  pub look : WordStep
  pub tag : ℕ
  pub only : OnlyAdds (newer ++ Word look ∷ older) old new
  pub free : SeesFree (layout_of old) look tag
