-- A plain get that is left after its first try.
use Rattle.std.specs.Prelude.{◌<◌, ◌≡◌}
use Rattle.tag_search.specs.Uses.{[], false, Layout, List, Option, Some, total, word_depth, word_of, WordStep, ℕ}
use Rattle.tag_search.specs.declared.hint.Hint.{Hint}
use Rattle.tag_search.specs.declared.search.Unfinished.{Unfinished}
use Rattle.tag_search.specs.declared.search.Unfinished.TheVariants.{NotBegun, Full, Lost}
use Rattle.tag_search.specs.declared.pass.Missed.{Missed}
use Rattle.tag_search.specs.declared.pass.Missed.TheVariants.{Full as NoneClear, Lost as LostIn}
use Rattle.tag_search.specs.declared.rank.Rank.{Rank}
use Rattle.tag_search.specs.Freed.{spilled}
use Rattle.tag_search.specs.Gets.{IsGet}
use Rattle.tag_search.specs.Hints.{reduced}
use Rattle.tag_search.specs.Order.{numbers}
use Rattle.tag_search.specs.Places.{places_of}
use Rattle.tag_search.specs.Search.{Visit}
use Rattle.tag_search.specs.Tries.{IsMissed, Completes}
use Rattle.tag_search.specs.Visits.{places_in, plain_visits}

-- the visits of a get from this hint
abbrev pub visits_from : Layout → Hint → List Visit
visits_from l hint = plain_visits l hint.round_robin (reduced l.depth hint.at)

-- all places of the hint's word, in order
abbrev pub all_places_of : Layout → Hint → List ℕ
all_places_of l hint = places_in l (word_of l hint.at)

-- only a get without round robin, from a hint below the depth, makes a first try
abbrev pub CanTry : Layout → Hint → Type 0
CanTry l hint = (hint.at < l.depth) × (hint.round_robin ≡ false)

-- a get can be finished so: it made a first try only if it could
abbrev pub CanFinish : Layout → Hint → Unfinished → Type 0
CanFinish l hint NotBegun = Unit {0}
CanFinish l hint Full = CanTry l hint
CanFinish l hint (Lost from found) = CanTry l hint

-- the steps of a first try in the word of the hint, which won nothing
abbrev pub MissesFirst : Layout → Hint → Missed → List WordStep → Type 0
MissesFirst l hint missed steps = IsMissed (word_of l hint.at) (all_places_of l hint) missed steps

-- the first try found this word by a claim that it lost, and the places from this one on are left
pub record LosesFirst (l : Layout) (hint : Hint) (from found : ℕ) (steps : List WordStep) : Type 0 where
  pub rest : Rank
  pub left : places_of rest ≡ numbers from (word_depth l (word_of l hint.at))
  pub missed : MissesFirst l hint (LostIn rest found) steps

-- the get has made these steps: none, or those of a first try that found the word full, or lost its claim
abbrev pub IsBegun : Layout → Hint → Unfinished → List WordStep → Type 0
IsBegun l hint NotBegun steps = steps ≡ []
IsBegun l hint Full steps = MissesFirst l hint NoneClear steps
IsBegun l hint (Lost from found) steps = LosesFirst l hint from found steps

-- these steps complete any by which the get began to a get with this answer
abbrev pub IsRestOfGet : Layout → Hint → Unfinished → Option ℕ → List WordStep → Type 0
IsRestOfGet l hint rest answer steps = Completes (IsBegun l hint rest) (IsGet l (visits_from l hint) answer) steps

-- the steps of a get that won this tag at its first try: they freed no tag
pub record IsWonAtOnce (l : Layout) (hint : Hint) (tag : ℕ) (steps : List WordStep) : Type 0 where
  pub get : IsGet l (visits_from l hint) (Some tag) steps
  pub freed : total spilled steps ≡ 0
