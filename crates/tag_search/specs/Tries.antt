-- A pass that is left after its first try.
use Rattle.std.specs.Prelude.{◌++◌, ◌≡◌}
use Rattle.tag_search.specs.Uses.{[], count_ones, Give, List, None, Option, Put, Some, total, WordStep, ℕ}
use Rattle.tag_search.specs.declared.pass.Missed.{Missed}
use Rattle.tag_search.specs.declared.pass.Missed.TheVariants.{Full, Lost}
use Rattle.tag_search.specs.Freed.{spilled}
use Rattle.tag_search.specs.Places.{places_of}
use Rattle.tag_search.specs.Search.{IsTries, IsPass}

-- the places that the rest of the pass may try
abbrev pub left_to_try : Missed → List ℕ
left_to_try Full = []
left_to_try (Lost rest found) = places_of rest

-- these steps are the rest of the pass, with this answer
abbrev pub IsRestOfPass : ℕ → Missed → List WordStep → Option ℕ → Type 0
IsRestOfPass word Full steps answer = (steps ≡ []) × (answer ≡ None)
IsRestOfPass word (Lost rest found) steps answer = IsTries word (places_of rest) found steps answer

-- these steps complete any by which the first thing was done to some by which the second one is
abbrev pub Completes : (List WordStep → Type 0) → (List WordStep → Type 0) → List WordStep → Type 0
Completes Begun Done steps = (before : List WordStep) → Begun before → Done (before ++ steps)

-- how many tags the caller gives back by a step
abbrev pub given : WordStep → ℕ
given (Give i mask found) = count_ones mask
given (Put i mask found) = 1
given _ = 0

-- the steps of a first try that won nothing: with any rest they are a pass, and they freed no tag and gave none back
pub record IsMissed (word : ℕ) (rank : List ℕ) (missed : Missed) (steps : List WordStep) : Type 0 where
  pub goes_on : (rest : List WordStep) (answer : Option ℕ) → IsRestOfPass word missed rest answer
      → IsPass word rank (steps ++ rest) answer
  pub freed : total spilled steps ≡ 0
  pub kept : total given steps ≡ 0

-- the steps of a first try that won this place: they are a pass, and they freed no tag
pub record IsFirstWin (word : ℕ) (rank : List ℕ) (place : ℕ) (steps : List WordStep) : Type 0 where
  pub pass : IsPass word rank steps (Some place)
  pub freed : total spilled steps ≡ 0
