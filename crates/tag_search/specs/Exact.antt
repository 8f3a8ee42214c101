-- A get of one given tag.
use Rattle.std.specs.Prelude.{◌∷◌, ◌≡◌, ◌≤◌, IfSome}
use Rattle.tag_search.specs.Uses.{[], Layout, length, List, Option, place_of, word_of, WordStep, ℕ}
use Rattle.tag_search.specs.Gets.{IsGet}
use Rattle.tag_search.specs.Search.{most_turns, Visit}

-- the only visit: of the tag's word, where its place alone is tried
abbrev pub visits_at : Layout → ℕ → List Visit
visits_at l tag = record { word = word_of l tag; rank = place_of l tag ∷ []; turns = most_turns } ∷ []

-- the most steps: a pass, which is a load and a claim, and four turns, each a sweep of three steps and a pass
abbrev pub most_exact_steps : ℕ
most_exact_steps = 22

-- the steps are a get that visits the tag's place alone, and answers this tag or none; however many tags the map has, the
-- steps are few
pub record IsExactGet (l : Layout) (tag : ℕ) (answer : Option ℕ) (steps : List WordStep) : Type 0 where
  pub get : IsGet l (visits_at l tag) answer steps
  pub only : IfSome answer (λ won. won ≡ tag)
  pub bound : length steps ≤ most_exact_steps
