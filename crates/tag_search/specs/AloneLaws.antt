-- Laws of gets on a map of one caller: no other caller steps, so each get is the choice over what the caller's earlier
-- steps left.
use Rattle.std.specs.Prelude.{◌++◌, ◌∷◌, ◌≡◌}
use Rattle.tag_search.specs.Uses.{[], Layout, List, map, Option, Shape, Step, Word, Words, WordStep, ℕ}
use Rattle.tag_core.specs.Histories.{Cells, History, cells_of, IsLawful, steps_by}
use Rattle.tag_search.specs.Batch.{IsBatchGet, batch_words}
use Rattle.tag_search.specs.Choice.{IsChoice, IsBatchChoice}
use Rattle.tag_search.specs.Gets.{IsGet}
use Rattle.tag_search.specs.Pool.{pool_of}
use Rattle.tag_search.specs.Search.{Visit}

-- the words and slot states that one caller's steps, newest first, leave on a new map
abbrev pub cells_left : {R : Type 0} → List (Step R) → Cells
cells_left steps = cells_of (map (λ step. (0, step)) steps)

-- the words among them
abbrev pub words_left : {R : Type 0} → List (Step R) → Words
words_left steps = (cells_left steps).words

-- a caller's list, newest first, after these steps on words, oldest first
abbrev pub own_after : {R : Type 0} → List WordStep → List (Step R) → List (Step R)
own_after [] older = older
own_after (step ∷ steps) older = own_after steps (Word step ∷ older)

-- the history of a map of one caller, which made these steps on words right after the older ones, whatever it did since
pub record AreAlone {R : Type 0} (k : Shape) (h : History R) (newer older : List (Step R))
    (steps : List WordStep) : Type 0 where
  pub one : k.callers ≡ 1
  pub lawful : IsLawful k h
  pub own : steps_by 0 h ≡ newer ++ own_after steps older

-- a get by the only caller of a map answers the choice over what its older steps left, and leaves what the choice
-- leaves
abbrev pub AloneGetsChoose : Type 0 → Type 0
AloneGetsChoose R =
    (k : Shape) (h : History R) (newer older : List (Step R)) (steps : List WordStep) → AreAlone k h newer older steps
    → (l : Layout) (visits : List Visit) (answer : Option ℕ) → IsGet l visits answer steps
    → IsChoice l (pool_of (words_left older)) visits answer (pool_of (words_left (own_after steps older)))

-- the same for a get of several tags
abbrev pub AloneBatchesChoose : Type 0 → Type 0
AloneBatchesChoose R =
    (k : Shape) (h : History R) (newer older : List (Step R)) (steps : List WordStep) → AreAlone k h newer older steps
    → (l : Layout) (n first : ℕ) (answer : Option (ℕ × ℕ)) → IsBatchGet l n first answer steps
    → IsBatchChoice l n (pool_of (words_left older)) (batch_words l first) answer
    (pool_of (words_left (own_after steps older)))
