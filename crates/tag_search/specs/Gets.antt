-- The steps of a get, and its answer.
use Rattle.std.specs.Prelude.{◌*◌, ◌+◌, ◌≤◌}
use Rattle.tag_search.specs.Uses.{Layout, length, List, Option, Quiet, word_bits, Words, words, words_after_all, WordStep, ℕ}
use Rattle.tag_search.specs.Pool.{pool_of}
use Rattle.tag_search.specs.Choice.{IsChoice}
use Rattle.tag_search.specs.Search.{Visit, IsSearch}

-- the steps are these visits and give this answer; if no other caller stepped, the answer is the choice, and the steps
-- leave what the choice leaves; and there are at most two claims of each tag, five more steps for each word, and three
-- turns more in the hint's word, not counting loads that are in no list
pub record IsGet (l : Layout) (visits : List Visit) (answer : Option ℕ) (steps : List WordStep) : Type 0 where
  pub search : IsSearch l visits steps answer
  pub alone : (w : Words) → Quiet steps w → IsChoice l (pool_of w) visits answer (pool_of (words_after_all steps w))
  pub bound : length steps ≤ 2 * l.depth + 5 * words l + 3 * (word_bits l + 4)
