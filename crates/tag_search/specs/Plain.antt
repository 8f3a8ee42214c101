-- What a contract sees of a `PlainPort`, and the effect of its steps.
use Rattle.std.specs.Prelude.{◌≡◌}
use Rattle.tag_search.specs.Uses.{bit_at, Bool, Layout, List, place_of, Quiet, slice_index, word_of, Words, words_after_all, WordStep, ℕ}
use Rattle.tag_search.specs.Pool.{pool_of, is_busy}

-- the layout, each word, and the cleared set of each word, in order
pub record Plain : Type 0 where
  pub layout : Layout
  pub word : List ℕ
  pub aside : List ℕ

-- the words by their index
abbrev pub plain_words : Plain → Words
plain_words p = record { word = λ i. slice_index p.word i; aside = λ i. slice_index p.aside i }

-- no other caller steps: each step finds what the earlier steps left of the words, and the words afterwards are what
-- the steps leave
pub record RunsAlone (old : Plain) (steps : List WordStep) (new : Plain) : Type 0 where
  pub layout : new.layout ≡ old.layout
  pub quiet : Quiet steps (plain_words old)
  pub leaves : plain_words new ≡ words_after_all steps (plain_words old)

-- the tag is neither free nor set aside
abbrev pub is_busy_tag : Plain → ℕ → Bool
is_busy_tag p tag = is_busy (pool_of (plain_words p)) (word_of p.layout tag) (place_of p.layout tag)

-- the place is taken and not set aside
pub record IsTaken (p : Plain) (word place : ℕ) : Type 0 where
  pub taken : bit_at (slice_index p.word word) place ≡ 1
  pub not_aside : bit_at (slice_index p.aside word) place ≡ 0
