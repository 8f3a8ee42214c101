-- Which steps are a search for several adjacent tags in one word.
use Rattle.std.specs.Prelude.{◌*◌, ◌++◌, ◌+◌, ◌-◌, ◌/◌, ◌<◌, ◌^◌, ◌∷◌, ◌≡◌, ◌≢◌, ◌≤◌}
use Rattle.tag_search.specs.Uses.{[], Claimed, Layout, length, List, Look, None, Option, Quiet, Some, tag_at, true, without, word_bits, word_depth, Words, words, words_after_all, WordStep, ℕ}
use Rattle.tag_layout.specs.Bits.{IsFirstClear}
use Rattle.tag_search.specs.Pool.{pool_of}
use Rattle.tag_search.specs.Choice.{IsBatchChoice}
use Rattle.tag_search.specs.Order.{scan_order}
use Rattle.tag_search.specs.Search.{IsSweep}

-- the mask of n bits from a place on
abbrev pub run_mask : ℕ → ℕ → ℕ
run_mask n place = (2 ^ n - 1) * 2 ^ place

-- the bits won by a claim of the run, shifted so that the first place is the lowest bit
abbrev pub run_won : ℕ → ℕ → ℕ → ℕ
run_won n place found = without (run_mask n place) found / 2 ^ place

-- the place is the first clear one of the word, and the word has n places from it on
pub record HasRunAt (depth n found place : ℕ) : Type 0 where
  pub first : IsFirstClear found 0 depth place
  pub fits : place + n ≤ depth

-- a sweep and a load of the word's 64 bits
pub data IsSweptLook (i found : ℕ) : List WordStep → Type 0 where
  swept_look : {mask : ℕ} {sweep : List WordStep} → IsSweep i mask sweep → found < 2 ^ 64
      → IsSweptLook i found (sweep ++ Look i found ∷ [])

-- a sweep and a load and, if the word has n places from its first clear one on, one claim of them
pub data IsBatchVisit (i depth n : ℕ) : List WordStep → Option (ℕ × ℕ) → Type 0 where
  no_run : {found : ℕ} {steps : List WordStep} → IsSweptLook i found steps
      → ((place : ℕ) → IsFirstClear found 0 depth place → depth < place + n) → IsBatchVisit i depth n steps None
  run_lost : {found place : ℕ} {steps : List WordStep} (next : ℕ) → IsSweptLook i found steps
      → HasRunAt depth n found place → without (run_mask n place) next ≡ 0
      → IsBatchVisit i depth n (steps ++ Claimed i (run_mask n place) next ∷ []) None
  run_taken : {found place : ℕ} {steps : List WordStep} (next : ℕ) → IsSweptLook i found steps
      → HasRunAt depth n found place → without (run_mask n place) next ≢ 0
      → IsBatchVisit i depth n (steps ++ Claimed i (run_mask n place) next ∷ []) (Some (place, run_won n place next))

-- the words in order, up to the first in which a claim wins; the answer is the first tag of its run with the bits won,
-- or none after the last word
pub data IsBatchSearch (l : Layout) (n : ℕ) : List ℕ → List WordStep → Option (ℕ × ℕ) → Type 0 where
  batch_over : IsBatchSearch l n [] [] None
  batch_won : {i : ℕ} {is : List ℕ} {steps : List WordStep} {place bits : ℕ}
      → IsBatchVisit i (word_depth l i) n steps (Some (place, bits))
      → IsBatchSearch l n (i ∷ is) steps (Some (tag_at l i place, bits))
  batch_passed : {i : ℕ} {is : List ℕ} {steps rest : List WordStep} {answer : Option (ℕ × ℕ)}
      → IsBatchVisit i (word_depth l i) n steps None → IsBatchSearch l n is rest answer
      → IsBatchSearch l n (i ∷ is) (steps ++ rest) answer

-- the words in cyclic order from the first
abbrev pub batch_words : Layout → ℕ → List ℕ
batch_words l first = scan_order first (words l) true

-- the steps visit the words in cyclic order from the first, up to one that wins; if no other caller stepped, the answer
-- and the pool afterwards are the choice; and the number of steps is bounded, not counting loads that are in no list
pub record IsBatchGet (l : Layout) (n first : ℕ) (answer : Option (ℕ × ℕ)) (steps : List WordStep) : Type 0 where
  pub search : IsBatchSearch l n (batch_words l first) steps answer
  pub alone : (w : Words) → Quiet steps w
      → IsBatchChoice l n (pool_of w) (batch_words l first) answer (pool_of (words_after_all steps w))
  pub bound : length steps ≤ 2 * l.depth + 5 * words l + 3 * (word_bits l + 4)
