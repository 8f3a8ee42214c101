-- How a call changes plain words, bit by bit, and the invariant of plain words.
use Rattle.std.specs.Prelude.{◌<◌, ◌≡◌, ◌≢◌}
use Rattle.tag_search.specs.Uses.{bit_at, false, length, List, slice_index, true, word_depth, words, ℕ}
use Rattle.tag_search.specs.Plain.{Plain}
use Rattle.tag_search.specs.Pool.{Pool}

-- in this word the places of the set have this bit, and every other bit of the list is unchanged
pub record WritesBits (old new : List ℕ) (word : ℕ) (Places : ℕ → Type 0) (bit : ℕ) : Type 0 where
  pub there : (place : ℕ) → Places place → bit_at (slice_index new word) place ≡ bit
  pub beside : (place : ℕ) → ¬ Places place → bit_at (slice_index new word) place ≡ bit_at (slice_index old word) place
  pub others : (other : ℕ) → other ≢ word → slice_index new other ≡ slice_index old other

-- the place is in the mask
abbrev pub IsIn : ℕ → ℕ → Type 0
IsIn mask place = bit_at mask place ≡ 1

-- there is one entry for each word, no bit is set past a word's depth, and what is set aside is taken
pub record IsTidy (p : Plain) : Type 0 where
  pub word_count : length p.word ≡ words p.layout
  pub aside_count : length p.aside ≡ words p.layout
  pub within : (word place : ℕ) → bit_at (slice_index p.word word) place ≡ 1 → place < word_depth p.layout word
  pub taken : (word place : ℕ) → bit_at (slice_index p.aside word) place ≡ 1
      → bit_at (slice_index p.word word) place ≡ 1

-- each of the 64 places of every word is free, and none is set aside
pub record IsAllFree (p : Pool) : Type 0 where
  pub free : (word place : ℕ) → place < 64 → p.free word place ≡ true
  pub aside : (word place : ℕ) → p.aside word place ≡ false
