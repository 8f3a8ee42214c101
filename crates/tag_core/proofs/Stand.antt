-- The words by which callers wait, words, cleared sets and states stand apart in the table, and tags in their words.
use Rattle.std.specs.Prelude.{◌*◌, ◌+◌, ◌<◌, ◌^◌, ◌≡◌, ◌≢◌}
use Rattle.tag_core.proofs.Uses.{arith, bit_at, bit_at_above, div-add-mod', IsWithin, Layout, MAX_CALLERS, place_of, place_of-below, place_of-tag_at, pow_below, sym, tag_at, tag_at-below, word_bits, word_depth, word_of, word_of-tag_at, words, ℕ, ◌∙◌}
use Rattle.tag_core.specs.Spacing.{aside_at, bell_at, berth_at, clock_at, state_at, table_width, waiters_at, word_at}

-- the words by which callers wait stand at different indexes
pub bell_at_one : (i j : ℕ) → bell_at i ≡ bell_at j → i ≡ j
unfolding bell_at
bell_at_one i j e = omega arith

pub berth_at_one : (i j : ℕ) → berth_at i ≡ berth_at j → i ≡ j
berth_at_one i j e = let same = bell_at_one (i + 7) (j + 7) e in omega arith

-- none of them stands at the index of a word
pub bell_no_word : (i j : ℕ) → i < 71 → bell_at i ≢ word_at j
unfolding bell_at word_at
bell_no_word i j h e = omega arith

-- nor at that of a cleared set
pub bell_no_aside : (i j : ℕ) → i < 71 → bell_at i ≢ aside_at j
unfolding bell_at aside_at
bell_no_aside i j h e = omega arith

-- nor at that of a state
pub bell_no_state : (l : Layout) (i j : ℕ) → i < 71 → bell_at i ≢ state_at l j
unfolding bell_at state_at
bell_no_state l i j h e = omega arith

-- each of them stands in the table
pub bell_in : (l : Layout) (i : ℕ) → i < 71 → bell_at i < table_width l
unfolding bell_at table_width
bell_in l i h = omega arith

pub waiters_in : (l : Layout) → waiters_at < table_width l
waiters_in l = bell_in l 0 (omega arith)

pub clock_in : (l : Layout) → clock_at < table_width l
clock_in l = bell_in l 1 (omega arith)

pub berth_in : (l : Layout) (caller : ℕ) → caller < MAX_CALLERS → berth_at caller < table_width l
berth_in l caller low = bell_in l (caller + 7) (omega arith)

-- different words stand at different indexes
pub word_at_one : (i j : ℕ) → word_at i ≡ word_at j → i ≡ j
unfolding word_at
word_at_one i j e = omega arith

-- so do cleared sets
pub aside_at_one : (i j : ℕ) → aside_at i ≡ aside_at j → i ≡ j
unfolding aside_at
aside_at_one i j e = omega arith

-- so do states
pub state_at_one : (l : Layout) (i j : ℕ) → state_at l i ≡ state_at l j → i ≡ j
unfolding state_at
state_at_one l i j e = omega arith

-- no word stands at the index of a cleared set
pub word_no_aside : (i j : ℕ) → word_at i ≢ aside_at j
unfolding word_at aside_at
word_no_aside i j e = omega arith

-- nor at that of a state
pub word_no_state : (l : Layout) (i j : ℕ) → i < words l → word_at i ≢ state_at l j
unfolding word_at state_at
word_no_state l i j h e = omega arith

-- no cleared set stands at the index of a state
pub aside_no_state : (l : Layout) (i j : ℕ) → i < words l → aside_at i ≢ state_at l j
unfolding aside_at state_at
aside_no_state l i j h e = omega arith

-- each word stands in the table
pub word_in : (l : Layout) (i : ℕ) → i < words l → word_at i < table_width l
unfolding word_at table_width
word_in l i h = omega arith

-- each cleared set does
pub aside_in : (l : Layout) (i : ℕ) → i < words l → aside_at i < table_width l
unfolding aside_at table_width
aside_in l i h = omega arith

-- each state does
pub state_in : (l : Layout) (t : ℕ) → t < l.depth → state_at l t < table_width l
unfolding state_at table_width
state_in l t h = omega arith

-- where all of them stand
pub ruleset spread = (
  bell_at_one,
  bell_no_word,
  bell_no_aside,
  bell_no_state,
  bell_in,
  word_at_one,
  aside_at_one,
  state_at_one,
  word_no_aside,
  word_no_state,
  aside_no_state,
  word_in,
  aside_in,
  state_in,
)

-- the table has a word
pub some_width : (l : Layout) → 0 < table_width l
unfolding table_width
some_width l = omega arith

-- a tag is known by its word and its place there
pub same_tag : (l : Layout) (t u : ℕ) → word_of l t ≡ word_of l u → place_of l t ≡ place_of l u → t ≡ u
same_tag l t u e e' = let p : ℕ = word_bits l in sym (div-add-mod' t p) ∙ (λ z. e z * p + e' z) ∙ div-add-mod' u p

-- a bit of a mask within its word is that of a tag
pub bit_tag : (l : Layout) (i m b : ℕ) → IsWithin l i m → bit_at m b ≡ 1
    → (t : ℕ) × (t < l.depth) × (word_of l t ≡ i) × (place_of l t ≡ b)
bit_tag l i m b within one =
    let low : b < word_depth l i = grind (arith, bit_at_above) in let few : b < word_bits l = omega arith in
    (tag_at l i b, tag_at-below l i b low, word_of-tag_at l i b few, place_of-tag_at l i b few)

-- a tag's bit lies within its word
pub tag_mask_within : (l : Layout) (u : ℕ) → u < l.depth → 2 ^ place_of l u < 2 ^ word_depth l (word_of l u)
tag_mask_within l u h = pow_below (place_of l u) (word_depth l (word_of l u)) (place_of-below l u h)
