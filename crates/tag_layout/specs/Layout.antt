-- What a contract sees of a `Layout`, and the arithmetic of words, places, limits and batches.
use Rattle.std.specs.Prelude.{◌≡◌, ℕ, ◌+◌, ◌-◌, ◌*◌, ◌/◌, ◌%◌, ◌^◌, ◌<◌, ◌≤◌, min, max, Option, MatchOption, unwrap_or}

-- tags in all, and the binary logarithm of the bits in a whole word
pub record Layout : Type 0 where
  pub depth : ℕ
  pub shift : ℕ

-- bits in a whole word
abbrev pub word_bits : Layout → ℕ
word_bits l = 2 ^ l.shift

-- words in all, as many as the tags need
abbrev pub words : Layout → ℕ
words l = (l.depth + word_bits l - 1) / word_bits l

-- the word in which a tag stands
abbrev pub word_of : Layout → ℕ → ℕ
word_of l tag = tag / word_bits l

-- the tag's place in its word
abbrev pub place_of : Layout → ℕ → ℕ
place_of l tag = tag % word_bits l

-- the tag at a place of a word
abbrev pub tag_at : Layout → ℕ → ℕ → ℕ
tag_at l word place = word * word_bits l + place

-- the bits that a word uses, fewer than a whole word's in the last
abbrev pub word_depth : Layout → ℕ → ℕ
word_depth l word = min (word_bits l) (l.depth - word * word_bits l)

-- the mask has bits only at places that its word uses
abbrev pub IsWithin : Layout → ℕ → ℕ → Type 0
IsWithin l word mask = mask < 2 ^ word_depth l word

-- the greatest shift up to 6 with which there are as many whole words as hands, and at least four; 0 where there are fewer
-- tags than hands, and 6 where there are fewer than four
pub record IsShiftByHands (depth hands shift : ℕ) : Type 0 where
  pub within : shift ≤ 6
  pub enough : max hands 4 ≤ depth → max hands 4 * 2 ^ shift ≤ depth
  pub greatest : 4 ≤ depth → (other : ℕ) → other ≤ 6 → max hands 4 * 2 ^ other ≤ depth → other ≤ shift
  pub none : 4 ≤ depth → depth < hands → shift ≡ 0
  pub few : depth < 4 → shift ≡ 6

-- the shift by the kernel's rule, which asks for four whole words whatever the number of hands
abbrev pub IsDefaultShift : ℕ → ℕ → Type 0
IsDefaultShift depth shift = IsShiftByHands depth 4 shift

-- the shift that was asked for, or the default one for so many hands
abbrev pub HasShiftByHands : ℕ → ℕ → Option ℕ → ℕ → Type 0
HasShiftByHands depth hands asked shift = MatchOption asked (IsShiftByHands depth hands shift) (λ s. shift ≡ s)

-- the shift that was asked for, or the default one
abbrev pub HasShift : ℕ → Option ℕ → ℕ → Type 0
HasShift depth asked shift = HasShiftByHands depth 4 asked shift

-- the part of a shallow depth that falls to the first tags, rounded down
abbrev pub share : Layout → ℕ → ℕ → ℕ
share l shallow tags = min shallow l.depth * tags / l.depth

-- the part that a word's own tags have
abbrev pub shallow_limit : Layout → ℕ → ℕ → ℕ
shallow_limit l word shallow =
    let first = word * word_bits l in share l shallow (first + word_depth l word) - share l shallow first

-- an eighth of the depth, or of the least shallow depth where that is less, from 1 to 8
abbrev pub wake_batch : Layout → Option ℕ → ℕ
wake_batch l min_shallow = max 1 (min 8 (min l.depth (unwrap_or min_shallow l.depth) / 8))
