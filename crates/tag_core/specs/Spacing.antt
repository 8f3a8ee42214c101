-- Where the words stand by which callers wait, and the words, the cleared sets and the states of the tags. A spare word
-- at 0, the word of all who wait behind it and the clock of turns share 64 bytes; then come 64 berths, one for each
-- caller; and each word, its cleared set behind it, and then each state has 64 bytes of its own.
use Rattle.std.specs.Prelude.{◌*◌, ◌+◌}
use Rattle.tag_core.specs.Uses.{Layout, words, ℕ}

-- the index of a word by which callers wait
unfoldable pub bell_at : ℕ → ℕ
bell_at i = i + 1

-- that of all who wait
abbrev pub waiters_at : ℕ
waiters_at = bell_at 0

-- the clock of turns
abbrev pub clock_at : ℕ
clock_at = bell_at 1

-- a caller's berth
abbrev pub berth_at : ℕ → ℕ
berth_at caller = bell_at (caller + 7)

-- the index of a word in the table
unfoldable pub word_at : ℕ → ℕ
word_at i = 8 * (2 * i + 9)

-- the index of a word's cleared set in the table
unfoldable pub aside_at : ℕ → ℕ
aside_at i = 8 * (2 * i + 10)

-- the index of a tag's state in the table
unfoldable pub state_at : Layout → ℕ → ℕ
state_at l tag = 8 * (2 * words l + tag + 9)

-- the number of the table's words
unfoldable pub table_width : Layout → ℕ
table_width l = 8 * (2 * words l + l.depth + 9)
