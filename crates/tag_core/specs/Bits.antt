-- What a tag's place shows in the words, in its state and in the masks of a caller: 1 or 0.
use Rattle.tag_core.specs.Uses.{Aside, Free, Held, nat_eq, one_if, Place, Posted, suc, Sweep, zero, ℕ}

-- the tag's bit in `word`: 1 is taken
abbrev pub word_bit : Place → ℕ
word_bit Free = 0
word_bit (Held caller) = 1
word_bit Posted = 1
word_bit Aside = 1
word_bit (Sweep caller) = 1

-- the tag's bit in `cleared`
abbrev pub aside_bit : Place → ℕ
aside_bit Free = 0
aside_bit (Held caller) = 0
aside_bit Posted = 0
aside_bit Aside = 1
aside_bit (Sweep caller) = 0

-- the tag's state
abbrev pub posted_bit : Place → ℕ
posted_bit Free = 0
posted_bit (Held caller) = 0
posted_bit Posted = 1
posted_bit Aside = 0
posted_bit (Sweep caller) = 0

-- the word of a tag's state: 0 if the tag is not posted, else one more than its note
abbrev pub state_word : ℕ → ℕ → ℕ
state_word zero note = 0
state_word (suc posted) note = suc note

-- 1 if a tag whose state has this word is posted, else 0
abbrev pub posted_by_word : ℕ → ℕ
posted_by_word zero = 0
posted_by_word (suc note) = 1

-- the tag's bit in the caller's held set
abbrev pub held_bit : ℕ → Place → ℕ
held_bit who Free = 0
held_bit who (Held caller) = one_if (nat_eq caller who)
held_bit who Posted = 0
held_bit who Aside = 0
held_bit who (Sweep caller) = 0

-- the tag's bit in the caller's sweep
abbrev pub sweep_bit : ℕ → Place → ℕ
sweep_bit who Free = 0
sweep_bit who (Held caller) = 0
sweep_bit who Posted = 0
sweep_bit who Aside = 0
sweep_bit who (Sweep caller) = one_if (nat_eq caller who)
