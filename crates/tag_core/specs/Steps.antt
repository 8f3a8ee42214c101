-- What a step on the words of a map finds, and what it leaves.
use Rattle.std.specs.Prelude.{◌-◌, ◌^◌, ◌∷◌, ◌≡◌}
use Rattle.tag_core.specs.Uses.{[], bit_and, bit_or, cond, List, nat_eq, trailing_zeros, w64, ℕ}
use Rattle.tag_core.specs.declared.word_step.WordStep.{WordStep}
use Rattle.tag_core.specs.declared.word_step.WordStep.TheVariants.{Look, LookAside, Claimed, Give, Put, Swap, Keep, Spill}

-- each word by its index, and each word's cleared set: 1 is taken, and 1 is set aside
pub record Words : Type 0 where
  pub word : ℕ → ℕ
  pub aside : ℕ → ℕ

-- the function, with another value at one index
abbrev pub changed_at : (ℕ → ℕ) → ℕ → ℕ → ℕ → ℕ
changed_at f at value i = cond (nat_eq i at) value (f i)

-- the bits of a word that are not bits of the mask
abbrev pub without : ℕ → ℕ → ℕ
without word mask = bit_and word (2 ^ 64 - 1 - mask)

-- the lowest bit of a mask that is not 0
abbrev pub least_bit : ℕ → ℕ
least_bit mask = 2 ^ trailing_zeros w64 mask

-- the step found what stands there
abbrev pub Finds : WordStep → Words → Type 0
Finds (Look i found) w = found ≡ w.word i
Finds (LookAside i found) w = found ≡ w.aside i
Finds (Claimed i mask found) w = found ≡ w.word i
Finds (Give i mask found) w = found ≡ w.word i
Finds (Put i mask found) w = found ≡ w.aside i
Finds (Swap i found) w = found ≡ w.aside i
Finds (Keep i mask) w = Unit {0}
Finds (Spill i mask found) w = found ≡ w.word i

-- the words after the step
abbrev pub words_after : WordStep → Words → Words
words_after (Look i found) w = w
words_after (LookAside i found) w = w
words_after (Claimed i mask found) w = record w { word = changed_at w.word i (bit_or (w.word i) mask) }
words_after (Give i mask found) w = record w { word = changed_at w.word i (without (w.word i) mask) }
words_after (Put i mask found) w = record w { aside = changed_at w.aside i (bit_or (w.aside i) mask) }
words_after (Swap i found) w = record w { aside = changed_at w.aside i 0 }
words_after (Keep i mask) w = w
words_after (Spill i mask found) w = record w { word = changed_at w.word i (without (w.word i) mask) }

-- the words after a list of steps, the oldest first
abbrev pub words_after_all : List WordStep → Words → Words
words_after_all [] w = w
words_after_all (step ∷ steps) w = words_after_all steps (words_after step w)

-- each step found what the words and the list's own earlier steps leave, the oldest first
abbrev pub Quiet : List WordStep → Words → Type 0
Quiet [] w = Unit {0}
Quiet (step ∷ steps) w = Finds step w × Quiet steps (words_after step w)
