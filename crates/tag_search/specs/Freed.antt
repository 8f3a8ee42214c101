-- How many tags the sweeps of a caller freed, and how many of them it left free.
use Rattle.std.specs.Prelude.{◌-◌, ◌∷◌}
use Rattle.tag_search.specs.Uses.{[], bit_and, Caller, count_ones, List, record_of, slice_index_or, Spill, Step, total, Word, WordStep, ℕ}

-- the tags that a step on a word freed for a sweep
abbrev pub spilled : WordStep → ℕ
spilled (Spill i mask found) = count_ones mask
spilled _ = 0

-- the tags that any step freed for a sweep
abbrev pub spilled_by : {R : Type 0} → Step R → ℕ
spilled_by (Word step) = spilled step
spilled_by _ = 0

-- the tags that the caller's sweeps have freed on this map
abbrev pub freed_of : {R : Type 0} → Caller R → ℕ
freed_of c = total spilled_by (record_of c).steps

-- the word and the mask of the latest sweep that freed tags, after a step on a word
abbrev pub latest_after : WordStep → ℕ × ℕ → ℕ × ℕ
latest_after (Spill i mask found) latest = (i, mask)
latest_after _ latest = latest

-- the same after any step
abbrev pub latest_after_any : {R : Type 0} → Step R → ℕ × ℕ → ℕ × ℕ
latest_after_any (Word step) latest = latest_after step latest
latest_after_any _ latest = latest

-- the word and the mask of the latest sweep in a list of steps, newest first; no tags of word 0 if there is none
abbrev pub latest_in : {R : Type 0} → List (Step R) → ℕ × ℕ
latest_in [] = (0, 0)
latest_in (step ∷ steps) = latest_after_any step (latest_in steps)

-- how many tags of the mask the caller holds in the word
abbrev pub held_of : {R : Type 0} → Caller R → ℕ × ℕ → ℕ
held_of c latest = count_ones (bit_and latest.1 (slice_index_or (record_of c).held latest.0 0))

-- how many tags the caller's sweeps freed in between, less those of the latest sweep that it holds now
abbrev pub left_free : {R : Type 0} → Caller R → Caller R → ℕ
left_free old new = (freed_of new - freed_of old) - held_of new (latest_in (record_of new).steps)
