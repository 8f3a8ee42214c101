-- Sleepers that were told and are not up yet, as a caller in a round found them: each of them comes to every tag.
use Rattle.std.specs.Prelude.{◌-◌, ◌∷◌}
use Rattle.tag_core.specs.Waits.{bit_of}
use Rattle.tag_bell.specs.Uses.{[], Bell, Berth, bit_or, Caller, count_ones, List, LookAt, record_of, Sleeper, Step, Tell, Told, ℕ}
use Rattle.tag_bell.specs.Callers.{layout_of}

-- the bit of this caller if its berth shows a sleeper that was told, else 0
abbrev pub coming_bit : ℕ → Berth → ℕ
coming_bit whom (Told Sleeper turn) = bit_of whom
coming_bit whom found = 0

-- those that the caller found so since its last look at all who wait, a bit for each
abbrev pub coming_in : {R : Type 0} → List (Step R) → ℕ
coming_in [] = 0
coming_in (Bell (LookAt whom found) ∷ older) = bit_or (coming_in older) (coming_bit whom found)
coming_in (Bell (Tell whom waiter turn found) ∷ older) = coming_in older
coming_in (step ∷ older) = 0

-- for so many more its map has tags
abbrev pub room_of : {R : Type 0} → Caller R → ℕ
room_of caller = (layout_of caller).depth - count_ones (coming_in (record_of caller).steps)
