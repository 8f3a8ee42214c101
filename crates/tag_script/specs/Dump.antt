-- The held tags as a list, and as bytes.
use Rattle.std.specs.Prelude.{ℕ, zero, suc, ◌+◌, ◌*◌, ◌^◌, ◌&&◌, if◌then◌else◌, nat_lt, Bool, List, [], ◌∷◌, ◌++◌}
use Rattle.std.specs.Int.{div_ceil}
use Rattle.sums.specs.Below.{sum_below}
use Rattle.tag_script.specs.PlainWorld.{PlainWorld, is_held}

-- the numbers below n, ascending
abbrev pub range : ℕ → List ℕ
range zero = []
range (suc n) = range n ++ n ∷ []

-- the tag is in range, and the caller holds it
abbrev pub is_held_tag : PlainWorld → ℕ → Bool
is_held_tag w tag = nat_lt tag w.layout.depth && is_held w tag

-- the value of a bit of the byte at an offset: the bit is for the tag 8 * offset + bit
abbrev pub bit_value : PlainWorld → ℕ → ℕ → ℕ
bit_value w offset bit = if is_held_tag w (8 * offset + bit) then 2 ^ bit else 0

-- eight tags as a byte, the first in the low bit
abbrev pub held_byte : PlainWorld → ℕ → ℕ
held_byte w offset = sum_below (bit_value w offset) 8

-- the number of bytes for all tags, the last of which is padded with zeros
abbrev pub byte_count : PlainWorld → ℕ
byte_count w = div_ceil w.layout.depth 8
