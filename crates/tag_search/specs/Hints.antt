-- The tag at which the next search begins, by the rules of lib/sbitmap.c.
use Rattle.std.specs.Prelude.{ℕ, zero, suc, ◌+◌, ◌-◌, ◌%◌, Bool, false, cond, nat_eq, nat_lt, Option, Some, None, ◌||◌}

-- the tag at which a search begins: the hint modulo the depth, or 0 if there are no tags
abbrev pub reduced : ℕ → ℕ → ℕ
reduced zero at = 0
reduced (suc depth) at = at % suc depth

-- the tag after this one, or 0 if that would be the last tag or past it
abbrev pub next_hint : ℕ → ℕ → ℕ
next_hint depth tag = cond (nat_lt (tag + 1) (depth - 1)) (tag + 1) 0

-- the hint after a search from this one: 0 if it found none, the next tag if it won the hint itself or under round
-- robin, and otherwise unchanged
abbrev pub hint_after_get : ℕ → Bool → ℕ → Option ℕ → ℕ
hint_after_get depth round_robin hint None = 0
hint_after_get depth round_robin hint (Some tag) = cond (round_robin || nat_eq tag hint) (next_hint depth tag) hint

-- the hint after a batch get of n from this hint
abbrev pub hint_after_batch : ℕ → ℕ → ℕ → Option (ℕ × ℕ) → ℕ
hint_after_batch depth n hint None = hint
hint_after_batch depth n hint (Some won) = hint_after_get depth false hint (Some (won.0 + n - 1))
