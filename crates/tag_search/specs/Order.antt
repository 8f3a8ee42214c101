-- The order in which a search visits words, and tries the places of a word.
use Rattle.std.specs.Prelude.{ℕ, zero, suc, ◌+◌, ◌-◌, min, List, [], ◌∷◌, ◌++◌, Bool, cond}

-- `count` consecutive numbers from the first on
abbrev pub numbers_from : ℕ → ℕ → List ℕ
numbers_from first zero = []
numbers_from first (suc count) = first ∷ numbers_from (first + 1) count

-- the numbers from the first up to the end, exclusive
abbrev pub numbers : ℕ → ℕ → List ℕ
numbers first end = numbers_from first (end - first)

-- the numbers from the start to the limit and then, if wrap is set, those before the start
abbrev pub scan_order : ℕ → ℕ → Bool → List ℕ
scan_order start limit wrap = numbers start limit ++ cond wrap (numbers 0 (min start limit)) []

-- what a scan of all numbers below the count has left after so many
abbrev pub left_of_scan : ℕ → ℕ → ℕ → List ℕ
left_of_scan count start tried = numbers (start + tried) count ++ numbers (tried - (count - start)) (min start count)
