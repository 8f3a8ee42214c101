-- The bit of one tag as a mask.
use Rattle.tag_bench.proofs.Uses.{IsWithin, Layout, one_shl, subst, sym, word_depth, word_of, ℕ}
use Rattle.std.proofs.Common.{◌≡◌, ◌*◌, ◌%◌, ◌^◌, ◌<◌}
use Rattle.std.proofs.Math.Pow.{pow-lt}

-- a tag's bit, as the code shifts it, is one that its word uses
pub bit-within : (l : Layout) (word tag place : ℕ) → word ≡ word_of l tag → place < word_depth l (word_of l tag)
    → place < 64 → IsWithin l word (1 * 2 ^ place % 2 ^ 64)
bit-within l word tag place is low small =
    subst (λ (m : ℕ). m < 2 ^ word_depth l word) (sym (one_shl place 64 small))
    (pow-lt (subst (λ (w : ℕ). place < word_depth l w) (sym is) low))
