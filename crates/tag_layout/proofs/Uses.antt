-- The names that several proofs use, of the library, the crates below and the definitions here.
pub use Rattle.std.proofs.Common.{ap, arith, bit_and, min, subst, suc, sym, zero, ℕ, ◌∙◌}
pub use Rattle.std.proofs.Math.Nat.{mul-div-le, mul-le-mul_left, mul-le-mul_right, pow-le-pow_right, pow-suc}
pub use Rattle.std.proofs.lemmas.Nat.{and_mask, div-add-mod', div-mul-add, le-div, mod-mul-add, mod_below, one_shl, pow_pos, shr-shr, shr_le}
pub use Rattle.std.proofs.lemmas.Nat.Bits.{bit_at-lt, bit_at-trailing_zeros, bit_at-zero, bit_at_not, bit_at_ones, bit_at_ones_above, ones_shr}
pub use Rattle.std.specs.Int.{bit_at, trailing_zeros, w64}
pub use mathlib.Core.Logic.{dite}
pub use native.Mathlib.Decide.{dec_lt}
pub use Rattle.sums.specs.Below.{sum_below}
pub use Rattle.tag_layout.specs.Layout.{IsShiftByHands, Layout, place_of, shallow_limit, share, tag_at, word_bits, word_depth, word_of, words}
