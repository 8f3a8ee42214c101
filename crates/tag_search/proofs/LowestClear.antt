-- The lowest clear bit of a word, as the count of the zeros below the lowest 1 of its complement.
use Rattle.std.specs.Prelude.{◌+◌, ◌-◌, ◌/◌, ◌<◌, ◌^◌, ◌≡◌}
use Rattle.tag_search.proofs.Uses.{ap, arith, bit_at, dec_lt, dite, IsFirstClear, subst, trailing_zeros, w64, ℕ}
use Rattle.tag_layout.proofs.Scans.{first_found, none_found}

module _ (bits : ℕ) (fits : bits < 2 ^ 64) where
  abbrev pub lowest_clear : ℕ
  lowest_clear = trailing_zeros w64 (2 ^ 64 - 1 - bits)

  from_zero : 0 + trailing_zeros w64 ((2 ^ 64 - 1 - bits) / 2 ^ 0) ≡ lowest_clear
  from_zero = let whole : (2 ^ 64 - 1 - bits) / 2 ^ 0 ≡ 2 ^ 64 - 1 - bits = omega arith in
      let same = ap (trailing_zeros w64) whole in omega (arith, same)

  pub lowest_found : lowest_clear < 64 → IsFirstClear bits 0 64 lowest_clear
  lowest_found below = subst (λ (place : ℕ). IsFirstClear bits 0 64 place) from_zero
      (first_found bits 0 64 fits (omega arith) (omega arith) (omega (arith, from_zero)))

  -- each bit below it is set
  pub set_below : (place : ℕ) → place < lowest_clear → place < 64 → bit_at bits place ≡ 1
  set_below place before low = dite (dec_lt lowest_clear 64)
      (λ (some : lowest_clear < 64). (lowest_found some).first place (omega arith) before)
      (λ none. none_found bits 0 64 fits (omega arith) (omega arith) (omega (arith, from_zero)) place (omega arith) low)
