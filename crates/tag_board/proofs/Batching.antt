-- The tags of a batch, by the places of its mask.
use Rattle.std.proofs.Common.{◌≡◌, ℕ, ◌+◌, ◌^◌, ◌<◌, ◌≤◌, true, nat_eq, Some, ⊎_elim, refl, sym, arith, eq-eqb}
use Rattle.tag_board.proofs.Uses.{cases_lt, bit_at_above, bit_at, is_in_run, NobodyElseHolds, State}
use Rattle.tag_board.proofs.Naming.{names_run}

module _ (first mask : ℕ) where
  -- a one in the mask is a tag of the batch
  pub in_run : (k : ℕ) → bit_at mask k ≡ 1 → is_in_run (Some (first, mask)) (first + k) ≡ true
  in_run k one = (names_run (Some (first, mask)) (first + k)).1 (k, refl, one)

  -- what holds for each one of the mask holds for the batch
  pub all_in_run : (s : State) (caller : ℕ) → mask < 2 ^ 64
      → ((k : ℕ) → k < 64 → bit_at mask k ≡ 1 → NobodyElseHolds s caller (nat_eq (first + k)))
      → NobodyElseHolds s caller (is_in_run (Some (first, mask)))
  all_in_run s caller fits each other tag ne named =
      let at = (names_run (Some (first, mask)) tag).0 named in let k : ℕ = at.0 in let one = at.2 in ⊎_elim
      (λ (low : k < 64). each k low one other tag ne (eq-eqb (first + k) tag (sym at.1)))
      (λ (high : 64 ≤ k). let none = bit_at_above mask 64 k fits high in absurd (omega arith))
      (cases_lt k 64)
