-- The tags of a mask as a mask of another window.
use Rattle.tag_cache.proofs.Uses.{and_le_l, ap, arith, bit_and, bit_at, bit_at-lt, bit_at_and, bit_at_not, bit_from, bit_not, IsIn, mask_bit, place_one, sym, tags_in, w64, ℕ, ◌∙◌}
use Rattle.std.specs.Prelude.{All, ◌%◌, ◌*◌, ◌+◌, ◌-◌, ◌/◌, ◌<◌, ◌^◌, ◌↔◌, ◌≡◌, ◌≤◌}
use Rattle.tag_pool.proofs.MaskHolds.{all_in, each_in}
use Rattle.tag_pool.proofs.MaskParts.{moved_up, moved_down}
use Rattle.tag_cache.proofs.Windows.{bit_low, below_end, emptied, none_in, not_set}

module _ (start first mask : ℕ) (fits : mask < 2 ^ 64) (tag : ℕ) where
  at : start ≤ tag → start + (tag - start) ≡ tag
  at le = omega arith

  -- a window that begins before the mask's
  pub up_in : start < first → IsIn start (mask * 2 ^ (first - start) % 2 ^ 64) tag
      ↔ (IsIn first mask tag × ((start ≤ tag) × (tag < start + 64)))
  up_in less = (
    (λ i. let low = bit_low (mask * 2 ^ (first - start) % 2 ^ 64) (tag - start) (omega arith) i.1 in let above = i.0 in (
      place_one first mask tag (ap (mask_bit first mask) (sym (at i.0))
          ∙ sym (moved_up first mask start (tag - start) (omega arith) low) ∙ i.1),
      (above, omega arith),
    )),
    (λ w. let above = w.1.0 in let below = w.1.1 in (
      above,
      moved_up first mask start (tag - start) (omega arith) (omega arith)
          ∙ ap (mask_bit first mask) (at above) ∙ bit_from first mask tag w.0.0 ∙ w.0.1,
    )),
  )

  -- one that begins behind it, or with it
  pub down_in : first ≤ start → IsIn start (mask / 2 ^ (start - first)) tag
      ↔ (IsIn first mask tag × ((start ≤ tag) × (tag < start + 64)))
  down_in le = (
    (λ i. let above = i.0 in
        let is = place_one first mask tag (ap (mask_bit first mask) (sym (at i.0))
        ∙ sym (moved_down first mask start (tag - start) le) ∙ i.1) in
        let end = below_end first mask tag fits is in (is, (above, omega arith))),
    (λ w. (
      w.1.0,
      moved_down first mask start (tag - start) le ∙ ap (mask_bit first mask) (at w.1.0)
          ∙ bit_from first mask tag w.0.0 ∙ w.0.1,
    )),
  )

-- the tags of one mask of a window without those of another
module _ (first mask other : ℕ) (fits : mask < 2 ^ 64) (narrow : other < 2 ^ 64) (tag : ℕ) where
  pub left_out : IsIn first (bit_and mask (bit_not w64 other)) tag → IsIn first mask tag × ¬ (IsIn first other tag)
  left_out i = let both = bit_at_and mask (bit_not w64 other) (tag - first) in let one = i.1 in
      let l = bit_at-lt mask (tag - first) in let n = bit_at-lt (bit_not w64 other) (tag - first) in
      let was : bit_at mask (tag - first) ≡ 1 = omega arith in
      let flip = bit_at_not w64 other (tag - first) narrow (bit_low mask (tag - first) fits was) in
      ((i.0, was), λ o. let set = o.1 in omega arith)

  pub stays_out : IsIn first mask tag → ¬ (IsIn first other tag) → IsIn first (bit_and mask (bit_not w64 other)) tag
  stays_out i out = let both = bit_at_and mask (bit_not w64 other) (tag - first) in let one = i.1 in
      let flip = bit_at_not w64 other (tag - first) narrow (bit_low mask (tag - first) fits i.1) in
      let zero = not_set first other tag i.0 out in (i.0, omega arith)

-- a window and a mask have no tag in common exactly if they have no bit in common there
module _ (start own first mask inside : ℕ) (narrow : own < 2 ^ 64) (fits : mask < 2 ^ 64)
    (is : (tag : ℕ) → IsIn start inside tag ↔ (IsIn first mask tag × ((start ≤ tag) × (tag < start + 64)))) where
  in_neither : bit_and own inside ≡ 0 → All (λ tag. ¬ (IsIn start own tag)) (tags_in first mask)
  in_neither zero = all_in first mask fits (λ tag. ¬ (IsIn start own tag)) (λ tag one i.
      let there = (is tag).1 (place_one first mask tag one, (i.0, below_end start own tag narrow i)) in
      let both = bit_at_and own inside (tag - start) in let set = i.1 in let set' = there.1 in
      none_in start (bit_and own inside) tag zero (i.0, omega arith))

  pub no_common : (bit_and own inside ≡ 0) ↔ All (λ tag. ¬ (IsIn start own tag)) (tags_in first mask)
  no_common = (
    in_neither,
    λ none. emptied start (bit_and own inside) (let le = and_le_l own inside in omega arith)
        (λ tag i. let both = bit_at_and own inside (tag - start) in let one = i.1 in
        let l = bit_at-lt own (tag - start) in let m = bit_at-lt inside (tag - start) in
        let there : IsIn start inside tag = (i.0, omega arith) in let w = ((is tag).0 there).0 in
        each_in first mask fits (λ t. ¬ (IsIn start own t)) none tag (bit_from first mask tag w.0 ∙ w.1)
        (i.0, omega arith)),
  )
