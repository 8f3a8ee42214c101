-- Windows of tags: what is in one after a bit was set or cleared.
use Rattle.std.specs.Prelude.{◌%◌, ◌*◌, ◌+◌, ◌-◌, ◌<◌, ◌^◌, ◌↔◌, ◌≡◌, ◌≢◌, ◌≤◌, ◌⊎◌}
use Rattle.tag_cache.proofs.Uses.{and_le_l, ap, arith, bit_and, bit_at, bit_at-lt, bit_at-pow_other, bit_at-pow_same, bit_at-trailing_zeros, bit_at-zero, bit_at_above, bit_at_and, bit_at_clear_other, bit_at_clear_same, bit_at_or, bit_at_set_other, bit_at_set_same, bit_not, bit_or, cases_lt}
use Rattle.tag_cache.proofs.Uses.{count_ones, dite, inl, inr, IsIn, one_shl, or_lt, same_from_bits, subst, sym, trailing_zeros, w64, ℕ, ℕ_discrete, ⊎_elim, ◌∙◌}
use Rattle.tag_pool.proofs.RunMasks.{ones_more}

-- the mask without the bit at this place
abbrev pub without_bit : ℕ → ℕ → ℕ
without_bit mask place = bit_and mask (bit_not w64 (1 * 2 ^ place % 2 ^ 64))

-- the mask with the bit at this place
abbrev pub with_bit : ℕ → ℕ → ℕ
with_bit mask place = bit_or mask (1 * 2 ^ place % 2 ^ 64)

-- a place of a 64-bit mask is below 64
pub bit_low : (mask i : ℕ) → mask < 2 ^ 64 → bit_at mask i ≡ 1 → i < 64
bit_low mask i fits b = ⊎_elim (λ (l : i < 64). l)
    (λ (h : 64 ≤ i). let z = bit_at_above mask 64 i fits h in absurd (omega arith)) (cases_lt i 64)

module _ (mask place : ℕ) (fits : mask < 2 ^ 64) (low : place < 64) where
  bit_left : (i : ℕ) → bit_at (without_bit mask place) i ≡ 1 → bit_at mask i ≡ 1
  bit_left i b = let a = bit_at_and mask (bit_not w64 (1 * 2 ^ place % 2 ^ 64)) i in let l = bit_at-lt mask i in
      omega arith

  bit_other : (i : ℕ) → bit_at (without_bit mask place) i ≡ 1 → i ≢ place
  bit_other i b e = let z = bit_at_clear_same w64 mask place low in
      let c : bit_at (without_bit mask place) place ≡ 1 = ap (bit_at (without_bit mask place)) (sym e) ∙ b in omega arith

  bit_stays : (i : ℕ) → bit_at mask i ≡ 1 → i ≢ place → bit_at (without_bit mask place) i ≡ 1
  bit_stays i b ne = bit_at_clear_other w64 mask place low i (bit_low mask i fits b) ne ∙ b

  joined_back : bit_at mask place ≡ 1 → bit_or (without_bit mask place) (2 ^ place) ≡ mask
  joined_back b = same_from_bits _ _ (λ i. dite (ℕ_discrete i place)
      (λ (e : i ≡ place). let o = bit_at_or (without_bit mask place) (2 ^ place) place in
      let p = bit_at-pow_same place in let z = bit_at_clear_same w64 mask place low in
      let s : bit_at (bit_or (without_bit mask place) (2 ^ place)) place ≡ bit_at mask place = omega arith in
      ap (bit_at (bit_or (without_bit mask place) (2 ^ place))) e ∙ s ∙ ap (bit_at mask) (sym e))
      (λ (ne : i ≢ place). let o = bit_at_or (without_bit mask place) (2 ^ place) i in
      let p = bit_at-pow_other place i ne in ⊎_elim
      (λ (h : i < 64). let s = bit_at_clear_other w64 mask place low i h ne in omega arith)
      (λ (h : 64 ≤ i). let z = bit_at_above mask 64 i fits h in
      let a = bit_at_and mask (bit_not w64 (1 * 2 ^ place % 2 ^ 64)) i in omega arith) (cases_lt i 64)))

  pub ones_fewer : bit_at mask place ≡ 1 → count_ones mask ≡ count_ones (without_bit mask place) + 1
  ones_fewer b = let le = and_le_l mask (bit_not w64 (1 * 2 ^ place % 2 ^ 64)) in
      let small : without_bit mask place < 2 ^ 64 = omega arith in
      ap count_ones (sym (joined_back b)) ∙ ones_more (without_bit mask place) place small low
      (bit_at_clear_same w64 mask place low)

  module _ (first : ℕ) where
    -- the tags in the window are the former ones but that of the bit cleared
    pub left : (tag : ℕ) → IsIn first (without_bit mask place) tag ↔ (IsIn first mask tag × tag ≢ first + place)
    left tag = (
      (λ i. let ne = bit_other (tag - first) i.1 in
          ((i.0, bit_left (tag - first) i.1), (λ (e : tag ≡ first + place). ne (omega arith)))),
      (λ i. let above = i.0.0 in (above, bit_stays (tag - first) i.0.1 (λ (e : tag - first ≡ place). i.1 (omega arith)))),
    )

  module _ (none : bit_at mask place ≡ 0) where
    pub ones_added : count_ones (with_bit mask place) ≡ count_ones mask + 1
    ones_added = ap (λ (p : ℕ). count_ones (bit_or mask p)) (one_shl place 64 low) ∙ ones_more mask place fits low none

  module _ (first tag : ℕ) (above : first ≤ tag) (at : tag - first ≡ place) where
    pub now_in : IsIn first (with_bit mask place) tag
    now_in = (above, ap (bit_at (with_bit mask place)) at ∙ bit_at_set_same w64 mask place low)

    pub still_in : (other : ℕ) → IsIn first mask other → IsIn first (with_bit mask place) other
    still_in other i = (
      i.0,
      dite (ℕ_discrete (other - first) place)
          (λ (e : other - first ≡ place). ap (bit_at (with_bit mask place)) e ∙ bit_at_set_same w64 mask place low)
          (λ (ne : other - first ≢ place). bit_at_set_other w64 mask place low (other - first) ne ∙ i.1),
    )

    pub was_in : (other : ℕ) → IsIn first (with_bit mask place) other → IsIn first mask other ⊎ (other ≡ tag)
    was_in other i = dite (ℕ_discrete (other - first) place)
        (λ (e : other - first ≡ place). let low = i.0 in inr (omega arith))
        (λ (ne : other - first ≢ place). inl
        (i.0, sym (bit_at_set_other w64 mask place low (other - first) ne) ∙ i.1))

-- the least tag of a window is at its mask's least bit
module _ (first mask : ℕ) (some : 0 < mask) (fits : mask < 2 ^ 64) where
  pub least : (trailing_zeros w64 mask < 64) × (bit_at mask (trailing_zeros w64 mask) ≡ 1)
      × ((i : ℕ) → i < trailing_zeros w64 mask → bit_at mask i ≡ 0)
  least = bit_at-trailing_zeros w64 mask some fits

  pub least_in : IsIn first mask (first + trailing_zeros w64 mask)
  least_in = let same : trailing_zeros w64 mask ≡ first + trailing_zeros w64 mask - first = omega arith in
      (omega arith, subst (λ (i : ℕ). bit_at mask i ≡ 1) same least.1)

  pub least_is : (tag : ℕ) → IsIn first mask tag → first + trailing_zeros w64 mask ≤ tag
  least_is tag i = let above = i.0 in let bit = i.1 in ⊎_elim
      (λ (l : tag - first < trailing_zeros w64 mask). let z = least.2 (tag - first) l in absurd (omega arith))
      (λ (h : trailing_zeros w64 mask ≤ tag - first). omega arith) (cases_lt (tag - first) (trailing_zeros w64 mask))

-- nothing is in a window with an empty mask
pub none_in : (first mask tag : ℕ) → mask ≡ 0 → ¬ (IsIn first mask tag)
none_in first mask tag e i = let z = bit_at-zero (tag - first) in
    let b : bit_at 0 (tag - first) ≡ 1 = ap (λ (m : ℕ). bit_at m (tag - first)) (sym e) ∙ i.1 in omega arith

-- a mask is empty in every window, so the window of an empty one can be moved
pub same_window : (before first mask : ℕ) → (mask ≡ 0) ⊎ (first ≡ before) → (tag : ℕ)
    → IsIn before mask tag ↔ IsIn first mask tag
same_window before first mask side tag = ⊎_elim
    (λ (e : mask ≡ 0). ((λ i. absurd (none_in before mask tag e i)), (λ i. absurd (none_in first mask tag e i))))
    (λ (e : first ≡ before). (
      (λ i. subst (λ (f : ℕ). IsIn f mask tag) (sym e) i),
      (λ i. subst (λ (f : ℕ). IsIn f mask tag) e i),
    )) side

-- the bit of a tag that is not in the window is 0
pub not_set : (first mask tag : ℕ) → first ≤ tag → ¬ (IsIn first mask tag) → bit_at mask (tag - first) ≡ 0
not_set first mask tag above out = let l = bit_at-lt mask (tag - first) in
    let ne : bit_at mask (tag - first) ≢ 1 = λ b. out (above, b) in omega arith

pub popped_fits : (mask place : ℕ) → mask < 2 ^ 64 → without_bit mask place < 2 ^ 64
popped_fits mask place fits = let le = and_le_l mask (bit_not w64 (1 * 2 ^ place % 2 ^ 64)) in omega arith

pub joined_fits : (mask place : ℕ) → mask < 2 ^ 64 → with_bit mask place < 2 ^ 64
joined_fits mask place fits = or_lt 64 mask (1 * 2 ^ place % 2 ^ 64) fits (omega arith)

-- a mask with a tag in its window is not 0
pub some_in : (first mask tag : ℕ) → IsIn first mask tag → 0 < mask
some_in first mask tag i = ⊎_elim (λ (l : mask < 1). absurd (none_in first mask tag (omega arith) i))
    (λ (h : 1 ≤ mask). omega arith) (cases_lt mask 1)

-- a mask with no tag in its window is 0
pub emptied : (first mask : ℕ) → mask < 2 ^ 64 → ((tag : ℕ) → ¬ (IsIn first mask tag)) → mask ≡ 0
emptied first mask fits none = ⊎_elim (λ (l : mask < 1). omega arith)
    (λ (h : 1 ≤ mask). absurd (none (first + trailing_zeros w64 mask) (least_in first mask (omega arith) fits)))
    (cases_lt mask 1)

-- a tag of the window is below its end
pub below_end : (first mask tag : ℕ) → mask < 2 ^ 64 → IsIn first mask tag → tag < first + 64
below_end first mask tag fits i = let low = bit_low mask (tag - first) fits i.1 in let above = i.0 in omega arith

-- a tag that is not within 64 of the first one is not in the window
pub not_in : (first mask tag offset : ℕ) → mask < 2 ^ 64 → ((first ≤ tag) × (tag < first + 64) → offset < 64)
    → 64 ≤ offset → ¬ (IsIn first mask tag)
not_in first mask tag offset fits within far i = let near = within (i.0, below_end first mask tag fits i) in
    omega arith

-- the tags of a mask without the bit at an offset are the former ones without its tag
pub without_in : (first mask tag offset : ℕ) → mask < 2 ^ 64 → offset < 64 → first + offset ≡ tag → (other : ℕ)
    → IsIn first (without_bit mask offset) other ↔ (IsIn first mask other × other ≢ tag)
without_in first mask tag offset fits low e other = let l = left mask offset fits low first other in (
  (λ i. let a = l.0 i in (a.0, λ (x : other ≡ tag). a.1 (x ∙ sym e))),
  (λ a. l.1 (a.0, λ (x : other ≡ first + offset). a.1 (x ∙ e))),
)

-- the same of a tag that was not there
pub without_none : (first mask tag : ℕ) → ¬ (IsIn first mask tag) → (other : ℕ)
    → IsIn first mask other ↔ (IsIn first mask other × other ≢ tag)
without_none first mask tag out other = (
  (λ i. (i, λ (e : other ≡ tag). out (subst (λ (t : ℕ). IsIn first mask t) e i))),
  (λ a. a.0),
)

-- a mask without a tag is 0 exactly if it had no other
pub none_else : (first mask rest tag : ℕ) → rest < 2 ^ 64
    → ((other : ℕ) → IsIn first rest other ↔ (IsIn first mask other × other ≢ tag))
    → (rest ≡ 0) ↔ ((other : ℕ) → IsIn first mask other → other ≡ tag)
none_else first mask rest tag fits without = (
  (λ e other i. dite (ℕ_discrete other tag) (λ (s : other ≡ tag). s)
      (λ (ne : other ≢ tag). absurd (none_in first rest other e ((without other).1 (i, ne))))),
  (λ all. emptied first rest fits (λ other i. let a = (without other).0 i in a.1 (all other a.0))),
)
