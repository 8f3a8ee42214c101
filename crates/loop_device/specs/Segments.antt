-- The stamps of a row of sectors, as a segment tree that is split where stamps differ.
use Rattle.std.specs.Prelude.{◌≡◌, ℕ, ◌-◌, ◌/◌, ◌<◌, ◌≤◌, ◌⊎◌, max, Bool, true, ◌&&◌, ◌||◌, ◌==◌, nat_le, nat_lt, if◌then◌else◌}
use Rattle.loop_device.specs.declared.segments.Segments.{Segments}
use Rattle.loop_device.specs.declared.segments.Segments.TheVariants.{Leaf, Node'}

-- the values of two rows, one after the other; `half` is the width of the first
abbrev pub beside : ℕ → (ℕ → ℕ) → (ℕ → ℕ) → ℕ → ℕ
beside half low high at = if nat_lt at half then low at else high (at - half)

-- the stamp of a sector in a row of this width
abbrev pub stamp_at : ℕ → Segments → ℕ → ℕ
stamp_at width (Leaf stamp) at = stamp
stamp_at width (Node' greatest p low q high) at =
    beside (width / 2) (stamp_at (width / 2) low) (stamp_at (width - width / 2) high) at

-- the greatest stamp of the whole row, as recorded at its root
abbrev pub greatest_of : Segments → ℕ
greatest_of (Leaf stamp) = stamp
greatest_of (Node' greatest p low q high) = greatest

-- no row of fewer than two sectors is split, and each split records the greatest stamp of its halves
abbrev pub is_sound : ℕ → Segments → Bool
is_sound width (Leaf stamp) = true
is_sound width (Node' greatest p low q high) =
    nat_le 2 width && greatest == max (greatest_of low) (greatest_of high) && is_sound (width / 2) low
    && is_sound (width - width / 2) high

-- no part with a single stamp extends across this position
abbrev pub is_split_at : ℕ → Segments → ℕ → Bool
is_split_at width (Leaf stamp) at = at == 0 || at == width
is_split_at width (Node' greatest p low q high) at =
    if nat_lt at (width / 2) then is_split_at (width / 2) low at else is_split_at (width - width / 2) high (at - width / 2)

-- the greatest value from `first` up to but not including `end`, 0 if there is none
pub record IsGreatestWithin (value : ℕ → ℕ) (first end greatest : ℕ) : Type 0 where
  pub most : (at : ℕ) → first ≤ at → at < end → value at ≤ greatest
  pub reached : (greatest ≡ 0) ⊎ ((at : ℕ) × (first ≤ at) × (at < end) × (value at ≡ greatest))

-- each position from `first` up to but not including `end` has the stamp, and the rest of the row is unchanged
pub record IsStampedWithin (old new : ℕ → ℕ) (width first end stamp : ℕ) : Type 0 where
  pub inside : (at : ℕ) → first ≤ at → at < end → new at ≡ stamp
  pub below : (at : ℕ) → at < first → at < width → new at ≡ old at
  pub above : (at : ℕ) → end ≤ at → at < width → new at ≡ old at

-- the row has the same stamps, and is split wherever it was, and perhaps elsewhere
pub record IsRefined (width : ℕ) (old new : Segments) : Type 0 where
  pub sound : is_sound width new ≡ true
  pub stamps : (at : ℕ) → stamp_at width new at ≡ stamp_at width old at
  pub greatest : greatest_of new ≡ greatest_of old
  pub splits : (at : ℕ) → is_split_at width old at ≡ true → is_split_at width new at ≡ true
