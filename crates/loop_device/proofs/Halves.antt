-- What the halves of a row say of the whole row.
use Rattle.loop_device.proofs.Uses.{ap, arith, beside, Bool, Box, greatest_of, inl, inr, is_sound, is_split_at, IsGreatestWithin, max, min, nat_le, nat_tests, refl, Segments, stamp_at, subst, sym, true, ℕ, ⊎_elim, ◌∙◌}
use Rattle.std.proofs.Common.{◌≡◌, ◌+◌, ◌-◌, ◌/◌, ◌<◌, ◌≤◌, ◌⊎◌, ◌&&◌, ◌==◌}
use Rattle.std.specs.declared.alloc.Global.{Global}
use Rattle.loop_device.specs.declared.segments.Segments.TheVariants.{Leaf, Node, Node'}

-- a position is in the lower half, or in the upper one
pub sides : (at half : ℕ) → (at < half) ⊎ (half ≤ at)
sides at half = grind (arith, nat_tests)

-- what stands at a position of the lower row, and of the upper one
module _ (half : ℕ) (low high : ℕ → ℕ) (at : ℕ) where
  beside_low : at < half → beside half low high at ≡ low at
  beside_low lt = grind (arith, nat_tests)

  beside_high : beside half low high (at + half) ≡ high at
  beside_high = let back : at + half - half ≡ at = omega arith in grind (arith, nat_tests, ap high back)

-- the greatest of two rows side by side is the greater of theirs
pub greatest_beside : (half : ℕ) (l h : ℕ → ℕ) (first end f1 e1 f2 e2 a b g : ℕ) → f1 ≡ min first half
    → e1 ≡ min end half → f2 ≡ first - half → e2 ≡ end - half
    → g ≡ max a b → IsGreatestWithin l f1 e1 a → IsGreatestWithin h f2 e2 b
    → IsGreatestWithin (beside half l h) first end g
greatest_beside half l h first end f1 e1 f2 e2 a b g f1_is e1_is f2_is e2_is g_is low high = record {
  most = λ at from upto. grind (arith, nat_tests, low.most, high.most);
  reached = ⊎_elim
      (λ (less : a < b). ⊎_elim
      (λ (none : b ≡ 0). absurd (omega arith))
      (λ (t : (at : ℕ) × (f2 ≤ at) × (at < e2) × (h at ≡ b)). inr (
        t.0 + half,
        omega (arith, t.1),
        omega (arith, t.2),
        beside_high half l h t.0 ∙ t.3 ∙ omega arith,
      ))
      high.reached)
      (λ (more : b ≤ a). ⊎_elim
      (λ (none : a ≡ 0). inl (omega arith))
      (λ (t : (at : ℕ) × (f1 ≤ at) × (at < e1) × (l at ≡ a)). inr (
        t.0,
        omega (arith, t.1),
        omega (arith, t.2),
        beside_low half l h t.0 (omega (arith, t.2)) ∙ t.3 ∙ omega arith,
      ))
      low.reached)
      (sides a b);
}

-- what is known of the halves
pub record AreSoundHalves (width greatest : ℕ) (low high : Segments) : Type 0 where
  pub wide : 2 ≤ width
  pub greatest_is : greatest ≡ max (greatest_of low) (greatest_of high)
  pub low_sound : is_sound (width / 2) low ≡ true
  pub high_sound : is_sound (width - width / 2) high ≡ true

-- the parts of what makes a node sound
sound_parts : (width g a b : ℕ) (l h : Bool) → (nat_le 2 width && g == max a b && l && h) ≡ true
    → (2 ≤ width) × (g ≡ max a b) × (l ≡ true) × (h ≡ true)
sound_parts width g a b l h sound =
    (grind (arith, nat_tests), grind (arith, nat_tests), grind (arith, nat_tests), grind (arith, nat_tests))

halves_sound : (width g : ℕ) (low high : Segments)
    → (nat_le 2 width && g == max (greatest_of low) (greatest_of high) && is_sound (width / 2) low && is_sound (width
    - width / 2) high) ≡ true
    → AreSoundHalves width g low high
halves_sound width g low high sound =
    let parts = sound_parts width g (greatest_of low) (greatest_of high) (is_sound (width / 2) low)
    (is_sound (width - width / 2) high) sound in
    record { wide = parts.0; greatest_is = parts.1; low_sound = parts.2; high_sound = parts.3 }

-- the noted greatest stamp is the greatest of the row
pub whole_row : (width : ℕ) (n : Segments) → 0 < width → is_sound width n ≡ true
    → IsGreatestWithin (stamp_at width n) 0 width (greatest_of n)
whole_row width (Leaf stamp) some h = record {
  most = λ at from upto. omega arith;
  reached = inr (0, omega arith, some, refl);
}
whole_row width (Node' greatest p low q high) some h =
    let s = halves_sound width greatest low high h in
    let wide = s.wide in
    greatest_beside (width / 2) (stamp_at (width / 2) low) (stamp_at (width - width / 2) high) 0 width 0 (width / 2)
    0 (width - width / 2)
    (greatest_of low) (greatest_of high) greatest (omega arith) (omega arith) (omega arith) (omega arith) s.greatest_is
    (whole_row (width / 2) low (omega arith) s.low_sound) (whole_row (width - width / 2) high (omega arith)
    s.high_sound)

-- a row is split at both its ends
pub split_at_0 : (width : ℕ) (n : Segments) → is_sound width n ≡ true → is_split_at width n 0 ≡ true
split_at_0 width (Leaf stamp) h = refl
split_at_0 width (Node' greatest p low q high) h =
    let s = halves_sound width greatest low high h in
    grind (arith, nat_tests, split_at_0 (width / 2) low s.low_sound)

pub split_at_width : (width : ℕ) (n : Segments) → is_sound width n ≡ true → is_split_at width n width ≡ true
split_at_width width (Leaf stamp) h = grind (arith, nat_tests)
split_at_width width (Node' greatest p low q high) h =
    let s = halves_sound width greatest low high h in
    grind (arith, nat_tests, split_at_width (width - width / 2) high s.high_sound)

-- a leaf is sound
pub leaf_sound : (width stamp : ℕ) (n : Segments) → n ≡ Leaf stamp → is_sound width n ≡ true
leaf_sound width stamp n is = ap (is_sound width) is

module _ (width g : ℕ) (low high : Box Segments Global) (n : Segments) (is : n ≡ Node g low high)
    (sound : is_sound width n ≡ true) where
  -- what a node knows of its halves
  pub node_sound : AreSoundHalves width g low.value high.value
  node_sound = halves_sound width g low.value high.value (ap (is_sound width) (sym is) ∙ sound)

  -- where a node is split, so are its halves
  pub low_split : (at b : ℕ) → b ≡ min at (width / 2) → is_split_at width n at ≡ true
      → is_split_at (width / 2) low.value b ≡ true
  low_split at b b_is split =
      let split_node = ap (λ (x : Segments). is_split_at width x at) (sym is) ∙ split in
      grind (arith, nat_tests, split_at_width (width / 2) low.value node_sound.low_sound)

  pub high_split : (at b : ℕ) → b ≡ at - width / 2 → is_split_at width n at ≡ true
      → is_split_at (width - width / 2) high.value b ≡ true
  high_split at b b_is split =
      let split_node = ap (λ (x : Segments). is_split_at width x at) (sym is) ∙ split in
      grind (arith, nat_tests, split_at_0 (width - width / 2) high.value node_sound.high_sound)

  -- the noted stamp is the greatest of the node's row
  pub whole_node : (first end : ℕ) → first ≡ 0 → end ≡ width → IsGreatestWithin (stamp_at width n) first end g
  whole_node first end first_is end_is =
      let wide = node_sound.wide in
      subst (λ (z : ℕ × ℕ × ℕ). IsGreatestWithin (stamp_at width n) z.0 z.1 z.2)
      (λ i. (sym first_is i, sym end_is i, ap greatest_of is i)) (whole_row width n (omega arith) sound)

  -- the greatest of a node's row is the greater of its halves'
  pub greatest_node : (first end f1 e1 f2 e2 a b m : ℕ) → f1 ≡ min first (width / 2) → e1 ≡ min end (width / 2)
      → f2 ≡ first - width / 2 → e2 ≡ end - width / 2 → m ≡ max a b
      → IsGreatestWithin (stamp_at (width / 2) low.value) f1 e1 a
      → IsGreatestWithin (stamp_at (width - width / 2) high.value) f2 e2 b
      → IsGreatestWithin (stamp_at width n) first end m
  greatest_node first end f1 e1 f2 e2 a b m f1_is e1_is f2_is e2_is m_is l h =
      subst (λ (x : Segments). IsGreatestWithin (stamp_at width x) first end m) (sym is)
      (greatest_beside (width / 2) (stamp_at (width / 2) low.value) (stamp_at (width - width / 2) high.value) first end
      f1 e1 f2 e2 a b m f1_is e1_is f2_is e2_is m_is l h)
