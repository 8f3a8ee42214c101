-- The tags of a mask of one word.
use Rattle.std.specs.Prelude.{◌<◌, ◌≡◌}
use Rattle.tag_core.proofs.Uses.{ap, arith, bit_at, eq-eqb, IsInMask, IsWithin, Layout, ne_eqb, place_of, word_of, ℕ, ◌∙◌}
use Rattle.tag_core.proofs.Picks.{among_one, one_among}
use Rattle.tag_core.proofs.Stand.{bit_tag}
use Rattle.tag_core.proofs.Holdings.{named_below}

module _ (l : Layout) (i m : ℕ) where
  -- a tag of the mask stands in the word, and its bit there is 1
  pub bit_named : (t : ℕ) → IsInMask l i m t → (word_of l t ≡ i) × (bit_at m (place_of l t) ≡ 1)
  bit_named t is = grind (arith, among_one, ne_eqb)

  -- and the other way round
  pub named_bit : (t : ℕ) → word_of l t ≡ i → bit_at m (place_of l t) ≡ 1 → IsInMask l i m t
  named_bit t here one = grind (arith, one_among, eq-eqb)

  module _ (within : IsWithin l i m) where
    -- it is one of the map's tags
    pub below_named : (t : ℕ) → IsInMask l i m t → t < l.depth
    below_named t is = let n = bit_named t is in named_below l i m t within n.0 n.1

    -- each bit of the mask is that of a tag
    pub tag_named_by : (b : ℕ) → bit_at m b ≡ 1
        → (t : ℕ) × IsInMask l i m t × (word_of l t ≡ i) × (place_of l t ≡ b)
    tag_named_by b one = let tag = bit_tag l i m b within one in
        (tag.0, named_bit tag.0 tag.2 (ap (bit_at m) tag.3 ∙ one), tag.2, tag.3)
