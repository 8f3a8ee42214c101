-- Held masks and sweeps stay within the words' usable bits.
use Rattle.std.specs.Prelude.{◌<◌, ◌^◌, ◌≡◌}
use Rattle.tag_core.proofs.Uses.{arith, Cells, event_of, FindsIn, get_or, get_or-set_other, get_or-set_same, held_after, IsInLayout, IsWithin, Layout, length, List, or_lt, pow_pos, set, Step, swept_after, without, word_depth, words, ℕ}
use Rattle.tag_core.proofs.Masks.{minus_le}
use Rattle.tag_core.proofs.Stand.{tag_mask_within}

module _ (l : Layout) where
  -- each word's mask lies within it
  abbrev pub AllWithin : List ℕ → Type 0
  AllWithin m = (i : ℕ) → i < words l → IsWithin l i (get_or m i 0)

  set_within : (m : List ℕ) (i x : ℕ) → length m ≡ words l → AllWithin m → (i < words l → x < 2 ^ word_depth l i)
      → AllWithin (set m i x)
  set_within m i x long fits new j h = grind (arith, get_or-set_same, get_or-set_other)

  parted_within : (m : List ℕ) (i x : ℕ) → length m ≡ words l → AllWithin m
      → AllWithin (set m i (without (get_or m i 0) x))
  parted_within m i x long fits = set_within m i (without (get_or m i 0) x) long fits (λ h. grind (arith, minus_le))

  -- a step leaves the held masks within the layout
  pub held_within : {R : Type 0} (c : ℕ) (st : Step R) → IsInLayout l (event_of l c st) → (m : List ℕ)
      → length m ≡ words l → AllWithin m → AllWithin (held_after l st m)
  held_within c st needs m long fits = grind (arith, set_within, parted_within, or_lt, tag_mask_within)

  -- so it leaves the sweeps, where the cleared sets are within it
  pub sweeps_within : {R : Type 0} (st : Step R) (c : Cells) → FindsIn st c
      → ((i : ℕ) → i < words l → IsWithin l i (c.words.aside i)) → (m : List ℕ) → length m ≡ words l
      → AllWithin m → AllWithin (swept_after st m)
  sweeps_within st c finds aside m long fits = grind (arith, set_within, parted_within, or_lt, pow_pos)
