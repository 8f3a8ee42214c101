-- What each event does with one tag, as a choice by the bits of masks.
use Rattle.std.specs.Prelude.{◌%◌, ◌/◌, ◌==◌, ◌^◌, ◌≡◌}
use Rattle.tag_core.proofs.Uses.{arith, aside_bit, bit_at, bit_at-lt, cond, Event, free, is_in_mask, IsTrue, Layout, nat_eq, one_if, one_if-bit, Place, place_after, spilled_by, suc, sweep, sweep_bit, swept_by, zero, ℕ}

-- the second place where n is 0, else the first
abbrev pub pick : ℕ → Place → Place → Place
pick zero q p = p
pick (suc n) q p = q

-- the tag's bit in this mask of this word
abbrev pub among : ℕ → ℕ → ℕ → ℕ → ℕ
among shift word mask tag = cond (nat_eq (tag / 2 ^ shift) word) (bit_at mask (tag % 2 ^ shift)) 0

-- 1 at one tag
abbrev pub only : ℕ → ℕ → ℕ
only t u = one_if (nat_eq t u)

-- where each tag is after the event
abbrev pub placed : Layout → Event → (ℕ → Place) → ℕ → Place
placed l e p t = place_after l e t (p t)

-- the tag's bit in a mask is 1 where the mask names the tag
pub among_named : (l : Layout) (word mask tag : ℕ) → among l.shift word mask tag ≡ one_if (is_in_mask l word mask tag)
among_named l word mask tag = grind (arith, one_if-bit, bit_at-lt)

-- a tag that the mask names has its bit
pub among_one : (l : Layout) (word mask tag : ℕ) → IsTrue (is_in_mask l word mask tag) → among l.shift word mask tag ≡ 1
among_one l word mask tag h = grind (arith, among_named)

-- a tag that has its bit is named by the mask
pub one_among : (l : Layout) (word mask tag : ℕ) → among l.shift word mask tag ≡ 1 → IsTrue (is_in_mask l word mask tag)
one_among l word mask tag e = grind (arith, among_named)

-- the bit of one tag, at that tag
pub only_one : (t u : ℕ) → IsTrue (t == u) → only t u ≡ 1
only_one t u h = grind arith

-- a choice by the bit in a mask
pub pick_among : (l : Layout) (word mask tag : ℕ) (q p : Place)
    → pick (among l.shift word mask tag) q p ≡ cond (is_in_mask l word mask tag) q p
pick_among l word mask tag q p = grind (arith, among_named)

-- a choice by the bit of one tag
pub pick_only : (t u : ℕ) (q p : Place) → pick (only t u) q p ≡ cond (t == u) q p
pick_only t u q p = grind arith

-- a choice by the bits of a sweep
pub pick_swept : (t u c : ℕ) (p : Place) → pick (only t u) (pick (aside_bit p) (sweep c) p) p
    ≡ cond (t == u) (swept_by c p) p
pick_swept t u c p = grind arith

-- a choice by the bits of a spill
pub pick_spilled : (t u c : ℕ) (p : Place)
    → pick (only t u) (pick (sweep_bit c p) free p) p ≡ cond (t == u) (spilled_by c p) p
pick_spilled t u c p = grind arith
