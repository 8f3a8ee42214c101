-- What the steps that join a caller's list do to the tags that it holds.
use Rattle.std.specs.Prelude.{◌-◌, ◌<◌, ◌^◌, ◌↔◌, ◌≡◌, ◌≤◌}
use Rattle.tag_core.proofs.Uses.{Adds, AddsTwo, ap, arith, bit_at, bit_at-lt, bit_at_above, Caller, eq-eqb, get_or, held_after, Holds, HoldsLess, HoldsMore, HoldsSame, IsCallerOf, IsInMask, IsWithin, joined, Layout, layout_of, length, List, Map, max, min, parted, place_of, Record, Shape, slot_of, Step}
use Rattle.tag_core.proofs.Uses.{subst, sym, tag_at-back, tag_at-below, tag_bit, without, word_of, word_of-below, words, ℕ, ◌∙◌}
use Rattle.tag_model.proofs.HoldingFacts.{less_like, more_like}
use Rattle.tag_core.proofs.Masks.{bit_minus}
use Rattle.tag_core.proofs.Picks.{among, among_one, one_among}
use Rattle.tag_core.proofs.TagBits.{place_small, among_here, among_else, among_small, minus_bit, or_bit, list_bit, only_among, only_is, tag_mask, small_word}

-- the bit of a mask within its word names a tag of the map
pub named_below : (l : Layout) (i m t : ℕ) → IsWithin l i m → word_of l t ≡ i → bit_at m (place_of l t) ≡ 1
    → t < l.depth
named_below l i m t within e one = grind (arith, tag_at-back, tag_at-below, bit_at_above)

-- a tag that such a mask names is one of the map's
pub named_in : (k : Shape) → k.layout.shift ≤ 6 → (i m t : ℕ) → IsWithin k.layout i m → IsInMask k.layout i m t
    → t < k.layout.depth
named_in k narrow i m t within named = grind (arith, among_one, among_here, among_else, named_below)

-- what a claim wins it did not find taken
pub not_found : (k : Shape) → k.layout.shift ≤ 6 → (i m found t : ℕ) → found < 2 ^ 64
    → IsInMask k.layout i (without m found) t
    → (word_of k.layout t ≡ i → bit_at found (place_of k.layout t) ≡ 1) → ⊥
not_found k narrow i m found t fits named taken =
    grind (arith, among_one, among_here, among_else, bit_minus, place_small)

-- a mask of one tag names that tag alone
module _ (k : Shape) (narrow : k.layout.shift ≤ 6) (u : ℕ) where
  pub alone_named : (t : ℕ) → IsInMask k.layout (word_of k.layout u) (2 ^ place_of k.layout u) t → t ≡ u
  alone_named t h = only_is k narrow t u (only_among k narrow u t ∙ among_one k.layout _ _ t h)

  named_alone : (t : ℕ) → t ≡ u → IsInMask k.layout (word_of k.layout u) (2 ^ place_of k.layout u) t
  named_alone t e = grind (arith, one_among, only_among, eq-eqb)

  pub is_one : (t : ℕ) → IsInMask k.layout (word_of k.layout u) (2 ^ place_of k.layout u) t ↔ (t ≡ u)
  is_one t = (alone_named t, named_alone t)

module _ {R : Type 0} (old new : Caller R) (narrow : old.shape.value.layout.shift ≤ 6)
    (same : new.shape.value ≡ old.shape.value)
    (slots : (tag : ℕ) → Holds old tag → Holds new tag → slot_of new tag ≡ slot_of old tag) where
  abbrev k : Shape
  k = old.shape.value

  abbrev has : List ℕ → ℕ → ℕ
  has = tag_bit old.shape.value.layout

  has_small : (masks : List ℕ) (t : ℕ) → has masks t < 2
  has_small masks t = bit_at-lt (get_or masks (word_of k.layout t) 0) (place_of k.layout t)

  now_holds : (t : ℕ) → t < k.layout.depth → has new.held.items t ≡ 1 → Holds new t
  now_holds t l e = grind arith

  holds_now : (t : ℕ) → Holds new t → (t < k.layout.depth) × (has new.held.items t ≡ 1)
  holds_now t h = grind arith

  -- the held set stays
  pub keeps_all : new.held.items ≡ old.held.items → HoldsSame old new
  keeps_all is = grind (arith, now_holds, holds_now, slots)

  module _ (i m : ℕ) (inside : i < words k.layout) where
    long : i < length old.held.items
    long = subst (λ (z : ℕ). i < z) (sym old.wide) inside

    in_mask : (t : ℕ) → IsInMask k.layout i m t → among k.layout.shift i m t ≡ 1
    in_mask t h = among_one k.layout i m t h

    not_in_mask : (t : ℕ) → ¬ (IsInMask k.layout i m t) → among k.layout.shift i m t ≡ 0
    not_in_mask t n = grind (arith, among_small, one_among)

    -- the tags of a mask leave the held set
    module _ (fits : m < 2 ^ 64) (is : new.held.items ≡ parted old.held.items i m) where
      less : (t : ℕ) → has new.held.items t ≡ min (has old.held.items t) (1 - among k.layout.shift i m t)
      less t = ap (λ (l : List ℕ). has l t) is ∙ sym (minus_bit k narrow (λ j. get_or old.held.items j 0) i m t fits
          ∙ list_bit k narrow old.held.items i _ t long)

      pub releases : HoldsLess (IsInMask k.layout i m) old new
      releases = grind (arith, less, in_mask, not_in_mask, now_holds, holds_now, has_small, slots)

    -- the tags of a mask join the held set
    module _ (fresh : (t : ℕ) → IsInMask k.layout i m t → ¬ (Holds old t))
        (below : (t : ℕ) → IsInMask k.layout i m t → t < k.layout.depth)
        (is : new.held.items ≡ joined old.held.items i m) where
      more : (t : ℕ) → has new.held.items t ≡ max (has old.held.items t) (among k.layout.shift i m t)
      more t = ap (λ (l : List ℕ). has l t) is ∙ sym (or_bit k narrow (λ j. get_or old.held.items j 0) i m t
          ∙ list_bit k narrow old.held.items i _ t long)

      pub acquires : HoldsMore (IsInMask k.layout i m) old new
      acquires = grind (arith, more, in_mask, one_among, among_small, now_holds, holds_now, has_small, slots, below)

module _ {R : Type 0} (m : Map R) (old new : Caller R) (own : IsCallerOf m old) where
  abbrev l : Layout
  l = old.shape.value.layout

  low : old.shape.value.layout.shift ≤ 6
  low = subst (λ (z : Shape). z.layout.shift ≤ 6) (sym own.1) m.small.1

  module _ (st : Step R) (adds : Adds st old new) where
    shape : new.shape.value ≡ old.shape.value
    shape = ap (λ (r : Record R). r.shape) adds.known

    held : new.held.items ≡ held_after l st old.held.items
    held = ap (λ (r : Record R). r.held) adds.known

    -- a step that leaves the held set
    pub adds_keeps : held_after l st old.held.items ≡ old.held.items → HoldsSame old new
    adds_keeps is = keeps_all old new low shape adds.slots (held ∙ is)

    -- a step that takes the tags of a mask out of it
    pub adds_releases : (i x : ℕ) → i < words (layout_of m) → IsWithin (layout_of m) i x
        → held_after l st old.held.items ≡ parted old.held.items i x → HoldsLess (IsInMask (layout_of m) i x) old new
    adds_releases i x inside within is = let same : old.shape.value ≡ m.shape = own.1 in
        subst (λ (z : Shape). HoldsLess (IsInMask z.layout i x) old new) same
        (releases old new low shape adds.slots i x (subst (λ (z : Shape). i < words z.layout) (sym same) inside)
        (small_word old.shape.value low i x (subst (λ (z : Shape). IsWithin z.layout i x) (sym same) within))
        (held ∙ is))

    -- a step that brings the tags of a mask into it
    pub adds_acquires : (i x : ℕ) → i < words (layout_of m) → IsWithin (layout_of m) i x
        → ((t : ℕ) → IsInMask (layout_of m) i x t → ¬ (Holds old t))
        → held_after l st old.held.items ≡ joined old.held.items i x → HoldsMore (IsInMask (layout_of m) i x) old new
    adds_acquires i x inside within fresh is = let same : old.shape.value ≡ m.shape = own.1 in
        subst (λ (z : Shape). HoldsMore (IsInMask z.layout i x) old new) same
        (acquires old new low shape adds.slots i x (subst (λ (z : Shape). i < words z.layout) (sym same) inside)
        (subst (λ (z : Shape). (t : ℕ) → IsInMask z.layout i x t → ¬ (Holds old t)) (sym same) fresh)
        (λ t named. named_in old.shape.value low i x t
        (subst (λ (z : Shape). IsWithin z.layout i x) (sym same) within) named) (held ∙ is))

  -- two steps that leave it
  pub adds_two_keeps : (first second : Step R) → AddsTwo first second old new
      → held_after l second (held_after l first old.held.items) ≡ old.held.items → HoldsSame old new
  adds_two_keeps first second adds is = keeps_all old new low (ap (λ (r : Record R). r.shape) adds.known) adds.slots
      (ap (λ (r : Record R). r.held) adds.known ∙ is)

  -- steps that bring one tag into it
  pub brings_one : new.shape.value ≡ old.shape.value
      → ((tag : ℕ) → Holds old tag → Holds new tag → slot_of new tag ≡ slot_of old tag) → (u : ℕ)
      → u < l.depth → ¬ (Holds old u)
      → new.held.items ≡ joined old.held.items (word_of l u) (2 ^ place_of l u) → HoldsMore (λ t. t ≡ u) old new
  brings_one same slots u below fresh is = more_like (is_one old.shape.value low u)
      (acquires old new low same slots (word_of l u) (2 ^ place_of l u) (word_of-below l u below)
      (λ t named. subst (λ (z : ℕ). ¬ (Holds old z)) (sym (alone_named old.shape.value low u t named)) fresh)
      (λ t named. subst (λ (z : ℕ). z < l.depth) (sym (alone_named old.shape.value low u t named)) below) is)

  -- a step that takes one tag out of it
  module _ (st : Step R) (adds : Adds st old new) (u : ℕ) where
    abbrev one_tag : Layout → ℕ → Type 0
    one_tag z = IsInMask z (word_of z u) (2 ^ place_of z u)

    pub adds_releases_one : u < l.depth
        → held_after l st old.held.items ≡ parted old.held.items (word_of l u) (2 ^ place_of l u)
        → HoldsLess (λ t. t ≡ u) old new
    adds_releases_one below is = less_like (is_one old.shape.value low u)
        (releases old new low (shape st adds) adds.slots (word_of l u)
        (2 ^ place_of l u)
        (word_of-below l u below) (tag_mask old.shape.value low u) (held st adds ∙ is))

    -- a step that brings one tag into it
    pub adds_acquires_one : u < l.depth → ¬ (Holds old u)
        → held_after l st old.held.items ≡ joined old.held.items (word_of l u) (2 ^ place_of l u)
        → HoldsMore (λ t. t ≡ u) old new
    adds_acquires_one below fresh is = brings_one (shape st adds) adds.slots u below fresh (held st adds ∙ is)
