-- Two entries for each tag: which of them counts, and what a write and a turn change.
use Rattle.std.specs.Prelude.{◌%◌, ◌+◌, ◌<◌, ◌==◌, ◌≡◌, ◌≢◌}
use Rattle.tag_model.proofs.Uses.{ap, arith, bit_at-lt, bit_at_xor, bit_xor, chosen, cond, ext_get_or, false, Free, fun_ext, get_or, get_or-replicate, get_or-set_other, get_or-set_same, is_in_mask, is_turned, Layout, length, length-replicate, List, map, Place, replicate, set, sym, true, ℕ}
use Rattle.tag_model.proofs.Uses.{◌∙◌}
use Rattle.std.specs.List.{range_with_len}
use Rattle.std.proofs.lemmas.List.FromFn.{get_or-map-range_with_len, length-map-range_with_len}

module _ (l : Layout) (turned : List ℕ) where
  -- the entry of one tag
  abbrev pub entry : List Place → List Place → ℕ → Place
  entry first second tag = cond (is_turned l turned tag) (get_or second tag Free) (get_or first tag Free)

  pub chosen-at : (first second : List Place) (tag : ℕ) → tag < l.depth
      → get_or (chosen l turned first second) tag Free ≡ entry first second tag
  chosen-at first second tag h = get_or-map-range_with_len (entry first second) 0 l.depth tag tag Free h (omega arith)

  pub length-chosen : (first second : List Place) → length (chosen l turned first second) ≡ l.depth
  length-chosen first second = length-map-range_with_len (entry first second) 0 l.depth

  pub entry-turned : (first second : List Place) (tag : ℕ) → is_turned l turned tag ≡ true
      → entry first second tag ≡ get_or second tag Free
  entry-turned first second tag is = grind arith

  pub entry-not : (first second : List Place) (tag : ℕ) → is_turned l turned tag ≡ false
      → entry first second tag ≡ get_or first tag Free
  entry-not first second tag is = grind arith

  entry-first : (first second : List Place) (tag other : ℕ) (place : Place) → other ≢ tag
      → entry (set first tag place) second other ≡ entry first second other
  entry-first first second tag other place far = grind (arith, get_or-set_other)

  entry-second : (first second : List Place) (tag other : ℕ) (place : Place) → other ≢ tag
      → entry first (set second tag place) other ≡ entry first second other
  entry-second first second tag other place far = grind (arith, get_or-set_other)

  -- the entry that doesn't count may be written
  same-first : (first second : List Place) (tag : ℕ) (place : Place) → is_turned l turned tag ≡ true
      → chosen l turned (set first tag place) second ≡ chosen l turned first second
  same-first first second tag place is = ap (λ (f : ℕ → Place). map f (range_with_len 0 l.depth))
      (fun_ext {f = entry (set first tag place) second} {g = entry first second}
      (λ (k : ℕ). grind (arith, entry-first)))

  same-second : (first second : List Place) (tag : ℕ) (place : Place) → is_turned l turned tag ≡ false
      → chosen l turned first (set second tag place) ≡ chosen l turned first second
  same-second first second tag place is = ap (λ (f : ℕ → Place). map f (range_with_len 0 l.depth))
      (fun_ext {f = entry first (set second tag place)} {g = entry first second}
      (λ (k : ℕ). grind (arith, entry-second)))

  -- the entry that was written
  here-first : (first second : List Place) (tag : ℕ) (place : Place) → is_turned l turned tag ≡ false
      → tag < l.depth → length first ≡ l.depth
      → get_or (chosen l turned (set first tag place) second) tag Free ≡ place
  here-first first second tag place is h long = grind (arith, chosen-at, get_or-set_same)

  here-second : (first second : List Place) (tag : ℕ) (place : Place) → is_turned l turned tag ≡ true
      → tag < l.depth → length second ≡ l.depth
      → get_or (chosen l turned first (set second tag place)) tag Free ≡ place
  here-second first second tag place is h long = grind (arith, chosen-at, get_or-set_same)

  -- the other tags' entries
  others-first : (first second : List Place) (tag other : ℕ) (place : Place) → other < l.depth → other ≢ tag
      → get_or (chosen l turned (set first tag place) second) other Free
      ≡ get_or (chosen l turned first second) other Free
  others-first first second tag other place h far = grind (arith, chosen-at, get_or-set_other)

  others-second : (first second : List Place) (tag other : ℕ) (place : Place) → other < l.depth → other ≢ tag
      → get_or (chosen l turned first (set second tag place)) other Free
      ≡ get_or (chosen l turned first second) other Free
  others-second first second tag other place h far = grind (arith, chosen-at, get_or-set_other)

  -- the tag's entry that doesn't count was written: those that count are the same, and this place alone is ready anew
  pub record MadeReady (first second first' second' : List Place) (tag : ℕ) (place : Place) : Type 0 where
    pub same : chosen l turned first' second' ≡ chosen l turned first second
    pub here : get_or (chosen l turned second' first') tag Free ≡ place
    pub others :
        (other : ℕ) → other < l.depth → other ≢ tag
        → get_or (chosen l turned second' first') other Free ≡ get_or (chosen l turned second first) other Free

  pub ready-first : (first second : List Place) (tag : ℕ) (place : Place) → is_turned l turned tag ≡ true
      → tag < l.depth → length first ≡ l.depth → MadeReady first second (set first tag place) second tag place
  ready-first first second tag place is h long = record {
    same = same-first first second tag place is;
    here = here-second second first tag place is h long;
    others = λ other low far. others-second second first tag other place low far;
  }

  pub ready-second : (first second : List Place) (tag : ℕ) (place : Place) → is_turned l turned tag ≡ false
      → tag < l.depth → length second ≡ l.depth → MadeReady first second first (set second tag place) tag place
  ready-second first second tag place is h long = record {
    same = same-second first second tag place is;
    here = here-first second first tag place is h long;
    others = λ other low far. others-first second first tag other place low far;
  }

  -- where all entries are free, those that count are
  pub chosen-free : (first second : List Place) → first ≡ replicate l.depth Free → second ≡ replicate l.depth Free
      → chosen l turned first second ≡ replicate l.depth Free
  chosen-free first second one two = ext_get_or Free (chosen l turned first second) (replicate l.depth Free)
      (length-chosen first second ∙ sym (length-replicate l.depth Free))
      (λ tag h. grind (arith, chosen-at first second tag, length-chosen, get_or-replicate l.depth tag Free Free))

-- a bit that is flipped where the mask's is 1
flipped : (a m : ℕ) → a < 2 → m < 2 → ((a + m) % 2 == 1) ≡ cond (m == 1) (cond (a == 1) false true) (a == 1)
flipped a m h g = grind arith

-- the bits of one word, turned where the mask's are 1
module _ (l : Layout) (turned : List ℕ) (word mask : ℕ) (there : word < length turned) where
  abbrev pub turned_by : List ℕ
  turned_by = set turned word (bit_xor (get_or turned word 0) mask)

  is_turned-after : (tag : ℕ) → is_turned l turned_by tag
      ≡ cond (is_in_mask l word mask tag) (cond (is_turned l turned tag) false true) (is_turned l turned tag)
  is_turned-after tag = grind (arith, get_or-set_same, get_or-set_other, bit_at_xor, bit_at-lt)

  pub chosen-after : (first second : List Place) (tag : ℕ) → tag < l.depth
      → get_or (chosen l turned_by first second) tag Free
      ≡ cond (is_in_mask l word mask tag) (get_or (chosen l turned second first) tag Free)
      (get_or (chosen l turned first second) tag Free)
  chosen-after first second tag h = grind (arith, chosen-at, is_turned-after)
