-- A swap of which the caller keeps the least tag: at one moment the swap, and then what is kept of it.
use Rattle.std.specs.Prelude.{◌+◌, ◌<◌, ◌^◌, ◌∷◌, ◌≡◌, ◌≢◌, ◌≤◌}
use Rattle.tag_core.proofs.Uses.{[], Allows, ap, arith, bit_at, bit_at-lt, bit_at-pow_other, bit_at-trailing_zeros, bit_at_above, carried_after, Carries, chain, dite, FindsHeld, get_elem?, get_or, homes_after, inl, IsKnown, Keep, kept_least, least_bit, length, List, max, Me, MOST_WON, none}
use Rattle.tag_core.proofs.Uses.{own_view, pow_below, Record, record_after, refl, set, set_here, Shape, Shown, some, State, step, Stepped, subst, suc, Swap, sym, tag_bit, trailing_zeros, View, w64, within, Word, word_depth, words, zero, ℕ, ℕ_discrete, ◌∙◌}
use Rattle.tag_core.specs.Spacing.{aside_at}
use Rattle.tag_core.specs.Keeping.{IsLeastIn}
use Rattle.tag_core.proofs.Picks.{among}
use Rattle.tag_core.proofs.TagBits.{small_word, among_here, among_else, or_bit, list_bit}
use Rattle.tag_core.proofs.OneBit.{count_ones-pow}
use Rattle.tag_core.proofs.Stand.{aside_at_one}
use Rattle.tag_core.proofs.OwingTags.{swap_owed, keep_owed}
use Rattle.tag_core.proofs.Advance.{Owed}
use Rattle.tag_core.proofs.Allowed.{Answer, ok, answer, renamed, found_held, word_posts_none}

-- the second of two writes of one entry stays
set_again : {A : Type 0} (l : List A) (i : ℕ) (x y : A) → set (set l i x) i y ≡ set l i y
set_again [] i x y = refl
set_again (a ∷ l) zero x y = refl
set_again (a ∷ l) (suc i) x y = ap (λ (z : List _). a ∷ z) (set_again l i x y)

-- the lowest bit of a mask that is not 0
module _ (n : ℕ) (some_bit : n ≢ 0) (fits : n < 2 ^ 64) where
  -- it is one of its bits
  pub least_in : IsLeastIn n (trailing_zeros w64 n)
  least_in = let low = bit_at-trailing_zeros w64 n (omega arith) fits in record { is = low.1; least = low.2 }

  -- its place is one of a word
  pub least_small : trailing_zeros w64 n < 64
  least_small = (bit_at-trailing_zeros w64 n (omega arith) fits).0

  -- it lies where the mask does
  pub least_below : (d : ℕ) → n < 2 ^ d → trailing_zeros w64 n < d
  least_below d h = let low = least_in in grind (arith, low.is, bit_at_above)

  pub least_within : (d : ℕ) → n < 2 ^ d → least_bit n < 2 ^ d
  least_within d h = pow_below (trailing_zeros w64 n) d (least_below d h)

  -- where it has a 1, so has the mask
  pub bit_of_least : (b : ℕ) → bit_at (least_bit n) b ≡ 1 → bit_at n b ≡ 1
  bit_of_least b one = let low = least_in in grind (arith, low.is, bit_at-pow_other)

module _ (R : Type 0) (k : Shape) (narrow : k.layout.shift ≤ 6) (id : ℕ) (me : Me R (View R)) (r : Record R)
    (mine : me.0 ≡ own_view r) (carries : Carries k.layout r.held me.1) (i : ℕ) (inside : i < words k.layout)
    (room : r.won + 1 ≤ MOST_WON) where
  module _ (s : State R (View R)) (sh : Shown k s) (deep : length s.homes ≡ k.layout.depth)
      (at : get_elem? s.views id ≡ some me.0) where
    abbrev n : ℕ
    n = get_or s.words (aside_at i) 0

    abbrev m : ℕ
    m = least_bit (get_or s.words (aside_at i) 0)

    abbrev r1 : Record R
    r1 = record_after (Word (Swap i (get_or s.words (aside_at i) 0))) r

    known : IsKnown k sh.history r
    known = ok R k narrow id me r mine carries s sh deep at

    -- the swap
    swap : Answer R k narrow id me r mine carries s (Word (Swap i n)) (set s.words (aside_at i) 0)
    swap = answer R k narrow id me r mine carries s sh deep at (Word (Swap i n)) (set s.words (aside_at i) 0)
        (swap_owed R k narrow s sh r known i inside)
        (λ t l e. let silent = word_posts_none {R = R} k.layout r.number (Swap i n) t in inl (silent.0 _ e, silent.1 _))

    -- the state and the seat in between
    abbrev s1 : State R (View R)
    s1 = record {
      words = set s.words (aside_at i) 0;
      homes = homes_after s.homes me.1 swap.1;
      views = set s.views id swap.0;
    }

    abbrev me1 : Me R (View R)
    me1 = (swap.0, carried_after me.1 swap.1)

    sh1 : Shown k s1
    sh1 = swap.3

    mine1 : me1.0 ≡ own_view r1
    mine1 = swap.4.view

    carries1 : Carries k.layout r1.held me1.1
    carries1 = subst (λ (z : Shape). Carries z.layout r.held (carried_after me.1 swap.1)) known.shape swap.4.carries

    deep1 : length s1.homes ≡ k.layout.depth
    deep1 = swap.5 ∙ deep

    at1 : get_elem? s1.views id ≡ some me1.0
    at1 = set_here s.views id swap.0 (within s.views id _ at)

    known1 : IsKnown k sh1.history r1
    known1 = ok R k narrow id me1 r1 mine1 carries1 s1 sh1 deep1 at1

    low : n < 2 ^ word_depth k.layout i
    low = subst (λ (x : ℕ). x < 2 ^ word_depth k.layout i) (sym (sh.cells.aside i inside)) (sh.cells.aside_within i inside)

    fits : n < 2 ^ 64
    fits = small_word k narrow i n low

    module _ (some_aside : n ≢ 0) where
      -- what is kept was swept
      swept : (t : ℕ) → t < k.layout.depth → among k.layout.shift i m t ≡ 1 → tag_bit k.layout r1.swept t ≡ 1
      swept t l one =
          let long : i < length r.swept = subst (λ (z : ℕ). i < z) (sym known.swept_wide) inside in
          let joins : max (tag_bit k.layout r.swept t) (among k.layout.shift i n t) ≡ tag_bit k.layout r1.swept t =
          or_bit k narrow (λ j. get_or r.swept j 0) i n t ∙ list_bit k narrow r.swept i _ t long in
          let small : tag_bit k.layout r.swept t < 2 = bit_at-lt _ _ in
          let has : among k.layout.shift i n t ≡ 1 = named t one in omega arith
        where
          named : (t : ℕ) → among k.layout.shift i m t ≡ 1 → among k.layout.shift i n t ≡ 1
          named t one = grind (arith, among_here k narrow, among_else k narrow, bit_of_least n some_aside fits)

      few : (won : ℕ) → won ≡ r.won → won + 0 + 1 ≤ MOST_WON
      few won is = omega arith

      keep : Owed R k s1 sh1 r1 (Word (Keep i m)) s1.words
      keep = keep_owed R k narrow s1 sh1 r1 known1 i m inside (least_within n some_aside fits (word_depth k.layout i) low)
          (least_within n some_aside fits 64 fits)
          (subst (λ (z : ℕ). r1.won + z ≤ MOST_WON) (sym (count_ones-pow (trailing_zeros w64 n))) (few r.won refl)) swept

      -- what is kept of it
      kept : Answer R k narrow id me1 r1 mine1 carries1 s1 (Word (Keep i m)) s1.words
      kept = answer R k narrow id me1 r1 mine1 carries1 s1 sh1 deep1 at1 (Word (Keep i m)) s1.words keep
          (λ t l e. let silent = word_posts_none {R = R} k.layout r.number (Keep i m) t in inl (silent.0 _ e, silent.1 _))

      -- the rule holds after both
      shown : Shown k record {
        words = set s.words (aside_at i) 0;
        homes = homes_after s.homes me.1 (chain swap.1 kept.1);
        views = set s.views id kept.0;
      }
      shown = subst (λ (vs : List (View R)). Shown k record {
        words = set s.words (aside_at i) 0;
        homes = homes_after s.homes me.1 (chain swap.1 kept.1);
        views = vs;
      }) (set_again s.views id swap.0 kept.0) kept.3

  -- the table allows such a swap
  pub keep_allowed : Allows (Shown k) k.layout.depth id me (aside_at i) (λ _. 0)
      (kept_least (step k.layout.depth (aside_at i) 0 0 none) me)
  keep_allowed s sh deep at _ = dite (ℕ_discrete (n s sh deep at) 0)
      (λ empty. let z = swap s sh deep at in (
        z.0,
        z.1,
        z.2,
        z.3,
        λ i' r' ei er. renamed R k narrow id me r mine carries (λ x y.
            FindsHeld y x (get_or s.words (aside_at i) 0) 0 ×
            (get_or s.words (aside_at i) 0 ≡ 0 → Stepped (Word (Swap x 0)) y me (z.0, carried_after me.1 z.1))
            × (get_or s.words (aside_at i) 0 ≢ 0 → Both x y (get_or s.words (aside_at i) 0) (z.0, carried_after me.1 z.1)))
            (aside_at_one i i' ei) r' er (
              (found_held R k narrow id me r mine carries s sh (known s sh deep at) i).1,
              λ _. subst (λ (x : ℕ). Stepped (Word (Swap i x)) r me (z.0, carried_after me.1 z.1)) empty z.4,
              λ ne. absurd (ne empty),
            ),
      ))
      (λ some_aside. let y = swap s sh deep at in let z = kept s sh deep at some_aside in (
        z.0,
        chain y.1 z.1,
        (y.2, z.2),
        shown s sh deep at some_aside,
        λ i' r' ei er. renamed R k narrow id me r mine carries (λ x q.
            FindsHeld q x (get_or s.words (aside_at i) 0) 0 ×
            (get_or s.words (aside_at i) 0 ≡ 0 → Stepped (Word (Swap x 0)) q me
            (z.0, carried_after me.1 (chain y.1 z.1)))
            × (get_or s.words (aside_at i) 0 ≢ 0
            → Both x q (get_or s.words (aside_at i) 0) (z.0, carried_after me.1 (chain y.1 z.1))))
            (aside_at_one i i' ei) r' er (
              (found_held R k narrow id me r mine carries s sh (known s sh deep at) i).1,
              λ e. absurd (some_aside e),
              λ _. ((y.0, carried_after me.1 y.1), y.4, z.4),
            ),
      ))
    where
      Both : ℕ → Record R → ℕ → Me R (View R) → Type 0
      Both x q found me' = (mid : Me R (View R)) × Stepped (Word (Swap x found)) q me mid
          × Stepped (Word (Keep x (least_bit found))) (record_after (Word (Swap x found)) q) mid me'
