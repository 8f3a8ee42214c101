-- What the last state tells where one seat has the records of all callers.
use Rattle.std.specs.Prelude.{◌<◌, ◌∷◌, ◌≡◌, ◌≢◌, ◌≤◌, ◌⊎◌}
use Rattle.tag_core.proofs.Uses.{[], after_history, ap, arith, aside, back_in, Balances, balances-history, caller_of, cells_of, count_ones, dec_lt, dite, eq-eqb, Event, events_of, free, get_elem?, get_or, got_in, held, held_bit, held_in, is_held, is_in_mask, is_posted, IsHistory, IsWithin, length, List}
use Rattle.tag_core.proofs.Uses.{nat_eq, ne_eqb, number_in, number_once, one_if, one_if-le, opening_world, Place, place_after, posted, posted_bit, posted_by_word, posted_in, Record, refl, Shape, Shown, size_of, some, State, state_word, suc, sum_below, sum_below-first, sum_below-le, sum_below-none, sum_below-only}
use Rattle.tag_core.proofs.Uses.{sum_below-same, sum_below-swap, sweep, sym, tag_bit, total_of, total_of_all, View, word_of, word_of-below, words, World, world_of, zero, ℕ, ⊎_elim, ◌∙◌}
use Rattle.tag_model.proofs.MaskFacts.{sum_below-mask}
use Rattle.tag_core.specs.Spacing.{state_at}
use Rattle.tag_core.proofs.Moving.{opening_even}
use Rattle.tag_core.proofs.Picks.{among, among_named}

-- numbers that are all different are no more than there are
few_numbers : (num pos : ℕ → ℕ) (len m : ℕ) → ((n : ℕ) → n < len → (num n < m) × (pos (num n) ≡ n)) → len ≤ m
few_numbers num pos len m one =
    let hits : ℕ → ℕ → ℕ = λ c n. one_if (nat_eq (num n) c) in
    let whole = sum_below-same (λ n. 1) (λ n. sum_below (λ c. hits c n) m) len
    (λ n l. sym (sum_below-only (λ c. hits c n) m (num n) (one n l).0
    (λ c lc ne. ap one_if (ne_eqb (num n) c (λ z. ne (sym z)))) ∙ ap one_if (eq-eqb (num n) (num n) refl))) in
    let turned = sum_below-swap hits len m in
    let less = sum_below-le (λ c. sum_below (hits c) len) (λ c. 1) m (λ c lc. at_most c) in
    let left = ones len in let right = ones m in omega arith
  where
    ones : (n : ℕ) → sum_below (λ i. 1) n ≡ n
    ones zero = refl
    ones (suc n) = let before = ones n in omega arith

    -- what has the number c is at its place alone
    elsewhere : (c n : ℕ) → n < len → n ≢ pos c → one_if (nat_eq (num n) c) ≡ 0
    elsewhere c n l ne = grind (arith, ne_eqb, one n l)

    at_most : (c : ℕ) → sum_below (λ n. one_if (nat_eq (num n) c)) len ≤ 1
    at_most c = let p : ℕ = pos c in dite (dec_lt p len)
        (λ (low : p < len). let only = sum_below-only (λ n. one_if (nat_eq (num n) c)) len p low (elsewhere c) in
        let small = one_if-le (nat_eq (num p) c) in omega arith)
        (λ (high : ¬ (p < len)). let none_there = sum_below-none (λ n. one_if (nat_eq (num n) c)) len
        (λ n l. elsewhere c n l (omega arith)) in omega arith)

by_index : (g : ℕ → ℕ) (ms : List ℕ) → total_of g ms ≡ sum_below (λ i. g (get_or ms i 0)) (length ms)
by_index g [] = refl
by_index g (m ∷ ms) =
    let rest = by_index g ms in
    let s = sum_below-first (λ i. g (get_or (m ∷ ms) i 0)) (length ms) in omega arith

module _ (k : Shape) where
  known_after : (e : Event) (q : Place) (t d : ℕ) → caller_of e < k.callers → place_after k.layout e t q ≡ held d
      → (q ≡ held d) ⊎ (d < k.callers)
  known_after e q t d h is = grind arith

  known : (h : List Event) (w : World) → ((t d : ℕ) → w.place t ≡ held d → d < k.callers)
      → IsHistory k.layout k.callers w h → (t d : ℕ) → (after_history k.layout h w).place t ≡ held d → d < k.callers
  known [] w start is t d e = start t d e
  known (x ∷ h) w start is t d e =
      ⊎_elim (known h w start is.1 t d) (λ z. z)
      (known_after x ((after_history k.layout h w).place t) t d is.0.caller e)

  -- the callers' bits of one place
  holders : (q : Place) → ((d : ℕ) → q ≡ held d → d < k.callers)
      → sum_below (λ c. held_bit c q) k.callers ≡ one_if (is_held q)
  holders free h = sum_below-none (λ c. 0) k.callers (λ c l. refl)
  holders (held d) h = sum_below-only (λ c. held_bit c (held d)) k.callers d (h d refl)
      (λ c l ne. ap one_if (ne_eqb d c (λ z. ne (sym z)))) ∙ ap one_if (eq-eqb d d refl)
  holders posted h = sum_below-none (λ c. 0) k.callers (λ c l. refl)
  holders aside h = sum_below-none (λ c. 0) k.callers (λ c l. refl)
  holders (sweep c) h = sum_below-none (λ c. 0) k.callers (λ c l. refl)

  -- the bits of one mask for each word, counted by tags
  pub by_tags : (ms : List ℕ) → length ms ≡ words k.layout
      → ((i : ℕ) → i < words k.layout → IsWithin k.layout i (get_or ms i 0))
      → size_of ms ≡ sum_below (tag_bit k.layout ms) k.layout.depth
  by_tags ms long fits =
      by_index count_ones ms ∙ ap (sum_below (λ i. count_ones (get_or ms i 0))) long
      ∙ sum_below-same (λ i. count_ones (get_or ms i 0))
      (λ i. sum_below (among k.layout.shift i (get_or ms i 0)) k.layout.depth) (words k.layout)
      (λ i l. sym (sum_below-same (among k.layout.shift i (get_or ms i 0))
      (λ t. one_if (is_in_mask k.layout i (get_or ms i 0) t)) k.layout.depth
      (λ t lt. among_named k.layout i (get_or ms i 0) t) ∙ sum_below-mask k.layout i (get_or ms i 0) l (fits i l)))
      ∙ sym (sum_below-swap (λ i. among k.layout.shift i (get_or ms i 0)) k.layout.depth (words k.layout))
      ∙ sum_below-same (λ t. sum_below (λ i. among k.layout.shift i (get_or ms i 0) t) (words k.layout))
      (tag_bit k.layout ms) k.layout.depth (λ t l.
      sum_below-only (λ i. among k.layout.shift i (get_or ms i 0) t) (words k.layout) (word_of k.layout t)
      (word_of-below k.layout t l) (λ i li ne. grind (arith, ne_eqb)) ∙ grind (arith, eq-eqb))

  module _ {R : Type 0} (s : State R (View R)) (sh : Shown k s) (id : ℕ) (v : View R)
      (at : get_elem? s.views id ≡ some v) where
    once : (n : ℕ) (r : Record R) → get_elem? v.records.value n ≡ some r
        → (r.number < k.callers) × (sh.position r.number ≡ n)
    once n r e = let o = sh.records id v at n r e in (o.0.number, o.2)

    -- one seat has no more records than there are callers
    pub few_records : length v.records.value ≤ k.callers
    few_records = few_numbers (number_in (λ (r : Record R). r.number) v.records.value) sh.position
        (length v.records.value) k.callers
        (number_once (λ (r : Record R). r.number) k.callers v.records.value sh.position once)

    module _ (has : (c : ℕ) → c < k.callers
        → (n : ℕ) × (r : Record R) × (get_elem? v.records.value n ≡ some r) × (r.number ≡ c)) where
      of_all : (f : ℕ → ℕ) (g : Record R → ℕ)
          → ((n : ℕ) (r : Record R) → get_elem? v.records.value n ≡ some r → g r ≡ f r.number)
          → total_of g v.records.value ≡ sum_below f k.callers
      of_all = total_of_all (λ (r : Record R). r.number) k.callers v.records.value sh.position once has

      -- the records of all callers tell what was won
      pub won_all : total_of (λ (r : Record R). r.won) v.records.value ≡ got_in k.callers (world_of k sh.history)
      won_all = of_all (world_of k sh.history).won (λ (r : Record R). r.won)
          (λ n r e. (sh.records id v at n r e).0.won)

      -- what was given back
      pub back_all : total_of (λ (r : Record R). r.back) v.records.value ≡ back_in k.callers (world_of k sh.history)
      back_all = of_all (world_of k sh.history).back (λ (r : Record R). r.back)
          (λ n r e. (sh.records id v at n r e).0.back)

      -- what is held
      pub held_all : total_of (λ (r : Record R). size_of r.held) v.records.value
          ≡ held_in k.layout (world_of k sh.history)
      held_all = let w : World = world_of k sh.history in
          of_all (λ c. sum_below (λ t. held_bit c (w.place t)) k.layout.depth) (λ (r : Record R). size_of r.held)
          (λ n r e. let o = (sh.records id v at n r e).0 in by_tags r.held o.held_wide o.within
          ∙ sum_below-same (tag_bit k.layout r.held) (λ t. held_bit r.number (w.place t)) k.layout.depth
          (λ t l. sym (o.held t l)))
          ∙ sym (sum_below-swap (λ c t. held_bit c (w.place t)) k.layout.depth k.callers)
          ∙ sum_below-same (λ t. sum_below (λ c. held_bit c (w.place t)) k.callers)
          (λ t. one_if (is_held (w.place t))) k.layout.depth
          (λ t l. holders (w.place t)
          (λ d e. known (events_of k.layout sh.history) (opening_world k) (λ t' d' e'. absurd cc)
          sh.lawful.happens t d e))

    zero_or_one : (q : Place) (note : ℕ) → posted_by_word (state_word (posted_bit q) note) ≡ one_if (is_posted q)
    zero_or_one q note = grind arith

    -- the states that are not 0
    pub posted_all : sum_below (λ t. posted_by_word (get_or s.words (state_at k.layout t) 0)) k.layout.depth
        ≡ posted_in k.layout (world_of k sh.history)
    posted_all = sum_below-same (λ t. posted_by_word (get_or s.words (state_at k.layout t) 0))
        (λ t. one_if (is_posted ((world_of k sh.history).place t))) k.layout.depth
        (λ t l. (λ j. posted_by_word ((sh.cells.state t l
        ∙ ap (λ (z : ℕ). state_word z ((cells_of sh.history).note t)) (sym (sh.tags t l).posted)) j))
        ∙ zero_or_one ((world_of k sh.history).place t) _)

    -- the world is in balance
    pub even_all : Balances k.layout k.callers (world_of k sh.history)
    even_all = balances-history k.layout k.callers (events_of k.layout sh.history) (opening_world k) sh.lawful.happens
        (opening_even k sh.opening)
