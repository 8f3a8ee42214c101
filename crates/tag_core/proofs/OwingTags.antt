-- What steps on one tag and sweeps owe.
use Rattle.std.specs.Prelude.{◌%◌, ◌+◌, ◌-◌, ◌/◌, ◌<◌, ◌^◌, ◌≡◌, ◌≤◌}
use Rattle.tag_core.proofs.Uses.{ap, arith, aside, aside_bit, bit_at, bit_or, Cells, cells_of, changed_at, cond, count_ones, get_or, held, held_bit, IsKnown, Keep, last_post, length, max, min, MOST_WON, nat_eq, or_lt, Place, place_of, Post, posted, posted_bit, pow_pos, Put, Record, refl, set, Shape}
use Rattle.tag_core.proofs.Uses.{Shown, Some, some, Spill, State, subst, Swap, sweep, sweep_bit, sym, tag_bit, Take, View, without, Word, word_bit, word_depth, word_of, word_of-below, words, World, world_of, ℕ, ◌∙◌}
use Rattle.tag_core.specs.Spacing.{word_at, aside_at, state_at}
use Rattle.tag_core.proofs.Picks.{only, only_one, among, among_one, pick_among, pick_only, pick_swept, pick_spilled}
use Rattle.tag_core.proofs.Turns.{puts, posts, takes, gathers, keeps, spills, posted_small, aside_small, sweep_small, reshow, held_from, swept_from}
use Rattle.tag_core.proofs.Masks.{minus_le}
use Rattle.tag_core.proofs.Stand.{bit_tag, tag_mask_within}
use Rattle.tag_core.proofs.Advance.{Owed}
use Rattle.tag_core.proofs.TagBits.{or_bit, minus_bit, list_bit, only_among, tag_mask, only_small, only_is, among_as, among_small, none_left, tag_named}
use Rattle.tag_core.proofs.Owing.{word_cells, aside_cells, post_cells, take_cells, none_more, held_or, held_minus}

-- a tag's state once one tag is posted
posted_at : (state : ℕ → ℕ) (q : Place) (u t : ℕ) → posted_bit q ≡ state t
    → max (posted_bit q) (only t u) ≡ changed_at state u 1 t
posted_at state q u t is = grind (arith, posted_small)

-- and once one is taken
taken_at : (state : ℕ → ℕ) (q : Place) (u t : ℕ) → posted_bit q ≡ state t
    → min (posted_bit q) (1 - only t u) ≡ changed_at state u 0 t
taken_at state q u t is = grind (arith, posted_small)

module _ (R : Type 0) (k : Shape) (narrow : k.layout.shift ≤ 6) (s : State R (View R)) (sh : Shown k s) (r : Record R)
    (ok : IsKnown k sh.history r) where
  abbrev now_cells : Cells
  now_cells = cells_of sh.history

  abbrev now_world : World
  now_world = world_of k sh.history

  none_won : now_world.won r.number + 0 ≤ MOST_WON
  none_won = none_more R k narrow s sh r ok r.number

  -- ---- steps on one tag

  held_tag : (u t : ℕ) → tag_bit k.layout r.held u ≡ 1 → u < k.layout.depth → only t u ≡ 1
      → now_world.place t ≡ held r.number
  held_tag u t has l a =
      subst (λ (z : ℕ). now_world.place z ≡ held r.number) (sym (only_is k narrow t u a))
      (held_from r.number (now_world.place u) (ok.held u l ∙ has))

  held_without : (u t : ℕ) → u < k.layout.depth → t < k.layout.depth
      → min (held_bit r.number (now_world.place t)) (1 - only t u) ≡ tag_bit k.layout
      (set r.held (u / 2 ^ k.layout.shift) (without (get_or r.held (u / 2 ^ k.layout.shift) 0)
      (2 ^ (u % 2 ^ k.layout.shift)))) t
  held_without u t lu l = ap (λ (z : ℕ). min (held_bit r.number (now_world.place t)) (1 - z)) (only_among k narrow u t)
      ∙ held_minus R k narrow s sh r ok (u / 2 ^ k.layout.shift) (2 ^ (u % 2 ^ k.layout.shift)) t
      (word_of-below k.layout u lu) l (tag_mask k narrow u)

  held_with : (u t : ℕ) → u < k.layout.depth → t < k.layout.depth
      → max (held_bit r.number (now_world.place t)) (only t u) ≡ tag_bit k.layout
      (set r.held (u / 2 ^ k.layout.shift) (bit_or (get_or r.held (u / 2 ^ k.layout.shift) 0)
      (2 ^ (u % 2 ^ k.layout.shift)))) t
  held_with u t lu l = ap (max (held_bit r.number (now_world.place t))) (only_among k narrow u t)
      ∙ held_or R k narrow s sh r ok (u / 2 ^ k.layout.shift) (2 ^ (u % 2 ^ k.layout.shift)) t
      (word_of-below k.layout u lu) l

  -- a put of a held tag
  pub put_owed : (u : ℕ) → u < k.layout.depth → tag_bit k.layout r.held u ≡ 1
      → Owed R k s sh r (Word
      (Put (word_of k.layout u) (2 ^ place_of k.layout u) (get_or s.words (aside_at (u / 2 ^ k.layout.shift)) 0)))
      (set s.words (aside_at (u / 2 ^ k.layout.shift))
      (bit_or (get_or s.words (aside_at (u / 2 ^ k.layout.shift)) 0) (2 ^ (u % 2 ^ k.layout.shift))))
  put_owed u lu has =
      let i : ℕ = u / 2 ^ k.layout.shift in let m : ℕ = 2 ^ (u % 2 ^ k.layout.shift) in
      let n : ℕ = get_or s.words (aside_at i) 0 in let inside : i < words k.layout = word_of-below k.layout u lu in
      let found : n ≡ now_cells.words.aside i = sh.cells.aside i inside in
      let x : ℕ = bit_or (now_cells.words.aside i) m in
      let same : bit_or n m ≡ x = ap (λ (z : ℕ). bit_or z m) found in
      record {
        finds = found;
        own = tt;
        value = tt;
        needs = record {
          in_layout = subst (λ (z : ℕ). z < k.layout.depth) (sym (tag_named k narrow u)) lu;
          caller = ok.number;
          unspent = none_won;
          places = λ t l is. held_tag u t has lu (only_one t u (sym (ap (λ (z : ℕ). nat_eq t z) (tag_named k narrow u))
              ∙ is));
        };
        cells = aside_cells k s.words now_cells sh.cells i (bit_or n m) x inside same
            (or_lt (word_depth k.layout i) (now_cells.words.aside i) m (sh.cells.aside_within i inside)
            (tag_mask_within k.layout u lu));
        tags = λ t l. let tag = sh.tags t l in
            let q : Place = now_world.place t in
            reshow
            (puts r.number q (only t u) (only_small k narrow t u) (held_tag u t has lu))
            (pick_only t u aside q ∙ ap (λ (z : ℕ). cond (nat_eq t z) aside q) (sym (tag_named k narrow u))) tag.word
            ((λ z. max (tag.aside z) (only_among k narrow u t z))
            ∙ or_bit k narrow now_cells.words.aside i m t) tag.posted
            (held_without u t lu l) (ok.swept t l);
      }

  -- a post of a held tag
  pub post_owed : (u note : ℕ) (y : R) → u < k.layout.depth → tag_bit k.layout r.held u ≡ 1
      → Owed R k s sh r (Post u note y) (set s.words (state_at k.layout u) (note + 1))
  post_owed u note y lu has = record {
    finds = tt;
    own = tt;
    value = tt;
    needs = record {
      in_layout = lu;
      caller = ok.number;
      unspent = none_won;
      places =
          λ t l is. held_tag u t has lu (only_one t u is);
    };
    cells = post_cells k s.words now_cells sh.cells u note (note + 1) lu (omega arith);
    tags = λ t l. let tag = sh.tags t l in
        let q : Place = now_world.place t in
        reshow
        (posts r.number q (only t u) (only_small k narrow t u) (held_tag u t has lu))
        (pick_only t u posted q) tag.word tag.aside
        (posted_at now_cells.state q u t tag.posted)
        (held_without u t lu l) (ok.swept t l);
  }

  -- a swap of a posted tag's state with 0
  pub take_owed : (u : ℕ) (y : R) → u < k.layout.depth → now_world.place u ≡ posted → last_post u sh.history ≡ some y
      → Owed R k s sh r (Take u 1 (Some y)) (set s.words (state_at k.layout u) 0)
  take_owed u y lu its last = record {
    finds = sym (ap posted_bit its) ∙ (sh.tags u lu).posted;
    own = tt;
    value = (y, refl, last);
    needs = record {
      in_layout = lu;
      caller = ok.number;
      unspent = none_won;
      places =
          λ t l is. subst (λ (z : ℕ). now_world.place z ≡ posted)
          (sym (only_is k narrow t u (only_one t u is))) its;
    };
    cells = take_cells k s.words now_cells sh.cells u lu;
    tags = λ t l. let tag = sh.tags t l in let q : Place = now_world.place t in
        reshow
        (takes r.number q (only t u) (only_small k narrow t u)
        (λ a. subst (λ (z : ℕ). now_world.place z ≡ posted) (sym (only_is k narrow t u a)) its))
        (pick_only t u (held r.number) q) tag.word tag.aside
        (taken_at now_cells.state q u t tag.posted)
        (held_with u t lu l) (ok.swept t l);
  }

  -- ---- a sweep: swap, then spill

  swept_long : (i : ℕ) → i < words k.layout → i < length r.swept
  swept_long i h = subst (λ (z : ℕ). i < z) (sym ok.swept_wide) h

  -- a swap of a cleared set
  pub swap_owed : (i : ℕ) → i < words k.layout
      → Owed R k s sh r (Word (Swap i (get_or s.words (aside_at i) 0))) (set s.words (aside_at i) 0)
  swap_owed i inside =
      let f : ℕ = get_or s.words (aside_at i) 0 in let found : f ≡ now_cells.words.aside i = sh.cells.aside i inside in
      record {
        finds = found;
        own = tt;
        value = tt;
        needs = record { in_layout = inside; caller = ok.number; unspent = none_won; places = λ t l is. tt };
        cells = aside_cells k s.words now_cells sh.cells i 0 0 inside refl (pow_pos (word_depth k.layout i));
        tags = λ t l. let tag = sh.tags t l in let q : Place = now_world.place t in
            let b : ℕ = t % 2 ^ k.layout.shift in
            reshow
            (gathers r.number q (only (t / 2 ^ k.layout.shift) i) (only_small k narrow (t / 2 ^ k.layout.shift) i))
            (pick_swept (t / 2 ^ k.layout.shift) i r.number q) tag.word
            (none_left k narrow now_cells.words.aside i t (aside_bit q) (aside_small q) tag.aside)
            tag.posted (ok.held t l)
            ((λ z. max (ok.swept t l z)
            (among_as k narrow i f t (aside_bit q) (aside_small q)
            (λ e. (λ z. bit_at (found z) b) ∙ ap (λ (j : ℕ). bit_at (now_cells.words.aside j) b) (sym e)
            ∙ sym tag.aside) z))
            ∙ or_bit k narrow (λ j. get_or r.swept j 0) i f t ∙ list_bit k narrow r.swept i _ t (swept_long i inside));
      }

  -- the sweep with fewer bits of one word
  swept_minus : (i m t : ℕ) → i < words k.layout → t < k.layout.depth → m < 2 ^ 64
      → min (sweep_bit r.number (now_world.place t)) (1 - among k.layout.shift i m t) ≡ tag_bit k.layout
      (set r.swept i (without (get_or r.swept i 0) m)) t
  swept_minus i m t h l fits = ap (λ (z : ℕ). min z (1 - among k.layout.shift i m t)) (ok.swept t l)
      ∙ minus_bit k narrow (λ j. get_or r.swept j 0) i m t fits
      ∙ list_bit k narrow r.swept i _ t (swept_long i h)

  module _ (i m : ℕ) (inside : i < words k.layout) (low : m < 2 ^ word_depth k.layout i) (fits : m < 2 ^ 64)
      (room : r.won + count_ones m ≤ MOST_WON)
      (has : (t : ℕ) → t < k.layout.depth → among k.layout.shift i m t ≡ 1 → tag_bit k.layout r.swept t ≡ 1) where
    -- a swept tag of the mask
    is_swept : (t : ℕ) → t < k.layout.depth → among k.layout.shift i m t ≡ 1 → now_world.place t ≡ sweep r.number
    is_swept t l a = swept_from r.number (now_world.place t) (ok.swept t l ∙ has t l a)

    -- what is kept of a sweep
    pub keep_owed : Owed R k s sh r (Word (Keep i m)) s.words
    keep_owed = record {
      finds = tt;
      own = tt;
      value = tt;
      needs = record {
        in_layout = (inside, low);
        caller = ok.number;
        unspent = (let w : r.won ≡ now_world.won r.number = ok.won in omega arith);
        places = λ t l named. is_swept t l (among_one k.layout i m t named);
      };
      cells = sh.cells;
      tags = λ t l. let tag = sh.tags t l in let q : Place = now_world.place t in
          reshow (keeps r.number q (among k.layout.shift i m t) (among_small k narrow i m t) (is_swept t l))
          (pick_among k.layout i m t (held r.number) q) tag.word tag.aside tag.posted
          (held_or R k narrow s sh r ok i m t inside l) (swept_minus i m t inside l fits);
    }

  -- what was swept is taken
  pub swept_taken : (i : ℕ) → i < words k.layout → (b : ℕ) → bit_at (get_or r.swept i 0) b ≡ 1
      → bit_at (get_or s.words (word_at i) 0) b ≡ 1
  swept_taken i inside b one =
      let tag = bit_tag k.layout i (get_or r.swept i 0) b (ok.swept_within i inside) one in let t : ℕ = tag.0 in
      let mine = ok.swept t tag.1 ∙ (λ j. bit_at (get_or r.swept (tag.2 j) 0) (tag.3 j)) ∙ one in
      ap (λ (z : ℕ). bit_at z b) (sh.cells.word i inside)
      ∙ sym (λ j. bit_at (now_cells.words.word (tag.2 j)) (tag.3 j)) ∙ sym (sh.tags t tag.1).word
      ∙ swept_word r.number (now_world.place t) mine
    where
      swept_word : (c : ℕ) (q : Place) → sweep_bit c q ≡ 1 → word_bit q ≡ 1
      swept_word c q e = grind arith

  module _ (i : ℕ) (inside : i < words k.layout) (fits : get_or r.swept i 0 < 2 ^ 64) where
    abbrev mask : ℕ
    mask = get_or r.swept i 0

    -- a spill of what was swept
    pub spill_owed : Owed R k s sh r (Word (Spill i mask (get_or s.words (word_at i) 0)))
        (set s.words (word_at i) (without (get_or s.words (word_at i) 0) mask))
    spill_owed = let n : ℕ = get_or s.words (word_at i) 0 in
        let found : n ≡ now_cells.words.word i = sh.cells.word i inside in
        let x : ℕ = without (now_cells.words.word i) mask in
        let same : without n mask ≡ x = ap (λ (z : ℕ). without z mask) found in
        record {
          finds = found;
          own = tt;
          value = tt;
          needs = record { in_layout = inside; caller = ok.number; unspent = none_won; places = λ t l is. tt };
          cells = word_cells k s.words now_cells sh.cells i (without n mask) x inside same
              (let a = minus_le (now_cells.words.word i) mask in let b = sh.cells.word_within i inside in omega arith);
          tags = λ t l. let tag = sh.tags t l in let q : Place = now_world.place t in
              let c : ℕ = r.number in
              reshow (spills c q (only (t / 2 ^ k.layout.shift) i) (only_small k narrow (t / 2 ^ k.layout.shift) i))
              (pick_spilled (t / 2 ^ k.layout.shift) i c q)
              ((λ z. min (tag.word z)
              (1 - among_as k narrow i mask t (sweep_bit c q) (sweep_small c q)
              (λ e. ap (λ (j : ℕ). bit_at (get_or r.swept j 0) (t % 2 ^ k.layout.shift)) (sym e)
              ∙ sym (ok.swept t l)) z))
              ∙ minus_bit k narrow now_cells.words.word i mask t fits)
              tag.aside tag.posted (ok.held t l)
              (none_left k narrow (λ j. get_or r.swept j 0) i t (sweep_bit c q) (sweep_small c q) (ok.swept t l)
              ∙ list_bit k narrow r.swept i 0 t (swept_long i inside));
        }
