-- What a claim, a give and a look owe.
use Rattle.std.specs.Prelude.{◌%◌, ◌*◌, ◌+◌, ◌-◌, ◌/◌, ◌<◌, ◌^◌, ◌≡◌, ◌≤◌}
use Rattle.tag_core.proofs.Uses.{ap, arith, aside_bit, Berth, berth_word, bit_at, bit_or, Cells, cells_of, changed_at, Claimed, count_ones, dite, events_of, free, get_or, get_or-set_other, get_or-set_same, Give, HasCells, held, held_bit, IsKnown, IsWithin, length-set, List, Look, LookAside, max, MAX_CALLERS, MayHappen, min}
use Rattle.tag_core.proofs.Uses.{MOST_WON, None, opening_world, or_lt, Place, place_of, posted_bit, ReadNote, Record, refl, set, Shape, Shown, State, state_word, Step, subst, suc, sym, tag_bit, Take, TURNS, View, with_berth, without, won-history, Word, word_bit, word_depth, word_of, word_of-below, words, World, world_of, zero, ℕ, ℕ_discrete}
use Rattle.tag_core.proofs.Uses.{◌∙◌}
use Rattle.tag_model.specs.declared.event.Event.TheVariants as event
use Rattle.tag_core.specs.Spacing.{aside_at, berth_at, clock_at, state_at, waiters_at, word_at}
use Rattle.tag_core.proofs.Picks.{pick, among, among_one, pick_among}
use Rattle.tag_core.proofs.Turns.{Shows, claims, gives, unchanged, reshow, free_from, held_from}
use Rattle.tag_core.proofs.Masks.{bit_minus, minus_le, ones_minus}
use Rattle.tag_core.proofs.Stand.{spread}
use Rattle.tag_core.proofs.Advance.{Owed}
use Rattle.tag_core.proofs.TagBits.{place_small, small_word, among_here, among_else, among_small, or_bit, minus_bit, list_bit}

-- what a change of one of the table's words is
ruleset change = (length-set, get_or-set_same, get_or-set_other, spread)

-- a tag whose state has the word 0 is not posted
unposted : (q : Place) (posted note : ℕ) → posted_bit q ≡ posted → state_word posted note ≡ 0 → posted ≡ 0
unposted q zero note is none_there = refl
unposted q (suc posted) note is none_there = grind (arith, none_there)

module _ (k : Shape) (ws : List ℕ) (c : Cells) (has : HasCells k ws c) where
  -- the table after a change of one word
  pub word_cells : (i x x' : ℕ) → i < words k.layout → x ≡ x' → IsWithin k.layout i x'
      → HasCells k (set ws (word_at i) x) (record c { words = record c.words { word = changed_at c.words.word i x' } })
  word_cells i x x' h same fits =
      grind (arith, change, has.word, has.aside, has.state, has.waiters, has.clock, has.berth, has.word_within, has.aside_within)

  -- after a change of one cleared set
  pub aside_cells : (i x x' : ℕ) → i < words k.layout → x ≡ x' → IsWithin k.layout i x'
      → HasCells k (set ws (aside_at i) x)
      (record c { words = record c.words { aside = changed_at c.words.aside i x' } })
  aside_cells i x x' h same fits =
      grind (arith, change, has.word, has.aside, has.state, has.waiters, has.clock, has.berth, has.word_within, has.aside_within)

  -- after a post of one tag
  pub post_cells : (u note x : ℕ) → u < k.layout.depth → x ≡ suc note → HasCells k (set ws (state_at k.layout u) x)
      (record c { state = changed_at c.state u 1; note = changed_at c.note u note })
  post_cells u note x h same =
      grind (arith, change, has.word, has.aside, has.state, has.waiters, has.clock, has.berth, has.word_within, has.aside_within)

  -- after a take of one tag
  pub take_cells : (u : ℕ) → u < k.layout.depth
      → HasCells k (set ws (state_at k.layout u) 0) (record c { state = changed_at c.state u 0 })
  take_cells u h =
      grind (arith, change, has.word, has.aside, has.state, has.waiters, has.clock, has.berth, has.word_within, has.aside_within)

  -- after a change of the word of all who wait
  pub waiters_cells : (x x' : ℕ) → x ≡ x'
      → HasCells k (set ws waiters_at x) (record c { waits = record c.waits { waiters = x' } })
  waiters_cells x x' same =
      grind (arith, change, has.word, has.aside, has.state, has.waiters, has.clock, has.berth, has.word_within, has.aside_within)

  -- after a change of the clock
  pub clock_cells : (x clock : ℕ) → x ≡ 8 * (clock % TURNS)
      → HasCells k (set ws clock_at x) (record c { waits = record c.waits { clock = clock } })
  clock_cells x clock same =
      grind (arith, change, has.word, has.aside, has.state, has.waiters, has.clock, has.berth, has.word_within, has.aside_within)

  -- after a change of one berth
  pub berth_cells : (d x : ℕ) (berth : Berth) → d < MAX_CALLERS → x ≡ berth_word berth → HasCells k (set ws (berth_at d) x)
      (record c { waits = record c.waits { berths = with_berth c.waits.berths d berth } })
  berth_cells d x berth low same =
      grind (arith, change, has.word, has.aside, has.state, has.waiters, has.clock, has.berth, has.word_within, has.aside_within)

module _ (R : Type 0) (k : Shape) (narrow : k.layout.shift ≤ 6) (s : State R (View R)) (sh : Shown k s) (r : Record R)
    (ok : IsKnown k sh.history r) where
  abbrev now_cells : Cells
  now_cells = cells_of sh.history

  abbrev now_world : World
  now_world = world_of k sh.history

  -- nobody has won too much yet
  unspent : (c : ℕ) → now_world.won c ≤ MOST_WON
  unspent = won-history k.layout k.callers (events_of k.layout sh.history)
      (opening_world k) sh.lawful.happens sh.opening.unspent

  -- a step that wins nothing passes no limit
  pub none_more : (c : ℕ) → now_world.won c + 0 ≤ MOST_WON
  none_more c = let few = unspent c in omega arith

  -- there is a caller
  pub some_caller : 0 < k.callers
  some_caller = let low = ok.number in omega arith

  -- the held set with more bits of one word
  pub held_or : (i m t : ℕ) → i < words k.layout → t < k.layout.depth
      → max (held_bit r.number (now_world.place t)) (among k.layout.shift i m t) ≡ tag_bit k.layout
      (set r.held i (bit_or (get_or r.held i 0) m)) t
  held_or i m t h l = ap (λ (z : ℕ). max z (among k.layout.shift i m t)) (ok.held t l)
      ∙ or_bit k narrow (λ j. get_or r.held j 0) i m t
      ∙ list_bit k narrow r.held i _ t (subst (λ (z : ℕ). i < z) (sym ok.held_wide) h)

  module _ (i m : ℕ) (inside : i < words k.layout) (fits : m < 2 ^ word_depth k.layout i)
      (room : r.won + count_ones m ≤ MOST_WON) where
    abbrev n : ℕ
    n = get_or s.words (word_at i) 0

    found : n ≡ now_cells.words.word i
    found = sh.cells.word i inside

    -- the claim wins those bits of the mask that are 0 in the word
    new_bit : (t : ℕ) → t < k.layout.depth
        → min (among k.layout.shift i m t) (1 - word_bit (now_world.place t)) ≡ among k.layout.shift i (without m n) t
    new_bit t l = let b : ℕ = t % 2 ^ k.layout.shift in
        let n_fits : n < 2 ^ 64 = subst (λ (z : ℕ). z < 2 ^ 64) (sym found)
        (small_word k narrow i (now_cells.words.word i) (sh.cells.word_within i inside)) in
        dite (ℕ_discrete (t / 2 ^ k.layout.shift) i)
        (λ e. let word : word_bit (now_world.place t) ≡ bit_at n b = (sh.tags t l).word
        ∙ ap (λ (j : ℕ). bit_at (now_cells.words.word j) b) e ∙ ap (λ (z : ℕ). bit_at z b) (sym found) in
        let was = among_here k narrow i m t e in let won = among_here k narrow i (without m n) t e in
        let both = bit_minus m n b n_fits (place_small k narrow t) in omega arith)
        (λ e. let was = among_else k narrow i m t e in let won = among_else k narrow i (without m n) t e in omega arith)

    -- a claim
    pub claim_owed : Owed R k s sh r (Word (Claimed i m n)) (set s.words (word_at i) (bit_or n m))
    claim_owed = let x : ℕ = bit_or (now_cells.words.word i) m in
        let same : bit_or n m ≡ x = ap (λ (z : ℕ). bit_or z m) found in
        record {
          finds = found;
          own = tt;
          value = tt;
          needs = record {
            in_layout = (inside, (let a = minus_le m n in omega arith));
            caller = ok.number;
            unspent = (let w : r.won ≡ now_world.won r.number = ok.won in
                let few : count_ones (without m n) ≤ count_ones m = ones_minus m n in omega arith);
            places = λ t l named. free_from (now_world.place t)
                (let one = among_one k.layout i (without m n) t named in let new = new_bit t l in omega arith);
          };
          cells = word_cells k s.words now_cells sh.cells i (bit_or n m) x inside same
              (or_lt (word_depth k.layout i) (now_cells.words.word i) m (sh.cells.word_within i inside) fits);
          tags = λ t l. let tag = sh.tags t l in let q : Place = now_world.place t in
              reshow (claims r.number q (among k.layout.shift i m t) (among_small k narrow i m t))
              (ap (λ (z : ℕ). pick z (held r.number) q) (new_bit t l)
              ∙ pick_among k.layout i (without m n) t (held r.number) q)
              (ap (λ (z : ℕ). max z (among k.layout.shift i m t)) tag.word
              ∙ or_bit k narrow now_cells.words.word i m t) tag.aside tag.posted
              (ap (max (held_bit r.number q)) (new_bit t l) ∙ held_or i (without m n) t inside l) (ok.swept t l);
        }

  -- the held set with fewer bits of one word
  pub held_minus : (i m t : ℕ) → i < words k.layout → t < k.layout.depth → m < 2 ^ 64
      → min (held_bit r.number (now_world.place t)) (1 - among k.layout.shift i m t) ≡ tag_bit k.layout
      (set r.held i (without (get_or r.held i 0) m)) t
  held_minus i m t h l fits = ap (λ (z : ℕ). min z (1 - among k.layout.shift i m t)) (ok.held t l)
      ∙ minus_bit k narrow (λ j. get_or r.held j 0) i m t fits
      ∙ list_bit k narrow r.held i _ t (subst (λ (z : ℕ). i < z) (sym ok.held_wide) h)

  -- a held tag of a mask
  pub is_held : (i m t : ℕ)
      → ((j : ℕ) → j < k.layout.depth → among k.layout.shift i m j ≡ 1 → tag_bit k.layout r.held j ≡ 1)
      → t < k.layout.depth → among k.layout.shift i m t ≡ 1 → now_world.place t ≡ held r.number
  is_held i m t has l a = held_from r.number (now_world.place t) (ok.held t l ∙ has t l a)

  module _ (i m : ℕ) (inside : i < words k.layout) (low : m < 2 ^ word_depth k.layout i) (fits : m < 2 ^ 64)
      (has : (t : ℕ) → t < k.layout.depth → among k.layout.shift i m t ≡ 1 → tag_bit k.layout r.held t ≡ 1) where
    -- a give of held tags
    pub give_owed : Owed R k s sh r (Word (Give i m (get_or s.words (word_at i) 0)))
        (set s.words (word_at i) (without (get_or s.words (word_at i) 0) m))
    give_owed = let n : ℕ = get_or s.words (word_at i) 0 in
        let found : n ≡ now_cells.words.word i = sh.cells.word i inside in
        let x : ℕ = without (now_cells.words.word i) m in
        let same : without n m ≡ x = ap (λ (z : ℕ). without z m) found in
        record {
          finds = found;
          own = tt;
          value = tt;
          needs = record {
            in_layout =
                (inside, low);
            caller = ok.number;
            unspent = none_more r.number;
            places =
                λ t l named. is_held i m t has l (among_one k.layout i m t named);
          };
          cells = word_cells k s.words now_cells sh.cells i (without n m) x inside same
              (let a = minus_le (now_cells.words.word i) m in let b = sh.cells.word_within i inside in omega arith);
          tags = λ t l. let tag = sh.tags t l in
              let q : Place = now_world.place t in
              reshow
              (gives r.number q (among k.layout.shift i m t) (among_small k narrow i m t) (is_held i m t has l))
              (pick_among k.layout i m t free q)
              (ap (λ (z : ℕ). min z (1 - among k.layout.shift i m t)) tag.word
              ∙ minus_bit k narrow now_cells.words.word i m t fits) tag.aside tag.posted
              (held_minus i m t inside l fits)
              (ok.swept t l);
        }

  -- ---- steps that change nothing

  abbrev Unmoved : Step R → Type 0
  Unmoved st = Owed R k s sh r st s.words

  pub look_needs : MayHappen k.layout k.callers now_world event.Look
  look_needs = record { in_layout = tt; caller = some_caller; unspent = none_more 0; places = λ t l is. tt }

  pub same_tags : (t : ℕ) → t < k.layout.depth → Shows r.number (now_world.place t) (now_world.place t)
      (bit_at (now_cells.words.word (word_of k.layout t)) (place_of k.layout t))
      (bit_at (now_cells.words.aside (word_of k.layout t)) (place_of k.layout t)) (now_cells.state t)
      (tag_bit k.layout r.held t) (tag_bit k.layout r.swept t)
  same_tags t l = let tag = sh.tags t l in
      unchanged r.number (now_world.place t) _ _ _ _ _ tag.word tag.aside tag.posted (ok.held t l) (ok.swept t l)

  -- a look at a word
  pub look_owed : (i : ℕ) → i < words k.layout → Unmoved (Word (Look i (get_or s.words (word_at i) 0)))
  look_owed i inside = record {
    finds = sh.cells.word i inside;
    own = tt;
    value = tt;
    needs = look_needs;
    cells = sh.cells;
    tags = same_tags;
  }

  -- a look at a cleared set
  pub look_aside_owed : (i : ℕ) → i < words k.layout → Unmoved (Word (LookAside i (get_or s.words (aside_at i) 0)))
  look_aside_owed i inside = record {
    finds = sh.cells.aside i inside;
    own = tt;
    value = tt;
    needs = look_needs;
    cells = sh.cells;
    tags = same_tags;
  }

  -- a take that found no post
  pub miss_owed : (u : ℕ) → u < k.layout.depth → get_or s.words (state_at k.layout u) 0 ≡ 0 → Unmoved (Take u 0 None)
  miss_owed u l e = record {
    finds = sym (unposted (now_world.place u) (now_cells.state u) (now_cells.note u) (sh.tags u l).posted
        (sym (sh.cells.state u l) ∙ e));
    own = tt;
    value = tt;
    needs = look_needs;
    cells = sh.cells;
    tags = same_tags;
  }

  -- a load of a tag's state
  pub read_owed : (u : ℕ) → u < k.layout.depth → Unmoved (ReadNote u (get_or s.words (state_at k.layout u) 0))
  read_owed u l = record {
    finds = sh.cells.state u l;
    own = tt;
    value = tt;
    needs = look_needs;
    cells = sh.cells;
    tags = same_tags;
  }

  -- a held tag is taken and not aside
  pub held_shown : (t : ℕ) → t < k.layout.depth → tag_bit k.layout r.held t ≡ 1
      → (bit_at (get_or s.words (word_at (word_of k.layout t)) 0) (place_of k.layout t) ≡ 1) ×
      (bit_at (get_or s.words (aside_at (word_of k.layout t)) 0) (place_of k.layout t) ≡ 0)
  held_shown t l has =
      let is : now_world.place t ≡ held r.number = held_from r.number (now_world.place t) (ok.held t l ∙ has) in
      let i : ℕ = word_of k.layout t in let inside = word_of-below k.layout t l in (
        ap (λ (z : ℕ). bit_at z (place_of k.layout t)) (sh.cells.word i inside)
            ∙ sym (sh.tags t l).word ∙ ap word_bit is,
        ap (λ (z : ℕ). bit_at z (place_of k.layout t)) (sh.cells.aside i inside)
            ∙ sym (sh.tags t l).aside ∙ ap aside_bit is,
      )
