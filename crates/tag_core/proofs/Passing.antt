-- Records pass from one seat to another.
use Rattle.std.specs.Prelude.{◌%◌, ◌<◌, ◌^◌, ◌∷◌, ◌≡◌}
use Rattle.tag_core.proofs.Uses.{[], all_fresh, ap, arith, bit_at, bit_at-zero, Bool, both_views, cond, first_view, fresh_record, get_elem?, get_or, HasHistory, History, IsKnown, IsOpening, Joins, Layout, length, length-replicate, List, map, ne_eqb, opening, other_views, place_of, pow_pos, Record}
use Rattle.tag_core.proofs.Uses.{refl, replicate, Shape, Shown, some, Splits, Standing, standing-fresh, StartsAtZero, State, subst, suc, sum_below-none, sym, tag_bit, tags_from, View, viewing, word_depth, word_of, words, zero, ℕ, ◌∙◌}
use Rattle.tag_core.specs.Spacing.{aside_at, berth_at, clock_at, state_at, table_width, waiters_at, word_at}
use Rattle.step_ledger.proofs.Moves.{splits_first, joins_behind}

-- each of so many zeros is 0
pub zeros : (n i : ℕ) → ◌≡◌ {A = ℕ} (get_or (replicate n 0) i 0) 0
zeros zero i = refl
zeros (suc n) zero = refl
zeros (suc n) (suc i) = zeros n i

no_bits : (l : Layout) (n t : ℕ) → 0 ≡ tag_bit l (replicate n 0) t
no_bits l n t = sym (ap (λ (z : ℕ). bit_at z (place_of l t)) (zeros n (word_of l t)) ∙ bit_at-zero (place_of l t))

-- a map before which nothing was won
pub starts : (k : Shape) → StartsAtZero k → IsOpening k
starts k zero_now = record {
  unspent = λ c. let none = zero_now.0 c in omega arith;
  even = sum_below-none (λ c. get_or k.won_before.value c 0) k.callers (λ c l. zero_now.0 c)
      ∙ sym (sum_below-none (λ c. get_or k.back_before.value c 0) k.callers (λ c l. zero_now.1 c));
}

module _ (R : Type 0) (k : Shape) where
  fresh_ok : (c : ℕ) → c < k.callers → IsKnown k [] (fresh_record {R = R} k c)
  fresh_ok c h = record {
    shape = refl;
    number = h;
    held_wide = length-replicate (words k.layout) 0;
    swept_wide = length-replicate (words k.layout) 0;
    within = none_within;
    swept_within = none_within;
    held = λ t l. no_bits k.layout (words k.layout) t;
    swept = λ t l. no_bits k.layout (words k.layout) t;
    won = refl;
    back = refl;
    steps = refl;
  }
    where
      none_within : (i : ℕ) → i < words k.layout → get_or (replicate (words k.layout) 0) i 0 < 2 ^ word_depth k.layout i
      none_within i l = subst (λ (z : ℕ). z < 2 ^ word_depth k.layout i) (sym (zeros (words k.layout) i))
          (pow_pos (word_depth k.layout i))

  -- the history of no steps shows a new caller's record
  pub fresh_history : (c : ℕ) → c < k.callers → HasHistory k (fresh_record {R = R} k c)
  fresh_history c h = record {
    history = [];
    lawful = record { finds = tt; happens = tt };
    known = fresh_ok c h;
    tags = λ t l. record {
      word = sym (bit_at-zero (t % 2 ^ k.layout.shift));
      aside = sym (bit_at-zero (t % 2 ^ k.layout.shift));
      posted = refl;
    };
    word_within = λ i l. pow_pos (word_depth k.layout i);
    aside_within = λ i l. pow_pos (word_depth k.layout i);
  }

  at_home : (xs : List R) (t : ℕ) → t < length xs → (y : R) × (get_elem? (map some xs) t ≡ some (some y))
  at_home [] t h = absurd (omega arith)
  at_home (x ∷ xs) zero h = (x, refl)
  at_home (x ∷ xs) (suc t) h = at_home xs t (omega arith)

  -- a table whose words are 0 shows a new map
  pub opens : (table : List ℕ) (slots : List R) → IsOpening k → length table ≡ table_width k.layout
      → ((i : ℕ) → get_or table i 0 ≡ 0) → length slots ≡ k.layout.depth → Shown k (opening table slots (all_fresh k))
  opens table slots starts wide blank deep =
      let now = standing-fresh (fresh_record {R = R} k) (λ (r : Record R). r.number) (IsKnown k []) k.callers (λ c. refl)
      fresh_ok in record {
        opening = starts;
        history = [];
        lawful = record { finds = tt; happens = tt };
        cells = record {
          wide = wide;
          word = λ i l. blank (word_at i);
          aside = λ i l. blank (aside_at i);
          state = λ t l. blank (state_at k.layout t);
          waiters = blank waiters_at;
          clock = blank clock_at;
          berth = λ i l. blank (berth_at i);
          word_within = λ i l. pow_pos (word_depth k.layout i);
          aside_within = λ i l. pow_pos (word_depth k.layout i);
        };
        tags = λ t l. record {
          word = sym (bit_at-zero (t % 2 ^ k.layout.shift));
          aside = sym
              (bit_at-zero (t % 2 ^ k.layout.shift));
          posted = refl;
        };
        slots = λ t l. at_home slots t (omega arith);
        posts = λ t l e. cc;
        seat = now.seat;
        position = now.position;
        records = now.records;
        each = now.each;
      }

  -- where the callers' records stand, each as this history has it
  abbrev Stand : History R → List (View R) → Type 0
  Stand h views = Standing (λ (r : Record R). r.number) (IsKnown k h) k.callers views

  standing : (s : State R (View R)) (sh : Shown k s) → Stand sh.history s.views
  standing s sh = record { seat = sh.seat; position = sh.position; records = sh.records; each = sh.each }

  -- the rule holds where these records stand in other views
  reseated : (s : State R (View R)) (sh : Shown k s) (views : List (View R)) → Stand sh.history views
      → Shown k record { words = s.words; homes = s.homes; views = views }
  reseated s sh views now = record {
    opening = sh.opening;
    history = sh.history;
    lawful = sh.lawful;
    cells = sh.cells;
    tags = sh.tags;
    slots = sh.slots;
    posts = sh.posts;
    seat = now.seat;
    position = now.position;
    records = now.records;
    each = now.each;
  }

  -- the first record may go to a seat of its own
  pub hands_first : (id : ℕ) (v : View R) (r : Record R) (rs : List (Record R)) → v ≡ viewing (r ∷ rs)
      → Splits (Shown k) id v (other_views v) (first_view v)
  hands_first = splits_first (λ (r : Record R). r.number) k.callers (Shown k) (λ s sh. IsKnown k sh.history) standing
      reseated

  -- the other's records stand behind those of the first
  pub joins : (id : ℕ) (v : View R) (other : ℕ) (w : View R)
      → Joins (Shown k) id v other w (both_views v w) (viewing [])
  joins = joins_behind (λ (r : Record R). r.number) k.callers (Shown k) (λ s sh. IsKnown k sh.history) standing reseated

  -- a record that holds nothing carries nothing
  pub carries_none : (n : ℕ) → [] ≡ tags_from (tag_bit k.layout (replicate n 0)) 0 k.layout.depth
  carries_none n = none_from (tag_bit k.layout (replicate n 0)) (λ t. sym (no_bits k.layout n t)) k.layout.depth 0
    where
      none_from : (f : ℕ → ℕ) → ((t : ℕ) → f t ≡ 0) → (m a : ℕ) → [] ≡ tags_from f a m
      none_from f z zero a = refl
      none_from f z (suc m) a = none_from f z m (suc a)
          ∙ ap (λ (b : Bool). cond b (a ∷ tags_from f (suc a) m) (tags_from f (suc a) m))
          (sym (ne_eqb (f a) 1 (λ e. let y = z a in omega arith)))
