-- The answer of the reference search, and the marks after it, in terms of a choice.
use Rattle.base_tests.proofs.Uses.{[], All, All-cons, All-from_get_or, All-head, All-map, All-nil, All-push, All-tail, all_scan, ap, arith, aside_then, batch, batch_words, bit_at, bit_at_set_other, bit_at_set_same, bit_or, Bool, chosen_aside, chosen_free, dec_lt, dite, drop, false, free_then, freed_in, get_or, HasNoRun, insert, is_available, is_in, IsAside, IsAvailableRun, IsBatchChoice, IsBusy, IsChoice, IsFirst, IsFree, IsFull, IsLeastAvailable, IsSet, Layout, length, List, map, mark_at, nat_le, nat_lt, no_batch, None, not, nothing, place_of, place_of-tag_at, Pool, pool_of_marks, Reach, refl, scan_order, Some, subst, sym, tag_at, tag_at-below, take, taken_at, taken_from, true, visit_of, visits, w64, word_bits, word_depth, word_of, word_of-tag_at, words, words_in, ℕ, ℕ_discrete, ◌∙◌}
use Rattle.std.proofs.Common.{◌≡◌, ◌≢◌, ◌↔◌, ◌+◌, ◌*◌, ◌%◌, ◌^◌, ◌<◌, ◌≤◌, ◌&&◌, ◌||◌}
use Rattle.std.proofs.Common.{◌∷◌, ◌++◌}
use Rattle.std.specs.Prelude.{nat_eq}
use Rattle.std.proofs.lemmas.Bool.{ltb-true}
use Rattle.std.proofs.lemmas.Bool.Decides.{nat_tests}
use Rattle.std.proofs.lemmas.List.{take-append-drop, take_all, take_more, drop_more, map-append, length-take}
use Rattle.std.proofs.lemmas.List.{get_or-take, get_or_push, get_or_append_left, length_push}
use Rattle.tag_search.specs.Search.{Visit}

-- a run of one place is that place
one_place : (k o : ℕ) → (nat_le k o && nat_lt o (k + 1)) ≡ nat_eq k o
one_place k o = grind (arith, nat_tests)

no_place : (k o : ℕ) → (nat_le k o && nat_lt o (k + 0)) ≡ false
no_place k o = grind (arith, nat_tests)

false_behind : (b : Bool) → (b && false) ≡ false
false_behind true = refl
false_behind false = refl

true_behind : (b : Bool) → (b && true) ≡ b
true_behind true = refl
true_behind false = refl

pub taken_from-one : (w k : ℕ) (p : Pool) → taken_from w k 1 p ≡ taken_at w k p
taken_from-one w k p = λ z. record { free = λ i o. p.free i o && not (nat_eq i w && one_place k o z); aside = p.aside }

pub taken_from-none : (w k : ℕ) (p : Pool) → taken_from w k 0 p ≡ p
taken_from-none w k p = λ z. record { free = λ i o. each i o z; aside = p.aside }
  where
    each : (i o : ℕ) → (p.free i o && not (nat_eq i w && (nat_le k o && nat_lt o (k + 0)))) ≡ p.free i o
    each i o = ap (λ (b : Bool). p.free i o && not (nat_eq i w && b)) (no_place k o)
        ∙ ap (λ (b : Bool). p.free i o && not b) (false_behind (nat_eq i w)) ∙ true_behind (p.free i o)

-- the marks of a place past the word's depth are false
free_here : (b n f a s t : Bool) → (b ≡ true → n ≡ ((f || (s && a)) && not t))
    → (b && n) ≡ (((b && f) || (s && (b && a))) && not t)
free_here true n f a s t h = h refl
free_here false n f a s t h = sym (ap (λ (x : Bool). x && not t) (false_behind s))

aside_here : (b n a s : Bool) → (b ≡ true → n ≡ (not s && a)) → (b && n) ≡ (not s && (b && a))
aside_here true n a s h = h refl
aside_here false n a s h = sym (false_behind (not s))

-- the marks after a change describe the pool after it
pub marks_then : (l : Layout) (free aside free' aside' : List Bool) (swept : List ℕ) (word place n : ℕ)
    → ((t : ℕ) → t < l.depth → get_or free' t false ≡ free_then l free aside swept word place n t (word_of l t)
    (place_of l t))
    → ((t : ℕ) → t < l.depth → get_or aside' t false ≡ aside_then aside swept t (word_of l t))
    → pool_of_marks l free' aside' ≡ taken_from word place n (freed_in swept (pool_of_marks l free aside))
marks_then l free aside free' aside' swept word place n each each' = λ z. record {
  free = λ i k. free_at i k z;
  aside = λ i k. aside_at i k z;
}
  where
    at : (i k : ℕ) → nat_lt k (word_depth l i) ≡ true → k < word_depth l i
    at i k e = ltb-true k (word_depth l i) e

    free_at : (i k : ℕ) → mark_at l free' i k
        ≡ (taken_from word place n (freed_in swept (pool_of_marks l free aside))).free i k
    free_at i k = free_here (nat_lt k (word_depth l i)) (get_or free' (tag_at l i k) false)
        (get_or free (tag_at l i k) false) (get_or aside (tag_at l i k) false)
        (is_in i swept) (nat_eq i word && (nat_le place k && nat_lt k (place + n)))
        (λ e. let below = at i k e in let t : ℕ = tag_at l i k in let in_word : k < word_bits l = omega arith in
        each t (tag_at-below l i k below)
        ∙ (λ z. free_then l free aside swept word place n t (word_of-tag_at l i k in_word z)
        (place_of-tag_at l i k in_word z)))

    aside_at : (i k : ℕ) → mark_at l aside' i k
        ≡ (taken_from word place n (freed_in swept (pool_of_marks l free aside))).aside i k
    aside_at i k = aside_here (nat_lt k (word_depth l i)) (get_or aside' (tag_at l i k) false)
        (get_or aside (tag_at l i k) false) (is_in i swept)
        (λ e. let below = at i k e in let t : ℕ = tag_at l i k in let in_word : k < word_bits l = omega arith in
        each' t (tag_at-below l i k below) ∙ (λ z. aside_then aside swept t (word_of-tag_at l i k in_word z)))

-- a list, split around one of its elements
pub around : (xs : List ℕ) (n x : ℕ) → n < length xs → x ≡ get_or xs n 0 → xs ≡ take n xs ++ x ∷ drop (n + 1) xs
around xs n x h e =
    sym (take-append-drop n xs) ∙ ap (λ (ys : List ℕ). take n xs ++ ys) (drop_more xs n 0 h)
    ∙ ap (λ (y : ℕ). take n xs ++ y ∷ drop (n + 1) xs) (sym e)

words_of_visits : (first : ℕ) (reach : Reach) (xs : List ℕ) → words_in (map (visit_of first reach) xs) ≡ xs
words_of_visits first reach [] = refl
words_of_visits first reach (x ∷ xs) = ap (λ (ys : List ℕ). x ∷ ys) (words_of_visits first reach xs)

-- a place that is neither free nor set aside is busy
pub busy_all : (p : Pool) (w : ℕ) (rank : List ℕ) → All (IsSet p w) rank → All (λ k. p.aside w k ≡ false) rank
    → All (IsBusy p w) rank
busy_all p w rank set out k d h = ap (λ (b : Bool). b || p.aside w (get_or rank k d)) (set k d h) ∙ out k d h

-- the words before an index are full
abbrev pub HavePassed : Pool → ℕ → Reach → List ℕ → Type 0
HavePassed p first reach passed = All (λ (i : ℕ). IsFull p (visit_of first reach i)) passed

passed_visits : (p : Pool) (first : ℕ) (reach : Reach) (passed : List ℕ) → HavePassed p first reach passed
    → All (IsFull p) (map (visit_of first reach) passed)
passed_visits p first reach passed full = All-map (IsFull p) (visit_of first reach) passed full

module _ (l : Layout) (p : Pool) (first : ℕ) (reach : Reach) (order swept : List ℕ)
    (order_is : order ≡ scan_order first (words l) true) where
  -- no word has an available place
  pub reference_nothing : (n : ℕ) (new : Pool) → length order ≤ n → swept ≡ take n order
      → HavePassed p first reach (take n order) → new ≡ taken_from 0 0 0 (freed_in swept p)
      → IsChoice l p (visits l first reach) None new
  reference_nothing n new all swept_is full new_is =
      let whole : take n order ≡ order = take_all n order all in
      let of = visit_of first reach in
      let is : IsChoice l p (map of (take n order)) None (freed_in (words_in (map of (take n order))) p) =
      nothing (passed_visits p first reach (take n order) full) in
      let visits_are : map of (take n order) ≡ visits l first reach = ap (map of) (whole ∙ order_is) in
      let left : freed_in (words_in (map of (take n order))) p ≡ new =
      ap (λ (xs : List ℕ). freed_in xs p) (words_of_visits first reach (take n order) ∙ sym swept_is)
      ∙ sym (taken_from-none 0 0 (freed_in swept p)) ∙ sym new_is in
      subst (λ (q : Pool). IsChoice l p (visits l first reach) None q) left
      (subst (λ (vs : List Visit). IsChoice l p vs None (freed_in (words_in (map of (take n order))) p)) visits_are is)

  module _ (n word place : ℕ) (within : n < length order) (word_is : word ≡ get_or order n 0)
      (full : HavePassed p first reach (take n order)) where
    split : map (visit_of first reach) (take n order) ++ visit_of first reach word ∷ map (visit_of first reach)
        (drop (n + 1) order) ≡ visits l first reach
    split = sym (map-append (visit_of first reach) (take n order) (word ∷ drop (n + 1) order))
        ∙ ap (map (visit_of first reach)) (sym (around order n word within word_is) ∙ order_is)

    -- this word has a free place in its rank
    pub reference_free : (new : Pool) → swept ≡ take n order
        → IsFirst (IsFree p word) (IsSet p word) (visit_of first reach word).rank place
        → new ≡ taken_from word place 1 (freed_in swept p)
        → IsChoice l p (visits l first reach) (Some (tag_at l word place)) new
    reference_free new swept_is is new_is =
        let of = visit_of first reach in let fulls = map of (take n order) in
        let found : IsChoice l p (fulls ++ of word ∷ map of (drop (n + 1) order)) (Some (tag_at l word place))
        (taken_at word place (freed_in (words_in fulls) p)) =
        chosen_free fulls (map of (drop (n + 1) order)) (of word) (passed_visits p first reach (take n order) full)
        is in
        let left : taken_at word place (freed_in (words_in fulls) p) ≡ new =
        ap (λ (xs : List ℕ). taken_at word place (freed_in xs p)) (words_of_visits first reach (take n order)
        ∙ sym swept_is) ∙ sym (taken_from-one word place (freed_in swept p)) ∙ sym new_is in
        subst (λ (q : Pool). IsChoice l p (visits l first reach) (Some (tag_at l word place)) q) left
        (subst (λ (vs : List Visit). IsChoice l p vs (Some (tag_at l word place))
        (taken_at word place (freed_in (words_in fulls) p))) split found)

    -- this word has no free place in its rank, but one set aside
    pub reference_aside : (new : Pool) → swept ≡ word ∷ take n order → All (IsSet p word) (visit_of first reach word).rank
        → IsFirst (IsAside p word) (IsBusy p word) (visit_of first reach word).rank place
        → new ≡ taken_from word place 1 (freed_in swept p)
        → IsChoice l p (visits l first reach) (Some (tag_at l word place)) new
    reference_aside new swept_is set is new_is =
        let of = visit_of first reach in let fulls = map of (take n order) in
        let found : IsChoice l p (fulls ++ of word ∷ map of (drop (n + 1) order)) (Some (tag_at l word place))
        (taken_at word place (freed_in (word ∷ words_in fulls) p)) =
        chosen_aside fulls (map of (drop (n + 1) order)) (of word) (passed_visits p first reach (take n order) full) set
        is in
        let left : taken_at word place (freed_in (word ∷ words_in fulls) p) ≡ new =
        ap (λ (xs : List ℕ). taken_at word place (freed_in xs p))
        (ap (λ (xs : List ℕ). word ∷ xs) (words_of_visits first reach (take n order)) ∙ sym swept_is)
        ∙ sym (taken_from-one word place (freed_in swept p)) ∙ sym new_is in
        subst (λ (q : Pool). IsChoice l p (visits l first reach) (Some (tag_at l word place)) q) left
        (subst (λ (vs : List Visit). IsChoice l p vs (Some (tag_at l word place))
        (taken_at word place (freed_in (word ∷ words_in fulls) p))) split found)

-- a fact of each element of a list is one of each element of its front
front_all : (P : ℕ → Type 0) (xs ys : List ℕ) → All P (xs ++ ys) → All P xs
front_all P [] ys h = All-nil P
front_all P (x ∷ xs) ys h = All-cons P x xs (All-head P x (xs ++ ys) h) (front_all P xs ys (All-tail P x (xs ++ ys) h))

-- the first place set aside in a rank without free places
pub first_aside : (p : Pool) (w : ℕ) (rank : List ℕ) (place : ℕ) → All (IsSet p w) rank
    → IsFirst (IsAside p w) (λ k. p.aside w k ≡ false) rank place → IsFirst (IsAside p w) (IsBusy p w) rank place
first_aside p w rank place set is =
    let before = front_all (IsSet p w) is.before (place ∷ is.behind) (subst (All (IsSet p w)) is.order set) in
    record {
      before = is.before;
      behind = is.behind;
      order = is.order;
      others = busy_all p w is.before before is.others;
      is = is.is;
    }

-- the least available place of a word is unique
least_same : (p : Pool) (w d a b : ℕ) → IsLeastAvailable p w d a → IsLeastAvailable p w d b → a ≡ b
least_same p w d a b x y = dite (dec_lt a b)
    (λ (h : a < b). absurd (clash (is_available p w a) x.is (y.least a h)))
    (λ no. dite (dec_lt b a) (λ (h : b < a). absurd (clash (is_available p w b) y.is (x.least b h))) (λ no'. omega arith))
  where
    clash : (b : Bool) → b ≡ true → b ≡ false → ⊥
    clash b e f = let g : true ≡ false = sym e ∙ f in cc

module _ (l : Layout) (p : Pool) (n first : ℕ) (order swept : List ℕ) (order_is : order ≡ batch_words l first) where
  pub reference_no_batch : (at : ℕ) (new : Pool) → length order ≤ at → swept ≡ take at order
      → All (HasNoRun l n p) (take at order) → new ≡ taken_from 0 0 0 (freed_in swept p)
      → IsBatchChoice l n p (batch_words l first) None new
  reference_no_batch at new all swept_is none new_is =
      let whole : take at order ≡ order = take_all at order all in
      let is : IsBatchChoice l n p (take at order) None (freed_in (take at order) p) = no_batch none in
      let left : freed_in (take at order) p ≡ new = ap (λ (xs : List ℕ). freed_in xs p) (sym swept_is)
      ∙ sym (taken_from-none 0 0 (freed_in swept p)) ∙ sym new_is in
      subst (λ (q : Pool). IsBatchChoice l n p (batch_words l first) None q) left
      (subst (λ (xs : List ℕ). IsBatchChoice l n p xs None (freed_in (take at order) p)) (whole ∙ order_is) is)

  pub reference_batch : (at word place bits : ℕ) (new : Pool) → at < length order → word ≡ get_or order at 0
      → All (HasNoRun l n p) (take at order) → swept ≡ word ∷ take at order
      → IsAvailableRun l n p word place bits → new ≡ taken_from word place n (freed_in swept p)
      → IsBatchChoice l n p (batch_words l first) (Some (tag_at l word place, bits)) new
  reference_batch at word place bits new within word_is none swept_is run new_is =
      let is : IsBatchChoice l n p (take at order ++ word ∷ drop (at + 1) order) (Some (tag_at l word place, bits))
      (taken_from word place n (freed_in (word ∷ take at order) p)) =
      batch (take at order) (drop (at + 1) order) word none run in
      let left : taken_from word place n (freed_in (word ∷ take at order) p) ≡ new =
      ap (λ (xs : List ℕ). taken_from word place n (freed_in xs p)) (sym swept_is) ∙ sym new_is in
      subst (λ (q : Pool). IsBatchChoice l n p (batch_words l first) (Some (tag_at l word place, bits)) q) left
      (subst (λ (xs : List ℕ). IsBatchChoice l n p xs (Some (tag_at l word place, bits))
      (taken_from word place n (freed_in (word ∷ take at order) p))) (sym (around order at word within word_is)
      ∙ order_is) is)

-- the first place of a rank that passes a test
pub first_at : (test : ℕ → Bool) (rank : List ℕ) (n place : ℕ) → n < length rank → place ≡ get_or rank n 0
    → ((j : ℕ) → j < n → test (get_or rank j 0) ≡ false) → test place ≡ true
    → IsFirst (λ k. test k ≡ true) (λ k. test k ≡ false) rank place
first_at test rank n place h e before is = record {
  before = take n rank;
  behind = drop (n + 1) rank;
  order = around rank n place h e;
  others = All-from_get_or (λ k. test k ≡ false) (take n rank) 0
      (λ i g. let long = length-take n rank in let low : i < n = omega arith in
      subst (λ (x : ℕ). test x ≡ false) (sym (get_or-take n rank i 0 low)) (before i low));
  is = is;
}

-- the mask of the places so far that pass, with one more place
pub bits_more : (P : ℕ → Type 0) (bits k : ℕ) → k < 64 → ((j : ℕ) → bit_at bits j ≡ 1 ↔ (j < k) × P j) → P k → (j : ℕ)
    → bit_at (bit_or bits (1 * 2 ^ k % 2 ^ 64)) j ≡ 1 ↔ (j < k + 1) × P j
bits_more P bits k low tells passes j = dite (ℕ_discrete j k)
    (λ (e : j ≡ k). (
      (λ _. (omega arith, subst P (sym e) passes)),
      (λ _. ap (bit_at (bit_or bits (1 * 2 ^ k % 2 ^ 64))) e ∙ bit_at_set_same w64 bits k low),
    ))
    (λ (ne : j ≢ k). let same : bit_at (bit_or bits (1 * 2 ^ k % 2 ^ 64)) j ≡ bit_at bits j =
    bit_at_set_other w64 bits k low j ne in (
      (λ one. let t = (tells j).0 (sym same ∙ one) in (omega arith, t.1)),
      (λ is. let less : j < k = omega arith in same ∙ (tells j).1 (less, is.1)),
    ))

pub bits_skip : (P : ℕ → Type 0) (bits k : ℕ) → ((j : ℕ) → bit_at bits j ≡ 1 ↔ (j < k) × P j) → ¬ P k → (j : ℕ)
    → bit_at bits j ≡ 1 ↔ (j < k + 1) × P j
bits_skip P bits k tells fails j = (
  (λ one. let t = (tells j).0 one in (omega arith, t.1)),
  (λ is. dite (ℕ_discrete j k) (λ (e : j ≡ k). absurd (fails (subst P e is.1)))
      (λ (ne : j ≢ k). let less : j < k = omega arith in (tells j).1 (less, is.1))),
)

-- one more mark
pub mark_more : (F : ℕ → Bool) (xs ys : List Bool) (b : Bool) (n : ℕ) → ys ≡ xs ++ b ∷ [] → length xs ≡ n
    → ((t : ℕ) → t < n → get_or xs t false ≡ F t) → b ≡ F n
    → (t : ℕ) → t < n + 1 → get_or ys t false ≡ F t
mark_more F xs ys b n e long before here t h = ap (λ (zs : List Bool). get_or zs t false) e ∙ (dite (ℕ_discrete t n)
    (λ (is : t ≡ n). get_or_push xs b false t (long ∙ sym is) ∙ here ∙ ap F (sym is))
    (λ (ne : t ≢ n). let low : t < n = omega arith in let low' : t < length xs = omega arith in
    get_or_append_left xs (b ∷ []) false t low' ∙ before t low))

pub marks_count : (xs ys : List Bool) (b : Bool) (n : ℕ) → ys ≡ xs ++ b ∷ [] → length xs ≡ n → length ys ≡ n + 1
marks_count xs ys b n e long = ap length e ∙ length_push xs b ∙ ap (λ (x : ℕ). x + 1) long

-- each number of a scan is below the number of words
pub order_within : (first n : ℕ) (items : List ℕ) → items ≡ scan_order first n true → (k : ℕ) → k < length items
    → get_or items k 0 < n
order_within first n items e k h = subst (All (λ i. i < n)) (sym e) (all_scan (λ i. i < n) first n true (λ i low. low))
    k 0 h

pub insert_first : (xs : List ℕ) (x : ℕ) → insert xs 0 x ≡ x ∷ xs
insert_first [] x = refl
insert_first (y ∷ ys) x = refl

-- one more word is passed
pub swept_more : (items swept swept' : List ℕ) (n : ℕ) → n < length items → swept ≡ take n items
    → swept' ≡ swept ++ get_or items n 0 ∷ [] → swept' ≡ take (n + 1) items
swept_more items swept swept' n h e f = f ∙ ap (λ (xs : List ℕ). xs ++ get_or items n 0 ∷ []) e
    ∙ sym (take_more items n 0 h)

pub all_more : (P : ℕ → Type 0) (items : List ℕ) (n : ℕ) → n < length items → All P (take n items)
    → P (get_or items n 0) → All P (take (n + 1) items)
all_more P items n h before here = subst (All P) (sym (take_more items n 0 h))
    (All-push P (take n items) (get_or items n 0) before here)
