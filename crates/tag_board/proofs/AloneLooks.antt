-- What the looks of a set's only caller find in it.
use Rattle.std.proofs.Common.{◌≡◌, ℕ, zero, suc, ◌+◌, ◌<◌, ◌≤◌, Bool, true, false, not, ◌&&◌, ◌||◌, nat_eq, nat_lt, List, [], ◌∷◌, length, get_or, refl, sym, ap, ◌∙◌, subst, arith}
use Rattle.tag_board.proofs.Uses.{caller_of, ltb-true, lt-ltb, bit_at-lt, bit_at, Hand, IsAlone, Kind, Layout, layout_of, own_after, own_found, word_of, words, place_of, word_of-below, Record, record_in, sets_in, Step, Pool, cells_left, words_left, state_after, is_busy, place_small, Places, places_of}
use Rattle.tag_core.specs.declared.word_step.WordStep.{WordStep}
use Rattle.tag_core.specs.Steps.{Words, Quiet, words_after_all}
use Rattle.tag_pool.specs.Looks as looks
use Rattle.tag_pool.specs.Shows.{LooksAround}
use Rattle.tag_search.proofs.AloneFacts.{EachFound, found_changes, own_of_record}
use Rattle.tag_board.proofs.Only.{both_same, narrow, set_of}

-- looks leave the words unchanged
looks_leave : (found : List (ℕ × ℕ)) (word : ℕ) (w : Words) → words_after_all (looks.looks_from word found) w ≡ w
looks_leave [] word w = refl
looks_leave (pair ∷ found) word w = looks_leave found (suc word) w

-- each look finds the current word
looks_found : (found : List (ℕ × ℕ)) (word : ℕ) (w : Words) → Quiet (looks.looks_from word found) w → (k : ℕ)
    → k < length found
    → ((get_or found k (0, 0)).0 ≡ w.word (word + k)) × ((get_or found k (0, 0)).1 ≡ w.aside (word + k))
looks_found [] word w q k low = absurd (omega arith)
looks_found (pair ∷ found) word w q zero low = let is : word ≡ word + zero = omega arith in
    (q.0 ∙ ap w.word is, q.1.0 ∙ ap w.aside is)
looks_found (pair ∷ found) word w q (suc k) low =
    let rest = looks_found found (suc word) w q.1.1 k (omega arith) in
    let is : suc word + k ≡ word + suc k = omega arith in
    (rest.0 ∙ ap w.word is, rest.1 ∙ ap w.aside is)

-- a place below 64 is busy exactly if its bit is 1 and it is not set aside
busy_bits : (near : Bool) (x y : ℕ) → near ≡ true → x < 2 → y < 2
    → (nat_eq x 1 && nat_eq y 0) ≡ not ((near && nat_eq x 0) || (near && nat_eq y 1))
busy_bits false x y e h g = absurd (let no : false ≡ true = e in cc)
busy_bits true zero y e h g = refl
busy_bits true (suc zero) zero e h g = refl
busy_bits true (suc zero) (suc zero) e h g = refl
busy_bits true (suc zero) (suc (suc y)) e h g = absurd (omega arith)
busy_bits true (suc (suc x)) y e h g = absurd (omega arith)

-- two tests that agree under a condition are equal in conjunction with it
and_under : (b x y : Bool) → (b ≡ true → x ≡ y) → (b && x) ≡ (b && y)
and_under true x y e = e refl
and_under false x y e = refl

-- the pool is unchanged; what was found busy in it is busy, and what was found aside is set aside
pub record Sees (l : Layout) (found : List (ℕ × ℕ)) (old new : Places) : Type 0 where
  pub same : new ≡ old
  pub busy : (number : ℕ) → (nat_lt number l.depth && looks.is_busy_in l found number)
      ≡ (nat_lt number l.depth && is_busy old (word_of l number) (place_of l number))
  pub aside : (number : ℕ) → (nat_lt number l.depth && looks.is_aside_in l found number)
      ≡ (nat_lt number l.depth && old.aside (word_of l number) (place_of l number))

-- quiet looks at each word do so
sees : (l : Layout) (found : List (ℕ × ℕ)) → l.shift ≤ 6 → length found ≡ words l → (w : Words)
    → Quiet (looks.looks_from 0 found) w
    → Sees l found (places_of w) (places_of (words_after_all (looks.looks_from 0 found) w))
sees l found few each w quiet = record {
  same = ap places_of (looks_leave found 0 w);
  busy = λ number. let i : ℕ = word_of l number in let p : ℕ = place_of l number in
      and_under (nat_lt number l.depth) (looks.is_busy_in l found number) (is_busy (places_of w) i p)
      (λ t. let low = ltb-true number l.depth t in let at = word_found number low in
      (λ j. nat_eq (bit_at (at.0 j) p) 1 && nat_eq (bit_at (at.1 j) p) 0)
      ∙ busy_bits (nat_lt p 64) (bit_at (w.word i) p) (bit_at (w.aside i) p) (near number low)
      (bit_at-lt (w.word i) p) (bit_at-lt (w.aside i) p));
  aside = λ number. let i : ℕ = word_of l number in let p : ℕ = place_of l number in
      and_under (nat_lt number l.depth) (looks.is_aside_in l found number) ((places_of w).aside i p)
      (λ t. let low = ltb-true number l.depth t in
      ap (λ (x : ℕ). nat_eq (bit_at x p) 1) (word_found number low).1
      ∙ ap (λ (b : Bool). b && nat_eq (bit_at (w.aside i) p) 1) (sym (near number low)));
}
  where
    near : (number : ℕ) → number < l.depth → nat_lt (place_of l number) 64 ≡ true
    near number low = lt-ltb (place_of l number) 64 (place_small l number low few)

    -- the look at a tag's word found that word
    word_found : (number : ℕ) → number < l.depth
        → ((looks.word_in found (word_of l number)).0 ≡ w.word (word_of l number))
        × ((looks.word_in found (word_of l number)).1 ≡ w.aside (word_of l number))
    word_found number low = let inside = word_of-below l number low in
        let is : 0 + word_of l number ≡ word_of l number = omega arith in
        let at = looks_found found 0 w quiet (word_of l number) (omega arith) in
        (at.0 ∙ ap w.word is, at.1 ∙ ap w.aside is)

module _ (pool : Pool ℕ) (kind : Kind) (found : List (ℕ × ℕ)) (old new : Hand ℕ)
    (a : LooksAround (layout_of pool kind) kind found old new) (one : IsAlone (caller_of new kind)) where
  abbrev made : List WordStep
  made = looks.looks_from 0 found

  abbrev older : List (Step ℕ)
  older = (record_in old kind).steps

  steps_are : (record_in new kind).steps ≡ own_after made older
  steps_are = ap (λ (r : Record ℕ). r.steps) a.looks.changed.known ∙ own_of_record made (record_in old kind)

  -- the looks of a caller that is alone see its set
  pub seen : Sees (layout_of pool kind) found (sets_in pool old kind).pool (sets_in pool new kind).pool
  seen = subst (λ (s : List (Step ℕ)).
      Sees (layout_of pool kind) found (places_of (words_left older)) (places_of (words_left s)))
      (sym steps_are) (found_changes (Sees (layout_of pool kind) found) made older
      (subst (λ (s : List (Step ℕ)). EachFound s) steps_are (own_found (caller_of new kind) one))
      (sees (layout_of pool kind) found (narrow pool kind) a.each))

  -- and leave both sets unchanged
  pub looked : sets_in pool new ≡ sets_in pool old
  looked = let state = ap (λ (s : List (Step ℕ)). (cells_left s).state) steps_are ∙ state_after made older in
      both_same kind (
        (λ j. record {
          layout = layout_of pool kind;
          pool = seen.same j;
          posted = λ tag. nat_eq (state j tag) 1;
          hint = a.looks.changed.hint j;
        }),
        ap (set_of _) a.looks.other,
      )
