-- If no other caller steps, a search for several tags answers the choice.
use Rattle.std.specs.Prelude.{◌&&◌, ◌*◌, ◌++◌, ◌+◌, ◌-◌, ◌<◌, ◌^◌, ◌↔◌, ◌∷◌, ◌≡◌, ◌≢◌, ◌≤◌}
use Rattle.tag_search.proofs.Uses.{[], All, All-cons, All-nil, ap, arith, batch, batch_over, batch_passed, batch_won, bit_at, bit_at-lt, bit_at-shr, bit_at-zero, bit_at_and, bit_at_cat_high, bit_at_cat_low, bit_at_ones, bit_at_ones_above, Bool, Claimed, dec_lt, dite, freed_in, get_or, HasNoRun}
use Rattle.tag_search.proofs.Uses.{is_available, IsAvailableRun, IsBatchChoice, IsBatchSearch, IsBatchVisit, IsFirstClear, IsLeastAvailable, IsSweptLook, Layout, le-leb, le-ltb, List, Look, lt-leb, lt-ltb, min, nat_eq, nat_le, nat_lt, no_batch, no_run, None, Option, Pool, pool_of, pow_pos, Quiet}
use Rattle.tag_search.proofs.Uses.{run_lost, run_mask, run_taken, run_won, Some, subst, swept_look, sym, tag_at, taken_from, true, without, word_bits, word_depth, Words, words_after, words_after-append, words_after_all, WordStep, ℕ, ◌∙◌}
use Rattle.tag_search.proofs.Alone.{quiet-split}
use Rattle.tag_search.proofs.Pools.{free_here, available_freed, least_same, freed_none, freed_before, freed_between}
use Rattle.tag_search.proofs.Pools.{taken_same, and_false}
use Rattle.tag_search.proofs.Sweeps.{is_clear, clear_of, set_of, bit_of_clear, bit_of_set, bit_without, claim_pool}
use Rattle.tag_search.proofs.Sweeps.{sweep_pool}

-- the bits of a run
run_is : (n place : ℕ) → run_mask n place ≡ (2 ^ n - 1) * 2 ^ place + 0
run_is n place = omega arith

run_inside : (n place k : ℕ) → place ≤ k → k < place + n → bit_at (run_mask n place) k ≡ 1
run_inside n place k low high =
    ap (λ (x : ℕ). bit_at x k) (run_is n place) ∙ bit_at_cat_high (2 ^ n - 1) place 0 k (pow_pos place) low
    ∙ bit_at_ones n (k - place) (omega arith)

run_below : (n place k : ℕ) → k < place → bit_at (run_mask n place) k ≡ 0
run_below n place k h = ap (λ (x : ℕ). bit_at x k) (run_is n place) ∙ bit_at_cat_low (2 ^ n - 1) place 0 k h
    ∙ bit_at-zero k

run_above : (n place k : ℕ) → place + n ≤ k → bit_at (run_mask n place) k ≡ 0
run_above n place k h =
    ap (λ (x : ℕ). bit_at x k) (run_is n place) ∙ bit_at_cat_high (2 ^ n - 1) place 0 k (pow_pos place) (omega arith)
    ∙ bit_at_ones_above n (k - place) (omega arith)

run_places : (n place k : ℕ) → nat_eq (bit_at (run_mask n place) k) 1 ≡ (nat_le place k && nat_lt k (place + n))
run_places n place k = dite (dec_lt k place)
    (λ below. ap (λ (x : ℕ). nat_eq x 1) (run_below n place k below)
    ∙ sym (ap (λ (b : Bool). b && nat_lt k (place + n)) (lt-leb place k below)))
    (λ not_below. let low : place ≤ k = omega arith in dite (dec_lt k (place + n))
    (λ high. ap (λ (x : ℕ). nat_eq x 1) (run_inside n place k low high)
    ∙ sym (λ z. le-leb place k low z && lt-ltb k (place + n) high z))
    (λ not_high. let past : place + n ≤ k = omega arith in
    ap (λ (x : ℕ). nat_eq x 1) (run_above n place k past)
    ∙ sym (ap (λ (b : Bool). nat_le place k && b) (le-ltb k (place + n) past) ∙ and_false (nat_le place k))))

-- a claim of a run takes its places
claim_run : (w : Words) (i n place found : ℕ) → pool_of (words_after (Claimed i (run_mask n place) found) w)
    ≡ taken_from i place n (pool_of w)
claim_run w i n place found = claim_pool w i (run_mask n place) found
    ∙ taken_same i (λ k. nat_eq (bit_at (run_mask n place) k) 1) (λ k. nat_le place k && nat_lt k (place + n))
    (pool_of w) (run_places n place)

-- the bits won are those that were clear
won_clear : (n place found : ℕ) → found < 2 ^ 64 → place + n ≤ 64 → (k : ℕ) → bit_at (run_won n place found) k
    ≡ 1 ↔ (k < n) × (is_clear found (place + k) ≡ true)
won_clear n place found small fits k = (
  λ one. dite (dec_lt k n)
      (λ h. (
        h,
        clear_of found (place + k) (omega arith) (let e = inside h in let b = bit_at-lt found (place + k) in
            omega arith),
      ))
      (λ not_h. absurd (let e : bit_at (run_won n place found) k ≡ 0 = outside (omega arith) in omega arith)),
  λ is. inside is.0 ∙ ap (λ (b : ℕ). min 1 (1 - b)) (bit_of_clear found (place + k) is.1),
)
  where
    here : bit_at (run_won n place found) k ≡ bit_at (without (run_mask n place) found) (place + k)
    here = bit_at-shr (without (run_mask n place) found) place k

    inside : k < n → bit_at (run_won n place found) k ≡ min 1 (1 - bit_at found (place + k))
    inside h = here ∙ bit_without (run_mask n place) found (place + k) small (omega arith)
        ∙ ap (λ (b : ℕ). min b (1 - bit_at found (place + k)))
        (run_inside n place (place + k) (omega arith) (omega arith))

    outside : n ≤ k → bit_at (run_won n place found) k ≡ 0
    outside h = here ∙ bit_at_and (run_mask n place) (2 ^ 64 - 1 - found) (place + k)
        ∙ ap (λ (b : ℕ). min b (bit_at (2 ^ 64 - 1 - found) (place + k))) (run_above n place (place + k) (omega arith))
        ∙ omega arith

-- a quiet sweep and load free the word's aside places, and the load finds the word after that
swept_look_alone : {i found : ℕ} {steps : List WordStep} → IsSweptLook i found steps → (w : Words) → Quiet steps w
    → (pool_of (words_after_all steps w) ≡ freed_in (i ∷ []) (pool_of w)) × (found ≡ (words_after_all steps w).word i)
    × (found < 2 ^ 64)
swept_look_alone {i = i} {found = found} (swept_look {sweep = sweep} s fits) w quiet =
    let parts = quiet-split sweep (Look i found ∷ []) w quiet in
    let e : words_after_all (sweep ++ Look i found ∷ []) w ≡ words_after_all sweep w = words_after-append sweep
    (Look i found ∷ []) w in
    (ap pool_of e ∙ sweep_pool s w parts.0, parts.1.0 ∙ ap (λ (x : Words). x.word i) (sym e), fits)

-- so the load finds exactly the available places clear
look_available : (w left : Words) (i found k : ℕ) → pool_of left ≡ freed_in (i ∷ []) (pool_of w) → found ≡ left.word i
    → is_available (pool_of w) i k ≡ is_clear found k
look_available w left i found k e f = sym (free_here (pool_of w) i k) ∙ ap (λ (q : Pool). q.free i k) (sym e)
    ∙ ap (λ (n : ℕ). is_clear n k) (sym f)

least_of_clear : (p : Pool) (i depth found place : ℕ) → depth ≤ 64 → ((k : ℕ) → is_available p i k ≡ is_clear found k)
    → IsFirstClear found 0 depth place → IsLeastAvailable p i depth place
least_of_clear p i depth found place small available_is first = let within = first.within in record {
  within = within;
  is = available_is place ∙ clear_of found place (omega arith) first.clear;
  least = λ k h. available_is k ∙ set_of found k (first.first k (omega arith) h);
}

clear_of_least : (p : Pool) (i depth found place : ℕ) → depth ≤ 64 → ((k : ℕ) → is_available p i k ≡ is_clear found k)
    → IsLeastAvailable p i depth place → IsFirstClear found 0 depth place
clear_of_least p i depth found place small available_is least = let within = least.within in record {
  behind = omega arith;
  within = within;
  clear = bit_of_clear found place (sym (available_is place) ∙ least.is);
  first = λ k low h. bit_of_set found k (omega arith) (sym (available_is k) ∙ least.least k h);
}

-- the effect of a quiet visit: the word was swept and has no run, or its run is won
abbrev BatchTells : Layout → ℕ → Pool → ℕ → Option (ℕ × ℕ) → Pool → Type 0
BatchTells l n p i None left = HasNoRun l n p i × (left ≡ freed_in (i ∷ []) p)
BatchTells l n p i (Some won) left = IsAvailableRun l n p i won.0 won.1 × (left ≡ taken_from i won.0 n (freed_in (i ∷ []) p))

-- a claim from a clear place on wins at least one bit
wins_some : (n place found : ℕ) → 1 ≤ n → found < 2 ^ 64 → place < 64 → bit_at found place ≡ 0
    → without (run_mask n place) found ≢ 0
wins_some n place found some small h clear none =
    let a = bit_without (run_mask n place) found place small h in
    let b = run_inside n place place (omega arith) (omega arith) in
    let e : bit_at (without (run_mask n place) found) place ≡ 0 = ap (λ (x : ℕ). bit_at x place) none
    ∙ bit_at-zero place in omega arith

batch_visit_alone : (l : Layout) (n : ℕ) {i : ℕ} {steps : List WordStep} {answer : Option (ℕ × ℕ)}
    → IsBatchVisit i (word_depth l i) n steps answer → 1 ≤ n → word_depth l i ≤ 64
    → (w : Words) → Quiet steps w → BatchTells l n (pool_of w) i answer (pool_of (words_after_all steps w))
batch_visit_alone l n {i = i} (no_run {found = found} {steps = steps} look none) some small w quiet =
    let a = swept_look_alone look w quiet in let left = words_after_all steps w in (
      λ place least. none place (clear_of_least (pool_of w) i (word_depth l i) found place small
          (λ k. look_available w left i found k a.0 a.1) least),
      a.0,
    )
batch_visit_alone l n {i = i} (run_lost {found = found} {place = place} {steps = steps} next look run lost) some small w
    quiet =
    let parts = quiet-split steps (Claimed i (run_mask n place) next ∷ []) w quiet in
    let a = swept_look_alone look w parts.0 in
    let same : next ≡ found = parts.1.0 ∙ sym a.1 in let within = run.first.within in
    absurd (wins_some n place found some a.2 (omega arith) run.first.clear (sym (ap (without (run_mask n place)) same)
    ∙ lost))
batch_visit_alone l n {i = i} (run_taken {found = found} {place = place} {steps = steps} next look run won) some small w
    quiet =
    let step = Claimed i (run_mask n place) next in
    let parts = quiet-split steps (step ∷ []) w quiet in let a = swept_look_alone look w parts.0 in
    let mid = words_after_all steps w in
    let same : next ≡ found = parts.1.0 ∙ sym a.1 in let fits = run.fits in
    let available_is : (k : ℕ) → is_available (pool_of w) i k ≡ is_clear found k = λ k. look_available w mid i found k a.0 a.1 in
    let bits : (k : ℕ) → bit_at (run_won n place next) k ≡ 1 ↔ (k < n) × (is_available (pool_of w) i (place + k) ≡ true) =
    λ k.
    let tells = won_clear n place found a.2 (omega arith) k in (
      λ one. let is = tells.0 (sym (ap (λ (x : ℕ). bit_at (run_won n place x) k) same) ∙ one) in
          (is.0, available_is (place + k) ∙ is.1),
      λ is. ap (λ (x : ℕ). bit_at (run_won n place x) k) same ∙ tells.1 (is.0, sym (available_is (place + k)) ∙ is.1),
    ) in (
      record {
        least = least_of_clear (pool_of w) i (word_depth l i) found place small available_is run.first;
        fits = fits;
        won = bits;
      },
      ap pool_of (words_after-append steps (step ∷ []) w) ∙ claim_run mid i n place next
          ∙ ap (taken_from i place n) a.0,
    )

-- freeing another word changes no run
no_run_still : (l : Layout) (n x : ℕ) (p : Pool) (i : ℕ) → HasNoRun l n (freed_in (x ∷ []) p) i → HasNoRun l n p i
no_run_still l n x p i none place least = none place (least_same p (freed_in (x ∷ []) p) i (word_depth l i) place
    (λ k. sym (available_freed (x ∷ []) p i k)) least)

none_still : (l : Layout) (n x : ℕ) (p : Pool) (is : List ℕ) → All (HasNoRun l n (freed_in (x ∷ []) p)) is
    → All (HasNoRun l n p) is
none_still l n x p is none = λ k d h. no_run_still l n x p (get_or is k d) (none k d h)

run_still : (l : Layout) (n x : ℕ) (p : Pool) (i place bits : ℕ) → IsAvailableRun l n (freed_in (x ∷ []) p) i place bits
    → IsAvailableRun l n p i place bits
run_still l n x p i place bits run = record {
  least = least_same (freed_in (x ∷ []) p) p i (word_depth l i) place (available_freed (x ∷ []) p i) run.least;
  fits = run.fits;
  won = λ k. let tells = run.won k in let same = available_freed (x ∷ []) p i (place + k) in
      (λ one. let is = tells.0 one in (is.0, sym same ∙ is.1), λ is. tells.1 (is.0, same ∙ is.1));
}

-- a choice that passes over a word without a run, which was swept
batch_behind : (l : Layout) (n : ℕ) (p : Pool) (i : ℕ) {is : List ℕ} {answer : Option (ℕ × ℕ)} {left : Pool}
    → HasNoRun l n p i
    → IsBatchChoice l n (freed_in (i ∷ []) p) is answer left → IsBatchChoice l n p (i ∷ is) answer left
batch_behind l n p i none (no_batch {words = is} all) =
    subst (IsBatchChoice l n p (i ∷ is) None) (sym (freed_before i is p))
    (no_batch (All-cons (HasNoRun l n p) i is none (none_still l n i p is all)))
batch_behind l n p i none (batch passed behind word {place = place} {bits = bits} all run) =
    subst (IsBatchChoice l n p (i ∷ (passed ++ word ∷ behind)) (Some (tag_at l word place, bits)))
    (sym (ap (taken_from word place n) (freed_between i word passed p)))
    (batch (i ∷ passed) behind word (All-cons (HasNoRun l n p) i passed none (none_still l n i p passed all))
    (run_still l n i p word place bits run))

-- a quiet batch search is a choice
pub batch_alone : (l : Layout) (n : ℕ) {is : List ℕ} {steps : List WordStep} {answer : Option (ℕ × ℕ)}
    → IsBatchSearch l n is steps answer → 1 ≤ n → word_bits l ≤ 64
    → (w : Words) → Quiet steps w → IsBatchChoice l n (pool_of w) is answer (pool_of (words_after_all steps w))
batch_alone l n batch_over some small w quiet = subst (IsBatchChoice l n (pool_of w) [] None) (freed_none (pool_of w))
    (no_batch (All-nil (HasNoRun l n (pool_of w))))
batch_alone l n (batch_won {i = i} {is = is} {steps = steps} {place = place} {bits = bits} v) some small w quiet =
    let tells = batch_visit_alone l n v some (omega arith) w quiet in
    subst (IsBatchChoice l n (pool_of w) (i ∷ is) (Some (tag_at l i place, bits))) (sym tells.1)
    (batch [] is i (All-nil (HasNoRun l n (pool_of w))) tells.0)
batch_alone l n (batch_passed {i = i} {is = is} {steps = first} {rest = rest} {answer = answer} v search) some small w
    quiet =
    let parts = quiet-split first rest w quiet in let mid = words_after_all first w in
    let tells = batch_visit_alone l n v some (omega arith) w parts.0 in
    let a = batch_alone l n search some small mid parts.1 in
    let b = subst (λ (x : Words). IsBatchChoice l n (pool_of mid) is answer (pool_of x))
    (sym (words_after-append first rest w)) a in
    batch_behind l n (pool_of w) i tells.0
    (subst (λ (p : Pool). IsBatchChoice l n p is answer (pool_of (words_after_all (first ++ rest) w))) tells.1 b)
