-- What is known in the middle of a search for several tags.
use Rattle.std.specs.Prelude.{◌%◌, ◌*◌, ◌+◌, ◌/◌, ◌<◌, ◌^◌, ◌∷◌, ◌≡◌, ◌≤◌}
use Rattle.tag_search.proofs.Uses.{[], AllSet, ap, arith, batch_over, batch_passed, batch_won, Claimed, dec_lt, dite, IsBatchGet, IsBatchSearch, IsBatchVisit, IsFirstClear, IsSweptLook, Layout, length, length-append, List, Look, mod_below, no_run, numbers, Option, pow_pos}
use Rattle.tag_search.proofs.Uses.{reduced, refl, run_lost, run_mask, run_taken, scan_order, subst, suc, swept_look, sym, true, word_bits-le, word_of, word_of-below, words, WordStep, zero, ℕ, ◌∙◌}
use Rattle.tag_search.proofs.BatchAlone.{batch_alone}
use Rattle.tag_search.proofs.Bounds.{sweep_bound}
use Rattle.tag_search.proofs.Orders.{length-numbers, order-split}

-- a word without a clear place has no run
pub no_first_clear : (found depth n : ℕ) → AllSet found 0 depth → (place : ℕ) → IsFirstClear found 0 depth place
    → depth < place + n
no_first_clear found depth n set place first = absurd (let a = set place (omega arith) first.within in
    let b = first.clear in omega arith)

-- the first clear place is unique
pub same_first_clear : (found depth a b : ℕ) → IsFirstClear found 0 depth a → IsFirstClear found 0 depth b → a ≤ b
same_first_clear found depth a b x y = dite (dec_lt b a)
    (λ (less : b < a). absurd (let t = x.first b (omega arith) less in let f = y.clear in omega arith))
    (λ (no : b < a → ⊥). omega arith)

swept_look_bound : {i found : ℕ} {steps : List WordStep} → IsSweptLook i found steps → length steps ≤ 4
swept_look_bound {i = i} {found = found} (swept_look {sweep = sweep} s fits) = let a = sweep_bound s in
    let e = length-append sweep (Look i found ∷ []) in omega arith

batch_visit_bound : {i depth n : ℕ} {steps : List WordStep} {answer : Option (ℕ × ℕ)}
    → IsBatchVisit i depth n steps answer → length steps ≤ 5
batch_visit_bound (no_run look none) = let a = swept_look_bound look in omega arith
batch_visit_bound {i = i} {n = n} (run_lost {place = place} {steps = steps} next look run lost) =
    let a = swept_look_bound look in let e = length-append steps (Claimed i (run_mask n place) next ∷ []) in omega arith
batch_visit_bound {i = i} {n = n} (run_taken {place = place} {steps = steps} next look run won) =
    let a = swept_look_bound look in let e = length-append steps (Claimed i (run_mask n place) next ∷ []) in omega arith

batch_bound : {l : Layout} {n : ℕ} {is : List ℕ} {steps : List WordStep} {answer : Option (ℕ × ℕ)}
    → IsBatchSearch l n is steps answer → length steps ≤ 5 * length is
batch_bound batch_over = omega arith
batch_bound (batch_won v) = let a = batch_visit_bound v in omega arith
batch_bound (batch_passed {steps = first} {rest = rest} v search) =
    let a = batch_visit_bound v in let b = batch_bound search in let e = length-append first rest in omega arith

-- a search over all words is a batch get
batch_get : (l : Layout) (n first : ℕ) → 1 ≤ n → l.shift ≤ 6 → first ≤ words l
    → (answer : Option (ℕ × ℕ)) (steps : List WordStep)
    → IsBatchSearch l n (scan_order first (words l) true) steps answer → IsBatchGet l n first answer steps
batch_get l n first some narrow h answer steps search =
    let all = length-append (numbers first (words l)) (numbers 0 first) in
    let e = ap length (order-split first (words l) h) in
    let a = length-numbers first (words l) in let b = length-numbers 0 first in let bound = batch_bound search in
    record { search = search; alone = batch_alone l n search some (word_bits-le l narrow); bound = omega arith }

-- the hint's word is one of the words, or there are none
hint_word-le : (l : Layout) (at : ℕ) → word_of l (reduced l.depth at) ≤ words l
hint_word-le l at = cases l.depth refl
  where
    cases : (d : ℕ) → l.depth ≡ d → word_of l (reduced d at) ≤ words l
    cases zero e = omega (arith, pow_pos l.shift)
    cases (suc d) e = let low : at % suc d < suc d = mod_below at (suc d) (omega arith) in
        let below = word_of-below l (at % suc d) (subst (λ (x : ℕ). at % suc d < x) (sym e) low) in omega arith

-- the search from the word of a reduced hint is the batch get
pub batch_get_from : (l sizes : Layout) (n at depth from shift : ℕ) → 1 ≤ n → shift ≤ 6 → l ≡ sizes → depth ≡ l.depth
    → shift ≡ l.shift → from ≡ reduced depth at → (answer : Option (ℕ × ℕ)) (steps : List WordStep)
    → IsBatchSearch l n (scan_order (from / 2 ^ shift) (words l) true) steps answer
    → IsBatchGet sizes n (word_of sizes (reduced sizes.depth at)) answer steps
batch_get_from l sizes n at depth from shift some narrow same deep wide hint answer steps search =
    let is : shift ≡ sizes.shift = wide ∙ ap (λ (x : Layout). x.shift) same in
    let start : from ≡ reduced sizes.depth at = hint
    ∙ ap (λ (d : ℕ). reduced d at) (deep ∙ ap (λ (x : Layout). x.depth) same) in
    batch_get sizes n (word_of sizes (reduced sizes.depth at)) some (omega arith) (hint_word-le sizes at) answer steps
    (subst (λ (x : Layout × ℕ). IsBatchSearch x.0 n (scan_order x.1 (words x.0) true) steps answer)
    (λ z. (same z, start z / 2 ^ is z)) search)
