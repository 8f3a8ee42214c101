-- The visits of a get try no place past the depth of their word.
use Rattle.std.specs.Prelude.{◌++◌, ◌<◌, ◌∷◌, ◌≡◌, ◌≤◌}
use Rattle.tag_search.proofs.Uses.{All, All-map, arith, cond, get_or, Layout, List, nat_eq, Reach, scan_order, subst, true, Visit, visit_of, visits, word_bits, word_depth, words, ℕ}
use Rattle.tag_search.proofs.Orders.{all_scan}
use Rattle.tag_search.proofs.Passes.{all_behind}

-- each place of the visit is below the word's depth
abbrev pub IsInside : Layout → Visit → Type 0
IsInside l visit = All (λ place. place < word_depth l visit.word) visit.rank

-- the visits of a get are within their words
pub visits_inside : (l : Layout) (first : ℕ) (reach : Reach) → ((i : ℕ) → i < words l → reach.limit i ≤ word_depth l i)
    → All (IsInside l) (visits l first reach)
visits_inside l first reach within =
    All-map (IsInside l) (visit_of first reach) (scan_order first (words l) true)
    (all_scan (λ i. IsInside l (visit_of first reach i)) first (words l) true (λ i h.
    all_scan (λ place. place < word_depth l i) (cond (nat_eq i first) reach.start 0) (reach.limit i) reach.wrap
    (λ k below. let most = within i h in (let z : k < word_depth l i = omega arith in z))))

-- each place of such a visit is one of a word's 64
pub inside_word : (l : Layout) (visit : Visit) → word_bits l ≤ 64 → IsInside l visit → All (λ k. k < 64) visit.rank
inside_word l visit narrow inside = λ k d h.
    let low : get_or visit.rank k d < word_depth l visit.word = inside k d h in omega arith

-- so is a place in the middle of one of the visits
pub place_inside : (l : Layout) (before behind : List Visit) (visit : Visit) (others after : List ℕ) (place : ℕ)
    → visit.rank ≡ others ++ place ∷ after → All (IsInside l) (before ++ visit ∷ behind)
    → place < word_depth l visit.word
place_inside l before behind visit others after place order inside =
    let Low : ℕ → Type 0 = λ k. k < word_depth l visit.word in
    (all_behind Low others place after (subst (All Low) order
    (all_behind (IsInside l) before visit behind inside).0)).0
