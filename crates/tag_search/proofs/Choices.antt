-- If no other caller steps, a search answers the choice.
use Rattle.std.specs.Prelude.{◌++◌, ◌+◌, ◌-◌, ◌<◌, ◌∷◌, ◌≢◌, ◌≤◌}
use Rattle.tag_search.proofs.Uses.{[], All, All-append, All-cons, All-head, All-map, All-nil, All-tail, All-weaker, ap, arith, chosen_aside, chosen_free, freed_in, IsBusy, IsChoice, IsFirst, IsFull, IsSearch, IsSet, Layout, List, map, None, nothing, numbers, numbers_from, Option, over, passed, Pool}
use Rattle.tag_search.proofs.Uses.{pool_of, Quiet, Reach, Some, subst, suc, sym, tag_at, taken_at, Visit, visit_of, visits, won, word_bits, word_bits-le, word_depth, Words, words, words_after-append, words_after_all, words_in, WordStep, zero, ℕ, ◌∙◌}
use Rattle.tag_search.proofs.Alone.{quiet-split, Wins, wins_free, wins_aside, visit_alone}
use Rattle.tag_search.proofs.Inside.{IsInside, inside_word, visits_inside}
use Rattle.tag_search.proofs.Orders.{all_from, all_numbers, order-split}
use Rattle.tag_search.proofs.Passes.{all_behind}
use Rattle.tag_search.proofs.Pools.{available_freed, free_elsewhere, aside_elsewhere, freed_none, freed_before}
use Rattle.tag_search.proofs.Pools.{freed_between}

-- no two visits are of the same word
abbrev pub Distinct : List Visit → Type 0
Distinct [] = Unit {0}
Distinct (visit ∷ visits) = All (λ other. other.word ≢ visit.word) visits × Distinct visits

busy_still : (x : ℕ) (p : Pool) (i k : ℕ) → IsBusy (freed_in (x ∷ []) p) i k → IsBusy p i k
busy_still x p i k busy = sym (available_freed (x ∷ []) p i k) ∙ busy

full_still : (x : ℕ) (p : Pool) (visits : List Visit) → All (IsFull (freed_in (x ∷ []) p)) visits
    → All (IsFull p) visits
full_still x p = All-weaker (IsFull (freed_in (x ∷ []) p)) (IsFull p) (λ visit.
    All-weaker (IsBusy (freed_in (x ∷ []) p) visit.word) (IsBusy p visit.word) (busy_still x p visit.word) visit.rank)

-- the first place of a kind is the first of another, if what holds of it and of those before it holds in the other
first_still : {This That Others Rest : ℕ → Type 0} {rank : List ℕ} {place : ℕ} → IsFirst This Others rank place
    → ((k : ℕ) → This k → That k) → ((k : ℕ) → Others k → Rest k) → IsFirst That Rest rank place
first_still {Others = Others} {Rest = Rest} {place = place} first this others = record {
  before = first.before;
  behind = first.behind;
  order = first.order;
  others = All-weaker Others Rest others first.before first.others;
  is = this place first.is;
}

-- a choice that passes over a full word, which was swept
choice_behind : (p : Pool) (first : Visit) {l : Layout} {vs : List Visit} {answer : Option ℕ} {left : Pool}
    → IsFull p first → All (λ other. other.word ≢ first.word) vs
    → IsChoice l (freed_in (first.word ∷ []) p) vs answer left → IsChoice l p (first ∷ vs) answer left
choice_behind p first {l = l} full apart (nothing {visits = vs} all) =
    subst (IsChoice l p (first ∷ vs) None) (sym (freed_before first.word (words_in vs) p))
    (nothing (All-cons (IsFull p) first vs full (full_still first.word p vs all)))
choice_behind p first {l = l} full apart (chosen_free fulls behind visit {place = place} all is) =
    let ne = (all_behind (λ other. other.word ≢ first.word) fulls visit behind apart).0 in
    subst (IsChoice l p (first ∷ (fulls ++ visit ∷ behind)) (Some (tag_at l visit.word place)))
    (sym (ap (taken_at visit.word place) (freed_before first.word (words_in fulls) p)))
    (chosen_free (first ∷ fulls) behind visit (All-cons (IsFull p) first fulls full (full_still first.word p fulls all))
    (first_still is (λ k free. sym (free_elsewhere first.word p visit.word k ne) ∙ free)
    (λ k set. sym (free_elsewhere first.word p visit.word k ne) ∙ set)))
choice_behind p first {l = l} full apart (chosen_aside fulls behind visit {place = place} all set is) =
    let ne = (all_behind (λ other. other.word ≢ first.word) fulls visit behind apart).0 in
    subst (IsChoice l p (first ∷ (fulls ++ visit ∷ behind)) (Some (tag_at l visit.word place)))
    (sym (ap (taken_at visit.word place) (freed_between first.word visit.word (words_in fulls) p)))
    (chosen_aside (first ∷ fulls) behind visit
    (All-cons (IsFull p) first fulls full (full_still first.word p fulls all))
    (All-weaker (IsSet (freed_in (first.word ∷ []) p) visit.word) (IsSet p visit.word)
    (λ k set. sym (free_elsewhere first.word p visit.word k ne) ∙ set) visit.rank set)
    (first_still is (λ k aside. sym (aside_elsewhere first.word p visit.word k ne) ∙ aside)
    (busy_still first.word p visit.word)))

-- a choice that the first visit makes
choice_here : (l : Layout) (p left : Pool) (visit : Visit) (more : List Visit) (place : ℕ)
    → Wins p visit.word visit.rank place left
    → IsChoice l p (visit ∷ more) (Some (tag_at l visit.word place)) left
choice_here l p left visit more place (wins_free first e) =
    subst (IsChoice l p (visit ∷ more) (Some (tag_at l visit.word place)))
    (ap (taken_at visit.word place) (freed_none p) ∙ sym e) (chosen_free [] more visit (All-nil (IsFull p)) first)
choice_here l p left visit more place (wins_aside set first e) =
    subst (IsChoice l p (visit ∷ more) (Some (tag_at l visit.word place))) (sym e)
    (chosen_aside [] more visit (All-nil (IsFull p)) set first)

-- a quiet search is a choice
pub search_alone : {l : Layout} → word_bits l ≤ 64 → {vs : List Visit} {steps : List WordStep} {answer : Option ℕ}
    → IsSearch l vs steps answer → (w : Words) → Distinct vs → All (IsInside l) vs
    → Quiet steps w → IsChoice l (pool_of w) vs answer (pool_of (words_after_all steps w))
search_alone {l = l} narrow over w distinct inside quiet =
    subst (IsChoice l (pool_of w) [] None) (freed_none (pool_of w)) (nothing (All-nil (IsFull (pool_of w))))
search_alone {l = l} narrow (won {visit = visit} {visits = more} {steps = steps} {place = place} v) w distinct inside
    quiet =
    choice_here l (pool_of w) (pool_of (words_after_all steps w)) visit more place
    (visit_alone v w (inside_word l visit narrow (All-head (IsInside l) visit more inside)) quiet)
search_alone {l = l} narrow (passed {visit = visit} {visits = more} {steps = first} {rest = rest} {answer = answer} v
    search) w distinct inside quiet =
    let parts = quiet-split first rest w quiet in let mid = words_after_all first w in
    let tells = visit_alone v w (inside_word l visit narrow (All-head (IsInside l) visit more inside)) parts.0 in
    let a = search_alone narrow search mid distinct.1 (All-tail (IsInside l) visit more inside) parts.1 in
    let b = subst (λ (x : Words). IsChoice l (pool_of mid) more answer (pool_of x))
    (sym (words_after-append first rest w)) a in
    choice_behind (pool_of w) visit tells.0 distinct.0
    (subst (λ (p : Pool). IsChoice l p more answer (pool_of (words_after_all (first ++ rest) w))) tells.1 b)

-- the numbers are distinct
abbrev Apart : List ℕ → Type 0
Apart [] = Unit {0}
Apart (x ∷ xs) = All (λ y. y ≢ x) xs × Apart xs

apart_from : (a n : ℕ) → Apart (numbers_from a n)
apart_from a zero = tt
apart_from a (suc n) = (all_from (λ y. y ≢ a) (a + 1) n (λ k low high e. omega arith), apart_from (a + 1) n)

apart-append : (xs ys : List ℕ) → Apart xs → Apart ys → All (λ x. All (λ y. y ≢ x) ys) xs → Apart (xs ++ ys)
apart-append [] ys a b cross = b
apart-append (x ∷ xs) ys a b cross =
    let Far : ℕ → Type 0 = λ x. All (λ y. y ≢ x) ys in
    (All-append (λ y. y ≢ x) xs ys a.0 (All-head Far x xs cross), apart-append xs ys a.1 b (All-tail Far x xs cross))

distinct_map : (first : ℕ) (reach : Reach) (xs : List ℕ) → Apart xs → Distinct (map (visit_of first reach) xs)
distinct_map first reach [] a = tt
distinct_map first reach (x ∷ xs) a = (
  All-map (λ visit. visit.word ≢ x) (visit_of first reach) xs a.0,
  distinct_map first reach xs a.1,
)

-- a quiet search over all words answers the choice
pub search_chooses : (l : Layout) (first : ℕ) (reach : Reach) → l.shift ≤ 6 → first ≤ words l
    → ((i : ℕ) → i < words l → reach.limit i ≤ word_depth l i)
    → (answer : Option ℕ) (steps : List WordStep) → IsSearch l (visits l first reach) steps answer → (w : Words)
    → Quiet steps w
    → IsChoice l (pool_of w) (visits l first reach) answer (pool_of (words_after_all steps w))
search_chooses l first reach narrow h within answer steps search w quiet =
    let front = numbers first (words l) in let back = numbers 0 first in
    let apart : Apart (front ++ back) = apart-append front back (apart_from first (words l - first))
    (apart_from 0 (first - 0))
    (all_numbers (λ x. All (λ y. y ≢ x) back) first (words l)
    (λ x low _. all_numbers (λ y. y ≢ x) 0 first (λ y _ high e. omega arith))) in
    let distinct : Distinct (visits l first reach) =
    subst (λ (xs : List ℕ). Distinct (map (visit_of first reach) xs)) (sym (order-split first (words l) h))
    (distinct_map first reach (front ++ back) apart) in
    search_alone (word_bits-le l narrow) search w distinct (visits_inside l first reach within) quiet
