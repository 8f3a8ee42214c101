-- Bounds on the number of steps of a search.
use Rattle.std.specs.Prelude.{◌*◌, ◌++◌, ◌+◌, ◌<◌, ◌∷◌, ◌≡◌, ◌≤◌}
use Rattle.tag_search.proofs.Uses.{[], All, All-head, All-tail, ap, arith, at_once, Bool, cond, empty, false, IsKeepingSweep, IsPass, IsRetry, IsSearch, IsSweep, IsTries, IsVisit, kept_alone, kept_one, Layout, length, length-append, List, loses, map, most_turns, nat_eq, no_turn, none_left, numbers}
use Rattle.tag_search.proofs.Uses.{Option, over, pass, passed, Reach, retried, spilled, suc, true, turn_kept, turn_passed, turn_won, unseen, Visit, visit_of, visits, wins, won, word_bits, word_depth, words, WordStep, zero, ℕ, ◌∙◌}
use Rattle.tag_search.proofs.Orders.{length-scan_order, all_numbers}
use Rattle.tag_search.proofs.Passes.{fewer_left}
use Rattle.tag_search.proofs.Searches.{visits-split}
use Rattle.tag_search.proofs.Tallies.{tally, tally-around, steps-sum, sum_below-once}

tries_bound : {i : ℕ} {rank : List ℕ} {found : ℕ} {tries : List WordStep} {answer : Option ℕ}
    → IsTries i rank found tries answer → length tries ≤ length rank
tries_bound (none_left taken) = omega arith
tries_bound (wins {rank = rank} {behind = behind} {found = found} {place = place} first clear) = let less =
    fewer_left found rank behind place first in omega arith
tries_bound (loses {rank = rank} {behind = behind} {found = found} {place = place} first taken rest) =
    let less = fewer_left found rank behind place first in let more = tries_bound rest in omega arith

-- a pass is a load, and at most one claim of each place
pub pass_bound : {i : ℕ} {rank : List ℕ} {steps : List WordStep} {answer : Option ℕ} → IsPass i rank steps answer
    → length steps ≤ length rank + 1
pass_bound (pass tries) = let less = tries_bound tries in omega arith

-- a sweep is a load, a swap if it found anything and, if the swap found a mask, a spill
pub sweep_bound : {i mask : ℕ} {steps : List WordStep} → IsSweep i mask steps → length steps ≤ 3
sweep_bound unseen = omega arith
sweep_bound (empty some) = omega arith
sweep_bound (spilled some has fits) = omega arith

-- one that keeps a place is a load, a swap, what is kept and, if the swap found others, a spill
kept_bound : {i mask place : ℕ} {steps : List WordStep} → IsKeepingSweep i mask place steps → length steps ≤ 4
kept_bound (kept_alone some fits none) = omega arith
kept_bound (kept_one some fits others) = omega arith

-- the most steps of so many turns over so many places
abbrev turn_steps : ℕ → ℕ → ℕ
turn_steps zero places = 0
turn_steps (suc turns) places = places + 4 + turn_steps turns places

retry_bound : {i : ℕ} {rank : List ℕ} {turns : ℕ} {steps : List WordStep} {answer : Option ℕ}
    → IsRetry i rank turns steps answer → length steps ≤ turn_steps turns (length rank)
retry_bound no_turn = omega arith
retry_bound (turn_won {sweep = first} {second = second} sweep again) =
    let a = sweep_bound sweep in let b = pass_bound again in let e = length-append first second in omega arith
retry_bound (turn_kept sweep first) = let a = kept_bound sweep in omega arith
retry_bound (turn_passed {sweep = first} {second = second} {rest = rest} sweep again more) =
    let a = sweep_bound sweep in let b = pass_bound again in let c = retry_bound more in
    let e = length-append first second in let f = length-append (first ++ second) rest in omega arith

-- a visit is a pass and its turns
pub visit_bound : {i : ℕ} {rank : List ℕ} {turns : ℕ} {steps : List WordStep} {answer : Option ℕ}
    → IsVisit i rank turns steps answer → length steps ≤ length rank + 1 + turn_steps turns (length rank)
visit_bound (at_once once) = let a = pass_bound once in omega arith
visit_bound (retried {first = first} {rest = rest} some once again) =
    let a = pass_bound once in let b = retry_bound again in let e = length-append first rest in omega arith

-- the most steps of all these visits
abbrev pub most_steps : List Visit → ℕ
most_steps [] = 0
most_steps (visit ∷ visits) = length visit.rank + 1 + turn_steps visit.turns (length visit.rank) + most_steps visits

-- a search has at most the steps of all its visits
pub search_bound : {l : Layout} {vs : List Visit} {steps : List WordStep} {answer : Option ℕ}
    → IsSearch l vs steps answer → length steps ≤ most_steps vs
search_bound over = omega arith
search_bound (won {visits = more} visit) = let a = visit_bound visit in omega arith
search_bound (passed {steps = first} {rest = rest} visit search) =
    let a = visit_bound visit in let b = search_bound search in let e = length-append first rest in omega arith

most_steps-append : (xs ys : List Visit) → most_steps (xs ++ ys) ≡ most_steps xs + most_steps ys
most_steps-append [] ys = omega arith
most_steps-append (x ∷ xs) ys = let rest = most_steps-append xs ys in omega arith

most_steps-map : (of : ℕ → Visit) (f : ℕ → ℕ) (is : List ℕ)
    → All (λ i. length (of i).rank + 1 + turn_steps (of i).turns (length (of i).rank) ≤ f i) is
    → most_steps (map of is) ≤ tally f is
most_steps-map of f [] h = omega arith
most_steps-map of f (i ∷ is) h =
    let P : ℕ → Type 0 = λ i. length (of i).rank + 1 + turn_steps (of i).turns (length (of i).rank) ≤ f i in
    let first = All-head P i is h in let rest = most_steps-map of f is (All-tail P i is h) in omega arith

-- a visit of so many places, with the most turns or with one
one_visit : (b : Bool) (places depth bits : ℕ) → places ≤ depth → depth ≤ bits
    → places + 1 + turn_steps (cond b most_turns 1) places ≤ 2 * depth + 5 + cond b (3 * (bits + 4)) 0
one_visit true places depth bits h k = omega arith
one_visit false places depth bits h k = omega arith

-- all visits of a search make at most two claims of each tag, five more steps for each word, and three turns more in
-- the first
pub visits_bound : (l : Layout) (first : ℕ) (reach : Reach) → first ≤ words l
    → ((i : ℕ) → i < words l → reach.limit i ≤ word_depth l i)
    → most_steps (visits l first reach) ≤ 2 * l.depth + 5 * words l + 3 * (word_bits l + 4)
visits_bound l first reach h within =
    let of : ℕ → Visit = visit_of first reach in
    let more = 3 * (word_bits l + 4) in
    let g : ℕ → ℕ = λ i. 2 * word_depth l i + 5 in
    let f : ℕ → ℕ = λ i. g i + cond (nat_eq i first) more 0 in
    let P : ℕ → Type 0 = λ i. length (of i).rank + 1 + turn_steps (of i).turns (length (of i).rank) ≤ f i in
    let each : (i : ℕ) → i < words l → P i = λ i k.
    let a : length (of i).rank ≤ reach.limit i = length-scan_order (cond (nat_eq i first) reach.start 0)
    (reach.limit i) reach.wrap in let b = within i k in
    one_visit (nat_eq i first) (length (of i).rank) (word_depth l i) (word_bits l) (omega arith) (omega arith) in
    let front = numbers first (words l) in let back = numbers 0 first in
    let split : most_steps (visits l first reach) ≡ most_steps (map of front) + most_steps (map of back) =
    ap most_steps (visits-split l first reach h) ∙ most_steps-append (map of front) (map of back) in
    let a = most_steps-map of f front (all_numbers P first (words l) (λ i _ k. each i k)) in
    let b = most_steps-map of f back (all_numbers P 0 first (λ i _ k. each i (omega arith))) in
    let sum = tally-around f first (words l) h in
    let once = sum_below-once g more first (words l) in let total = steps-sum l in omega arith
