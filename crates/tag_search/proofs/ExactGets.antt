-- A get of one given tag: the visit of its place alone is a get, which answers that tag or none.
use Rattle.std.specs.Prelude.{◌*◌, ◌++◌, ◌+◌, ◌-◌, ◌<◌, ◌∷◌, ◌≡◌, ◌≢◌, ◌≤◌}
use Rattle.tag_search.proofs.Uses.{[], AddsAll, AddsThrough, All, All-cons, All-nil, ap, append-nil, arith, at_once, Caller, held_of, IfSome, IsCallerOf, IsPass, IsRetry, IsSearch, IsTries, IsVisit, latest_of, Layout, layout_of, left_free, length, List, loses, Makes, Map, most_turns, no_turn, None}
use Rattle.tag_search.proofs.Uses.{none_left, numbers, Option, over, pass, passed, place_of, place_of-below, Ports, refl, retried, Shared, Some, subst, sym, tag_at, tag_at-back, turn_kept, turn_passed, turn_won, Visit, wins, won, word_bits, word_bits-le, word_depth, word_of, word_of-below, words, WordStep, ℕ, ◌∙◌}
use Rattle.tag_layout.proofs.PlaceFacts.{word_bits-pos}
use Rattle.tag_search.specs.Exact.{IsExactGet, visits_at}
use Rattle.tag_search.proofs.Bounds.{search_bound}
use Rattle.tag_search.proofs.Choices.{search_alone}
use Rattle.tag_search.proofs.FreedFacts.{left_is}
use Rattle.tag_search.proofs.Inside.{IsInside}
use Rattle.tag_search.proofs.KeptPlaces.{kept_has}
use Rattle.tag_search.proofs.MapGets.{Got, got_over}
use Rattle.tag_search.proofs.Orders.{numbers-cons, numbers-none}
use Rattle.tag_search.proofs.Passes.{all_left}

-- a fact of each place of the rank holds of the one that a visit wins
module _ (P : ℕ → Type 0) where
  tries_has : {i : ℕ} {rank : List ℕ} {found : ℕ} {steps : List WordStep} {answer : Option ℕ}
      → IsTries i rank found steps answer → All P rank → IfSome answer P
  tries_has (none_left taken) all = tt
  tries_has (wins {rank = rank} {behind = behind} {found = found} {place = place} first clear) all =
      (all_left P found rank behind place first all).0
  tries_has (loses {rank = rank} {behind = behind} {found = found} {place = place} first taken more) all =
      tries_has more (all_left P found rank behind place first all).1

  pass_has : {i : ℕ} {rank : List ℕ} {steps : List WordStep} {answer : Option ℕ} → IsPass i rank steps answer
      → All P rank → IfSome answer P
  pass_has (pass more) all = tries_has more all

  retry_has : {i : ℕ} {rank : List ℕ} {turns : ℕ} {steps : List WordStep} {answer : Option ℕ}
      → IsRetry i rank turns steps answer → All P rank → IfSome answer P
  retry_has no_turn all = tt
  retry_has (turn_won sweep again) all = pass_has again all
  retry_has (turn_kept sweep first) all = kept_has P first all
  retry_has (turn_passed sweep again more) all = retry_has more all

  visit_has : {i : ℕ} {rank : List ℕ} {turns : ℕ} {steps : List WordStep} {answer : Option ℕ}
      → IsVisit i rank turns steps answer → All P rank → IfSome answer P
  visit_has (at_once once) all = pass_has once all
  visit_has (retried some once again) all = retry_has again all

-- the rank of one place
only_place : (place : ℕ) → numbers place (place + 1) ++ numbers 0 0 ≡ place ∷ []
only_place place = ap (λ (xs : List ℕ). xs ++ numbers 0 0) (numbers-cons place (place + 1) (omega arith)
    ∙ ap (λ (xs : List ℕ). place ∷ xs) (numbers-none (place + 1) (place + 1) (omega arith)))

-- the tag, if its place was won
abbrev pub answer_at : ℕ → Option ℕ → Option ℕ
answer_at tag None = None
answer_at tag (Some place) = Some tag

module _ (l : Layout) (tag : ℕ) (low : tag < l.depth) where
  -- the place is within its word
  inside : All (IsInside l) (visits_at l tag)
  inside = All-cons (IsInside l) (record { word = word_of l tag; rank = place_of l tag ∷ []; turns = most_turns }) []
      (All-cons (λ place. place < word_depth l (word_of l tag)) (place_of l tag) [] (place_of-below l tag low)
      (All-nil (λ place. place < word_depth l (word_of l tag))))
      (All-nil (IsInside l))

  -- a search with this visit is the get
  of_search : (answer : Option ℕ) (steps : List WordStep) → l.shift ≤ 6 → IfSome answer (λ won. won ≡ tag)
      → IsSearch l (visits_at l tag) steps answer → IsExactGet l tag answer steps
  of_search answer steps narrow only search = let few = search_bound search in record {
    get = record {
      search = search;
      alone = λ w quiet. search_alone (word_bits-le l narrow) search w
          (All-nil (λ (other : Visit). other.word ≢ word_of l tag), tt) inside quiet;
      bound = let some = word_of-below l tag low in let bits = word_bits-pos l in omega arith;
    };
    only = only;
    bound = omega arith;
  }

  -- so is the visit, whatever it won
  of_visit : (won : Option ℕ) (steps : List WordStep) → l.shift ≤ 6
      → IsVisit (word_of l tag) (place_of l tag ∷ []) most_turns steps won → IsExactGet l tag (answer_at tag won) steps
  of_visit None steps narrow visit = of_search None steps narrow tt (subst (λ (xs : List WordStep).
      IsSearch l (visits_at l tag) xs None) (append-nil steps) (passed visit over))
  of_visit (Some place) steps narrow visit =
      let is : place ≡ place_of l tag = visit_has (λ p. p ≡ place_of l tag) visit
      (All-cons (λ p. p ≡ place_of l tag) (place_of l tag) [] refl (All-nil (λ p. p ≡ place_of l tag))) in
      let same : tag_at l (word_of l tag) place ≡ tag = ap (tag_at l (word_of l tag)) is ∙ tag_at-back l tag in
      of_search (Some tag) steps narrow refl
      (subst (λ (t : ℕ). IsSearch l (visits_at l tag) steps (Some t)) same (won visit))

-- the steps that a port added by such a visit
module _ {R : Type 0} (map : Map R) (caller : Caller R) (old new : Shared R) (map_is : old.map.now ≡ map)
    (caller_is : old.caller.now ≡ caller) (own : IsCallerOf map caller) (l : Layout) (same : l ≡ layout_of map)
    (tag word place : ℕ) (low : tag < (layout_of map).depth) (word_is : word ≡ word_of l tag)
    (place_is : place ≡ place_of l tag) (won : Option ℕ)
    (made : Ports AddsThrough old new (λ steps. IsVisit word (numbers place (place + 1) ++ numbers 0 0) most_turns steps won))
  where
    -- they are the get
    exact_is : IsExactGet (layout_of map) tag (answer_at tag won) made.steps
    exact_is = of_visit (layout_of map) tag low won made.steps map.small.1
        (subst (λ (x : ℕ × List ℕ). IsVisit x.0 x.1 most_turns made.steps won)
        (λ z. ((word_is ∙ ap (λ (k : Layout). word_of k tag) same) z, rank_is z)) made.holds)
      where
        rank_is : numbers place (place + 1) ++ numbers 0 0 ≡ place_of (layout_of map) tag ∷ []
        rank_is = only_place place
            ∙ ap (λ (p : ℕ). p ∷ []) (place_is ∙ ap (λ (k : Layout). place_of k tag) same)

    -- its caller made them
    pub exact_made : Makes caller new.caller.now (IsExactGet (layout_of map) tag (answer_at tag won))
    exact_made = record {
      steps = made.steps;
      added = subst (λ (c : Caller R). AddsAll made.steps c new.caller.now) caller_is made.added.added;
      holds = exact_is;
    }

    -- what the caller gains, and the choice if it is alone
    pub exact_got : Got (layout_of map) (visits_at (layout_of map) tag) (answer_at tag won) caller new.caller.now
    exact_got = let all = exact_made in got_over map caller new.caller.now own (λ k. visits_at k tag) (answer_at tag won)
        (inside (layout_of map) tag low) (record { steps = all.steps; added = all.added; holds = all.holds.get })

    -- and what its sweeps left free
    pub exact_left : (left : ℕ) → left ≡ new.freed - held_of new.caller.now (latest_of new) → old.freed ≡ 0
        → left ≡ left_free caller new.caller.now
    exact_left left is none = left_is caller old new made.steps caller_is none made.added left
        (subst (λ (m : Map R). let k = layout_of m in length made.steps ≤ 2 * k.depth + 5 * words k + 3 * (word_bits k + 4))
        (sym map_is) exact_is.get.bound) is
