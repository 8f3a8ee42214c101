-- The state between the turns of a visit.
use Rattle.std.specs.Prelude.{◌++◌, ◌<◌, ◌≡◌}
use Rattle.tag_search.proofs.Uses.{[], AddsSteps, IsFirstSwept, IsLeastKept, IsPass, IsRetry, IsSweep, List, no_turn, None, scan_order, Some, subst, suc, sym, true, turn_kept, turn_passed, turn_won, WordStep, ℕ}
use Rattle.tag_search.proofs.KeptPlaces.{first_swept}
use Rattle.tag_search.proofs.Joined.{Begins, adds_weaker, adds_joined, adds_further, adds_ended, adds_over}

module _ {Port : Type 0} (adds : Port → List WordStep → Port → Type 0)
    (more : (p q r : Port) (xs ys : List WordStep) → adds p xs q → adds q ys r → adds p (xs ++ ys) r) (i : ℕ)
    (rank : List ℕ) (all mask : ℕ) (p q r t : Port) (left less : ℕ) (e : left ≡ suc less) where
  -- a turn that won nothing
  pub turn_further : AddsSteps adds p q (Begins (IsRetry i rank left) (IsRetry i rank all))
      → AddsSteps adds q r (IsSweep i mask) → AddsSteps adds r t (λ xs. IsPass i rank xs None)
      → AddsSteps adds p t (Begins (IsRetry i rank less) (IsRetry i rank all))
  turn_further begun sweep second =
      adds_further adds more p q t (IsRetry i rank less) (IsRetry i rank left) (IsRetry i rank all) begun
      (adds_joined adds more q r t (IsSweep i mask) (λ xs. IsPass i rank xs None)
      (Begins (IsRetry i rank less) (IsRetry i rank left))
      (λ xs ys swept passed rest answer on. subst (λ n. IsRetry i rank n ((xs ++ ys) ++ rest) answer) (sym e)
      (turn_passed swept passed on)) sweep second)

  -- a turn that won a place
  pub turn_ends : (place : ℕ) → AddsSteps adds p q (Begins (IsRetry i rank left) (IsRetry i rank all))
      → AddsSteps adds q r (IsSweep i mask) → AddsSteps adds r t (λ xs. IsPass i rank xs (Some place))
      → AddsSteps adds p t (λ xs. IsRetry i rank all xs (Some place))
  turn_ends place begun sweep second =
      adds_ended adds more p q t (IsRetry i rank left) (IsRetry i rank all) (Some place) begun
      (adds_joined adds more q r t (IsSweep i mask) (λ xs. IsPass i rank xs (Some place))
      (λ xs. IsRetry i rank left xs (Some place))
      (λ xs ys swept passed. subst (λ n. IsRetry i rank n (xs ++ ys) (Some place)) (sym e) (turn_won swept passed))
      sweep second)

-- a turn whose sweep kept the least place that it swept, of all places of the word
pub turn_keeps : {Port : Type 0} (adds : Port → List WordStep → Port → Type 0)
    (more : (p q r : Port) (xs ys : List WordStep) → adds p xs q → adds q ys r → adds p (xs ++ ys) r) (i : ℕ)
    (rank : List ℕ) (all : ℕ) (p q r : Port) (left less depth place : ℕ) → left ≡ suc less
    → rank ≡ scan_order 0 depth true → place < depth
    → AddsSteps adds p q (Begins (IsRetry i rank left) (IsRetry i rank all)) → AddsSteps adds q r (IsLeastKept i place)
    → AddsSteps adds p r (λ xs. IsRetry i rank all xs (Some place))
turn_keeps adds more i rank all p q r left less depth place e whole low begun kept =
    adds_ended adds more p q r (IsRetry i rank left) (IsRetry i rank all) (Some place) begun
    (adds_weaker adds q r (IsLeastKept i place) (λ xs. IsRetry i rank left xs (Some place))
    (λ xs least. subst (λ n. IsRetry i rank n xs (Some place)) (sym e)
    (turn_kept least.sweep (subst (λ order. IsFirstSwept least.mask order place) (sym whole)
    (first_swept least.mask place depth low least.least)))) kept)

-- no turn is left
pub turns_over : {Port : Type 0} (adds : Port → List WordStep → Port → Type 0) (i : ℕ) (rank : List ℕ) (all : ℕ)
    (p q : Port) (left : ℕ) → left ≡ 0 → AddsSteps adds p q (Begins (IsRetry i rank left) (IsRetry i rank all))
    → AddsSteps adds p q (λ xs. IsRetry i rank all xs None)
turns_over adds i rank all p q left e = adds_over adds p q (IsRetry i rank left) (IsRetry i rank all) None
    (subst (λ n. IsRetry i rank n [] None) (sym e) no_turn)
