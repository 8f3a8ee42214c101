-- The steps of calls in a row.
use Rattle.std.specs.Prelude.{◌++◌}
use Rattle.tag_search.proofs.Uses.{[], AddsSteps, append-nil, append_assoc, List, SameRoom, subst, sym, WordStep, ℕ}

-- these steps, followed by any that are the rest, are the whole, with the same answer
abbrev pub Begins : {Answer : Type 0} → (List WordStep → Answer → Type 0) → (List WordStep → Answer → Type 0)
    → List WordStep → Type 0
Begins {Answer} Rest Whole steps = (rest : List WordStep) (answer : Answer) → Rest rest answer
    → Whole (steps ++ rest) answer

module _ {Port : Type 0} (adds : Port → List WordStep → Port → Type 0) where
  -- a weaker fact holds of the steps
  pub adds_weaker : (p q : Port) (Strong Weak : List WordStep → Type 0)
      → ((xs : List WordStep) → Strong xs → Weak xs) → AddsSteps adds p q Strong → AddsSteps adds p q Weak
  adds_weaker p q Strong Weak weaker a = record { steps = a.steps; added = a.added; holds = weaker a.steps a.holds }

  -- nothing was left to do
  pub adds_over : {Answer : Type 0} (p q : Port) (Rest Whole : List WordStep → Answer → Type 0) (answer : Answer)
      → Rest [] answer → AddsSteps adds p q (Begins Rest Whole) → AddsSteps adds p q (λ xs. Whole xs answer)
  adds_over p q Rest Whole answer over = adds_weaker p q (Begins Rest Whole) (λ xs. Whole xs answer)
      (λ xs begun. subst (λ zs. Whole zs answer) (append-nil xs) (begun [] answer over))

module _ {Port : Type 0} (adds : Port → List WordStep → Port → Type 0)
    (more : (p q r : Port) (xs ys : List WordStep) → adds p xs q → adds q ys r → adds p (xs ++ ys) r)
    (p q r : Port) where
  -- the steps of two calls, from the steps of each
  pub adds_joined : (First Second Both : List WordStep → Type 0)
      → ((xs ys : List WordStep) → First xs → Second ys → Both (xs ++ ys))
      → AddsSteps adds p q First → AddsSteps adds q r Second → AddsSteps adds p r Both
  adds_joined First Second Both joins a b = record {
    steps = a.steps ++ b.steps;
    added = more p q r a.steps b.steps a.added b.added;
    holds = joins a.steps b.steps a.holds b.holds;
  }

  -- steps that leave less to do
  pub adds_further : {Answer : Type 0} (Rest Middle Whole : List WordStep → Answer → Type 0)
      → AddsSteps adds p q (Begins Middle Whole) → AddsSteps adds q r (Begins Rest Middle)
      → AddsSteps adds p r (Begins Rest Whole)
  adds_further Rest Middle Whole = adds_joined (Begins Middle Whole) (Begins Rest Middle) (Begins Rest Whole)
      (λ xs ys begun on rest answer is. subst (λ zs. Whole zs answer) (sym (append_assoc xs ys rest))
      (begun (ys ++ rest) answer (on rest answer is)))

  -- all that was left to do
  pub adds_ended : {Answer : Type 0} (Rest Whole : List WordStep → Answer → Type 0) (answer : Answer)
      → AddsSteps adds p q (Begins Rest Whole) → AddsSteps adds q r (λ xs. Rest xs answer)
      → AddsSteps adds p r (λ xs. Whole xs answer)
  adds_ended Rest Whole answer = adds_joined (Begins Rest Whole) (λ xs. Rest xs answer) (λ xs. Whole xs answer)
      (λ xs ys begun. begun ys answer)

-- two calls that each keep the room keep it together
pub same_room_joined : {Port : Type 0} (room : Port → ℕ → Type 0) (p q r : Port) → SameRoom room p q → SameRoom room q r
    → SameRoom room p r
same_room_joined room p q r a b n = (λ x. (b n).0 ((a n).0 x), λ x. (a n).1 ((b n).1 x))
