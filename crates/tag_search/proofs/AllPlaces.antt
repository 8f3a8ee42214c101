-- A plain search without round robin, from its first word on.
use Rattle.std.specs.Prelude.{◌++◌, ◌+◌, ◌<◌, ◌∷◌, ◌≡◌}
use Rattle.tag_search.proofs.Uses.{ap, arith, Bool, cond, eq-eqb, false, IsSearch, IsVisit, Layout, List, map, most_turns, nat_eq, None, numbers, Option, passed, places_in, plain_reach, refl, scan_order, Some, subst, sym, tag_at, true, Visit, visit_of, visits, won, word_depth, words, WordStep, ℕ}
use Rattle.tag_search.proofs.Uses.{◌∙◌}
use Rattle.tag_search.proofs.Orders.{numbers-cons}
use Rattle.tag_search.proofs.Searches.{visits-split}

start-same : (b : Bool) → let z : ℕ = 0 in z ≡ cond b z z
start-same true = refl
start-same false = refl

module _ (l : Layout) (first : ℕ) (h : first < words l) where
  abbrev of : ℕ → Visit
  of = visit_of first (plain_reach l false 0)

  abbrev pub others : List Visit
  others = map of (numbers (first + 1) (words l)) ++ map of (numbers 0 first)

  visit-is : (steps : List WordStep) (answer : Option ℕ) → IsVisit first (places_in l first) most_turns steps answer
      → IsVisit first (of first).rank (of first).turns steps answer
  visit-is steps answer v =
      subst (λ (s : ℕ). IsVisit first (scan_order s (word_depth l first) true) (of first).turns steps answer)
      (start-same (nat_eq first first))
      (subst (λ (b : Bool). IsVisit first (places_in l first) (cond b most_turns 1) steps answer)
      (sym (eq-eqb first first refl)) v)

  visits-are : visits l first (plain_reach l false 0) ≡ of first ∷ others
  visits-are =
      visits-split l first (plain_reach l false 0) (omega arith)
      ∙ ap (λ (is : List ℕ). map of is ++ map of (numbers 0 first)) (numbers-cons first (words l) h)

  -- the visit of the first word won a tag
  pub whole_won : (steps : List WordStep) (place : ℕ) → IsVisit first (places_in l first) most_turns steps (Some place)
      → IsSearch l (visits l first (plain_reach l false 0)) steps (Some (tag_at l first place))
  whole_won steps place v =
      subst (λ vs. IsSearch l vs steps (Some (tag_at l first place))) (sym visits-are)
      (won {visit = of first} (visit-is steps (Some place) v))

  -- the visit of the first word won nothing
  pub whole_passed : (steps more : List WordStep) (answer : Option ℕ)
      → IsVisit first (places_in l first) most_turns steps None → IsSearch l others more answer
      → IsSearch l (visits l first (plain_reach l false 0)) (steps ++ more) answer
  whole_passed steps more answer v search =
      subst (λ vs. IsSearch l vs (steps ++ more) answer) (sym visits-are)
      (passed {visit = of first} (visit-is steps None v) search)
