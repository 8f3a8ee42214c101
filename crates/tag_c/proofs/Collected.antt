-- The hands of a pool: the spare ones, and behind them those that had left.
use Rattle.std.specs.Prelude.{◌++◌, ◌∷◌, ◌≡◌, ◌≤◌}
use Rattle.tag_c.proofs.Uses.{[], All, All-cons, All-head, All-nil, All-tail, append_assoc, Gathers, Hand, hands_of, HasHands, IsGathered, IsHandOf, IsResized, length, List, MayResize, number_of, numbers_of, reverse, subst, suc, sym, Pool}
use Rattle.tag_c.proofs.Uses.{ap, take, Totals, zero, ℕ, ◌∙◌}
use mathlib.Core.List.{reverse_aux}
use mathlib.Core.Option.{some}
use lib.ListN.{get_elem?}
use Rattle.std.proofs.lemmas.List.{map-append, length-map, length-take-le}
use Rattle.step_ledger.specs.Gather.{HasAll, IsCauseOf}
use Rattle.step_ledger.specs.declared.numbered.GatherCause.{GatherCause}
use Rattle.std.proofs.Common.{eq-eqb, get_or}
use Rattle.std.proofs.Math.Dec.{eqb}
use Rattle.std.proofs.lemmas.List.Folds.{list_any_at}
use Rattle.std.proofs.lemmas.Map.Steps.{le-length_from_below}
use Rattle.step_ledger.proofs.Seats.{within}
use Rattle.tag_core.proofs.Entries.{entry_or}

-- what holds for all elements of two lists holds for those of the first, put in reverse order before the second
all_turned : {X : Type 0} (P : X → Type 0) (xs ys : List X) → All P xs → All P ys → All P (reverse_aux xs ys)
all_turned P [] ys all rest = rest
all_turned P (x ∷ xs) ys all rest =
    all_turned P xs (x ∷ ys) (All-tail P x xs all) (All-cons P x ys (All-head P x xs all) rest)

-- what holds for all elements of a list holds for them in reverse order
pub All-reverse : {X : Type 0} (P : X → Type 0) (xs : List X) → All P xs → All P (reverse xs)
All-reverse P xs all = all_turned P xs [] all (All-nil P)

-- one more hand behind the spare ones and others
pub one_more : (spare left hands more : List (Hand ℕ)) (hand : Hand ℕ) → hands ≡ spare ++ left
    → more ≡ hands ++ hand ∷ [] → more ≡ spare ++ (left ++ hand ∷ [])
one_more spare left hands more hand is next =
    next ∙ ap (λ (l : List (Hand ℕ)). l ++ hand ∷ []) is ∙ append_assoc spare left (hand ∷ [])

-- the entries of the first of two lists
at_first : (xs ys : List ℕ) (i x : ℕ) → get_elem? xs i ≡ some x → get_elem? (xs ++ ys) i ≡ some x
at_first [] ys i x is = absurd (let no = is in cc)
at_first (y ∷ xs) ys zero x is = is
at_first (y ∷ xs) ys (suc i) x is = at_first xs ys i x is

-- if the spare hands are all hands of the tags, they are so with others behind them
still_all : (tags : Pool ℕ) (spare left : List (Hand ℕ)) → HasHands tags spare → HasHands tags (spare ++ left)
still_all tags spare left every = λ number low. let has = every number low in (
  has.0,
  subst (λ (ns : List ℕ). get_elem? ns has.0 ≡ some number) (sym (map-append number_of spare left))
      (at_first (numbers_of spare) (numbers_of left) has.0 number has.1),
)

module _ (tags parted : Pool ℕ) (spare left hands : List (Hand ℕ)) (same : parted ≡ tags) (are : hands ≡ spare ++ left) where
  -- what was gathered are the spare hands and those that had left
  pub gathers : (totals : Totals) → All (IsHandOf tags) hands → HasHands parted hands → IsGathered parted hands totals
      → Gathers tags spare totals
  gathers totals own every is = record {
    left = left;
    own = subst (All (IsHandOf tags)) are own;
    every = subst (λ (t : Pool ℕ). HasHands t (spare ++ left)) same (subst (HasHands parted) are every);
    gathered = subst (λ (t : Pool ℕ). IsGathered t (spare ++ left) totals) same
        (subst (λ (l : List (Hand ℕ)). IsGathered parted l totals) are is);
  }

  -- if one is missing, not all are spare
  pub misses_one : (cause : GatherCause) → IsCauseOf (numbers_of hands) (hands_of parted) cause → ¬ (HasHands tags spare)
  misses_one cause is every =
      let told : IsCauseOf (numbers_of (spare ++ left)) (hands_of tags) cause =
      subst (λ (t : Pool ℕ). IsCauseOf (numbers_of (spare ++ left)) (hands_of t) cause) same
      (subst (λ (l : List (Hand ℕ)). IsCauseOf (numbers_of l) (hands_of parted) cause) are is) in
      let least = told.2 in least.1 (still_all tags spare left every told.0 least.0)

-- a list that has each number below a count has at least that many entries
enough : (ns : List ℕ) (count : ℕ) → HasAll ns count → count ≤ length ns
enough ns count every = le-length_from_below ns count (λ number low. let has = every number low in
    let there = within ns has.0 number has.1 in
    let is : number ≡ get_or ns has.0 0 = (let at = has.1 in let or = entry_or ns has.0 0 there in cc) in
    list_any_at (eqb number) ns has.0 0 there (eq-eqb number (get_or ns has.0 0) is))

module _ (old new : Pool ℕ) (hands resized : List (Hand ℕ)) (total : ℕ) (may : MayResize old hands total)
    (is : IsResized old hands total new resized) where
  -- after a resize the tags have as many hands as before
  pub as_many : hands_of new ≡ hands_of old
  as_many = is.ordinary.next.callers_is

  -- and all of them are there
  all_there : hands_of old ≤ length resized
  all_there = let every : HasAll (numbers_of resized) (hands_of old) =
      subst (λ (ns : List ℕ). HasAll ns (hands_of old)) (sym is.numbers) may.0.0 in
      subst (λ (n : ℕ). hands_of old ≤ n) (length-map resized number_of)
      (enough (numbers_of resized) (hands_of old) every)

  -- so as many can be taken as there were
  pub as_many_there : (n : ℕ) → n ≡ hands_of old → (seen : List (Hand ℕ)) → seen ≡ resized → length (take n seen) ≡ n
  as_many_there n count seen are = length-take-le n seen (subst (λ (hands : List (Hand ℕ)). n ≤ length hands) (sym are)
      (subst (λ (m : ℕ). m ≤ length resized) (sym count) all_there))
