-- What a get in one set is for the hand.
use Rattle.std.specs.Prelude.{◌+◌, ◌<◌, ◌∷◌, ◌↔◌, ◌≡◌, ◌≤◌}
use Rattle.tag_pool.proofs.Uses.{[], ap, arith, Bool, Caller, Changes, Err, false, first_of, Hand, HoldsMore, IfOk, IfSome, IsHandOf, IsTrue, Kind, kind_of, Layout, layout_of, length, List, Makes, map_of, None, number_in_set, Ok, OnErr, Option, Ordinary, Pool, Record, record_after, record_of, refl, Reserved, reserved_of, Result, Shape, Side, side_of, Some, split_of, subst, sym, total_of, true, with_side, Word, word_depth, WordStep, ℕ, ◌∙◌}
use Rattle.tag_search.specs.Batch.{IsBatchVisit, no_run, run_lost, run_taken, IsBatchSearch, batch_over, batch_won, batch_passed}
use Rattle.tag_search.specs.Gains as gains
use Rattle.tag_search.specs.Shared.{record_after_all}
use Rattle.tag_pool.specs.Sides as side
use Rattle.tag_pool.specs.Gets.{Gets, GetsBatch, GetsBy, GetsShallow, IsAnswer, IsInRun, IsTagIn, whole, whole_run}
use Rattle.tag_pool.proofs.Numbering.{at_first, stands_for}
use Rattle.tag_pool.proofs.Lifting.{InSet, more}
use Rattle.tag_pool.proofs.Passing.{beside, here, parted}
use Rattle.tag_model.proofs.HoldingFacts.{more_like}

steps_after : {R : Type 0} (steps : List WordStep) (r : Record R)
    → length (record_after_all steps r).steps ≡ length steps + length r.steps
steps_after [] r = omega arith
steps_after (x ∷ steps) r = let h = steps_after steps (record_after (Word x) r) in omega arith

-- a get adds at most this many steps
pub few_steps : {R : Type 0} {fact : List WordStep → Type 0} {old new : Caller R} (most : ℕ)
    → ((steps : List WordStep) → fact steps → length steps ≤ most)
    → Makes old new fact → length (record_of new).steps ≤ most + length (record_of old).steps
few_steps {old = old} most h m =
    let e = ap (λ (r : Record _). length r.steps) m.added.known in let n = steps_after m.steps (record_of old) in
    let b = h m.steps m.holds in omega arith

-- so does one that may be refused, and then makes none
pub got_few : {R Answer Fault : Type 0} (Else : Type 0) {fact : Answer → List WordStep → Type 0} (most : ℕ) (old new : Caller R)
    (result : Result Answer Fault) → ((answer : Answer) (steps : List WordStep) → fact answer steps → length steps ≤ most)
    → IfOk result (λ answer. Makes old new (fact answer)) → OnErr result ((new ≡ old) × Else)
    → length (record_of new).steps ≤ most + length (record_of old).steps
got_few Else most old new (Ok answer) h m same = few_steps most (h answer) m
got_few Else most old new (Err fault) h m same =
    let e = ap (λ (c : Caller _). length (record_of c).steps) same.0 in omega arith

-- the number that a set returns is that of the tag returned
answer_there : (first : ℕ) (number : Option ℕ) (n : ℕ) → gains.IsAnswer number n → IsAnswer (whole first number) (first + n)
answer_there first None n a = a
answer_there first (Some m) n a = ap (λ (x : ℕ). first + x) a

answer_back : (first : ℕ) (number : Option ℕ) (tag : ℕ) → IsAnswer (whole first number) tag
    → (n : ℕ) × (tag ≡ first + n) × gains.IsAnswer number n
answer_back first None tag a = absurd a
answer_back first (Some m) tag a = (m, a, refl)

-- the same of the numbers of a batch
run_there : (first : ℕ) (run : Option (ℕ × ℕ)) (n : ℕ) → gains.IsInRun run n → IsInRun (whole_run first run) (first + n)
run_there first None n a = a
run_there first (Some won) n a = let e = a.1 in (a.0, omega arith, a.2)

run_back : (first : ℕ) (run : Option (ℕ × ℕ)) (tag : ℕ) → IsInRun (whole_run first run) tag
    → (n : ℕ) × (tag ≡ first + n) × gains.IsInRun run n
run_back first None tag a = absurd a
run_back first (Some won) tag a = let e = a.1 in (won.0 + a.0, omega arith, (a.0, refl, a.2))

visit_within : {i depth n : ℕ} {steps : List WordStep} {answer : Option (ℕ × ℕ)} → IsBatchVisit i depth n steps answer
    → IfSome answer (λ won. won.0 < depth)
visit_within (no_run look none) = tt
visit_within (run_lost next look run lost) = tt
visit_within (run_taken next look run won) = let f = run.first in omega arith

-- the first number of a batch is one of the set
pub run_low : (l : Layout) (n : ℕ) {is : List ℕ} {steps : List WordStep} {answer : Option (ℕ × ℕ)}
    → IsBatchSearch l n is steps answer → IfSome answer (λ won. won.0 < l.depth)
run_low l n batch_over = tt
run_low l n (batch_won {i = i} {place = place} visit) = let low : place < word_depth l i = visit_within visit in omega arith
run_low l n (batch_passed visit rest) = run_low l n rest

-- so it is of a get of the set, which under round robin finds none
pub batch_low : {R : Type 0} (l : Layout) (n : ℕ) (run : Option (ℕ × ℕ)) (old new : Side R)
    → (IsTrue (side.hint_of old).round_robin → run ≡ None)
    → ((side.hint_of old).round_robin ≡ false → side.GetsBatch l n run old new) → IfSome run (λ won. won.0 < l.depth)
batch_low l n run old new none gets = elim ((side.hint_of old).round_robin) as
    (λ (b : Bool). (side.hint_of old).round_robin ≡ b → IfSome run (λ won. won.0 < l.depth)) [
      | true ↦ (λ t. subst (λ (r : Option (ℕ × ℕ)). IfSome r (λ won. won.0 < l.depth)) (sym (none (search t))) tt)
      | false ↦ (λ f. run_low l n (gets f).steps.holds.search)
    ] refl

-- the reserved set has the numbers of its tags
pub whole_reserved : (answer : Option ℕ) → answer ≡ whole 0 answer
whole_reserved None = refl
whole_reserved (Some n) = ap Some (omega arith)

module _ {R : Type 0} (pool : Pool R) (hand : Hand R) (own : IsHandOf pool hand) where
  low_in : (kind : Kind) (n : ℕ) → n < (layout_of pool kind).depth → kind ≡ Reserved → n < split_of hand
  low_in Reserved n less e = let is = pool.reserved_is in omega (arith, own.2)
  low_in Ordinary n less e = absurd (let z = e in cc)

  below_total : (kind : Kind) (n : ℕ) → n < (layout_of pool kind).depth
      → first_of (reserved_of pool) kind + n < total_of pool
  below_total Ordinary n less = omega arith
  below_total Reserved n less = let is = pool.reserved_is in omega arith

  -- numbers of a set and the tags that they stand for
  pub set_like : (kind : Kind) (named Q : ℕ → Type 0) → ((n : ℕ) → named n → n < (layout_of pool kind).depth)
      → ((n : ℕ) → named n → Q (first_of (reserved_of pool) kind + n))
      → ((tag : ℕ) → Q tag → (n : ℕ) × (tag ≡ first_of (reserved_of pool) kind + n) × named n)
      → (tag : ℕ) → InSet hand kind named tag ↔ Q tag
  set_like kind named Q within there back tag = (
    (λ s. subst Q
        (ap (λ (r : ℕ). first_of r kind + number_in_set (split_of hand) tag) (sym own.2) ∙ at_first (split_of hand) kind tag s.0)
        (there (number_in_set (split_of hand) tag) s.1)),
    (λ q. let b = back tag q in
        let s = stands_for (split_of hand) kind b.0 tag (low_in kind b.0 (within b.0 b.2))
        (b.1 ∙ ap (λ (r : ℕ). first_of r kind + b.0) (sym own.2)) in
        (s.kind_is, subst named (sym s.number_is) b.2)),
  )

  -- numbers that the hand gains in a set are the tags that they stand for
  module _ (kind : Kind) (new : Side R) (still : side.IsSideOf (map_of pool kind) new) (named Q : ℕ → Type 0)
      (there : (n : ℕ) → named n → Q (first_of (reserved_of pool) kind + n))
      (back : (tag : ℕ) → Q tag → (n : ℕ) × (tag ≡ first_of (reserved_of pool) kind + n) × named n)
      (gain : side.HoldsMore named (side_of hand kind) new) where
    pub within : (n : ℕ) → named n → n < (layout_of pool kind).depth
    within n is = subst (λ (k : Shape). n < k.layout.depth) still.1 (gain.joined n is).0

    gains_more : HoldsMore Q hand (with_side hand kind new)
    gains_more = more_like (set_like kind named Q within there back)
        (more hand (with_side hand kind new) kind (beside hand kind new) (parted hand kind new) named
        (subst (side.HoldsMore named (side_of hand kind)) (sym (here hand kind new)) gain))

    gains_tags : (tag : ℕ) → Q tag → IsTagIn pool kind tag
    gains_tags tag q = let b = back tag q in let less = within b.0 b.2 in let total = below_total kind b.0 less in
        let is = b.1 in (
          subst (λ (t : ℕ). t < total_of pool) (sym is) total,
          subst (λ (r : ℕ). kind_of r tag ≡ kind) own.2
              (stands_for (split_of hand) kind b.0 tag (low_in kind b.0 less)
              (is ∙ ap (λ (r : ℕ). first_of r kind + b.0) (sym own.2))).kind_is,
        )

  -- the hand with this side changed in the set as the side did
  changes_so : (kind : Kind) (new : Side R) (change : Side R → Side R → Type 0) → change (side_of hand kind) new
      → Changes kind change hand (with_side hand kind new)
  changes_so kind new change did = record {
    changed = subst (change (side_of hand kind)) (sym (here hand kind new)) did;
    other = beside hand kind new;
    split = parted hand kind new;
  }

  module _ (kind : Kind) (new : Side R) (still : side.IsSideOf (map_of pool kind) new) where
    -- what the side gains by a search for one tag the hand gains
    pub gets_by : (search : Option ℕ → Side R → Side R → Type 0) (number : Option ℕ) → search number (side_of hand kind) new
        → side.HoldsMore (gains.IsAnswer number) (side_of hand kind) new
        → GetsBy pool kind search (whole (first_of (reserved_of pool) kind) number) hand (with_side hand kind new)
    gets_by search number did gain = let first = first_of (reserved_of pool) kind in
        let named : ℕ → Type 0 = gains.IsAnswer number in let Q : ℕ → Type 0 = IsAnswer (whole first number) in record {
          more = gains_more kind new still named Q (answer_there first number) (answer_back first number) gain;
          tag = gains_tags kind new still named Q (answer_there first number) (answer_back first number) gain;
          number = number;
          answer_is = refl;
          set = changes_so kind new (search number) did;
        }

    pub gets_of : (number : Option ℕ) → side.GetsPlain (layout_of pool kind) number (side_of hand kind) new
        → Gets pool kind (whole (first_of (reserved_of pool) kind) number) hand (with_side hand kind new)
    gets_of number g = gets_by (side.GetsPlain (layout_of pool kind)) number g g.searches.gains.acquires

    -- a number found is one of the set
    pub found_low : (number : Option ℕ) → side.HoldsMore (gains.IsAnswer number) (side_of hand kind) new
        → IfSome number (λ n. n < (layout_of pool kind).depth)
    found_low None gain = tt
    found_low (Some n) gain = subst (λ (k : Shape). n < k.layout.depth) still.1 (gain.joined n refl).0

  module _ (new : Side R) (still : side.IsSideOf pool.ordinary new) where
    pub shallow_of : (depth : ℕ) (number : Option ℕ) → side.GetsShallow (layout_of pool Ordinary) depth number hand.ordinary new
        → GetsShallow pool depth (whole (reserved_of pool) number) hand (record hand { ordinary = new })
    shallow_of depth number g =
        gets_by Ordinary new still (side.GetsShallow (layout_of pool Ordinary) depth) number g g.searches.gains.acquires

    pub batch_of : (n : ℕ) (run : Option (ℕ × ℕ)) → side.GetsBatch (layout_of pool Ordinary) n run hand.ordinary new
        → GetsBatch pool n (whole_run (reserved_of pool) run) hand (record hand { ordinary = new })
    batch_of n run g = let first = reserved_of pool in let named : ℕ → Type 0 = gains.IsInRun run in
        let Q : ℕ → Type 0 = IsInRun (whole_run first run) in record {
          more = gains_more Ordinary new still named Q (run_there first run) (run_back first run) g.gains.acquires;
          tags = gains_tags Ordinary new still named Q (run_there first run) (run_back first run) g.gains.acquires;
          number = run;
          answer_is = refl;
          set = record { changed = g; other = refl; split = refl };
        }
