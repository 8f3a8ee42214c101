-- How a get through the port of a map's caller changes the caller.
use Rattle.std.specs.Prelude.{◌++◌, ◌<◌, ◌≡◌, ◌≤◌}
use Rattle.tag_search.proofs.Uses.{adds_on, AddsAll, All, AddsThrough, ap, arith, batch_words, Bool, Caller, Chooses, ChoosesRun, Gains, GainsRun, Hint, HoldsMore, IfOk, inl, IsAlone, IsAnswer, IsBatchChoice, IsBatchGet, IsBegun, IsCallerOf, IsChoice, IsGet, IsInRun, IsRestOfGet, IsWonAtOnce, Layout}
use Rattle.tag_search.proofs.Uses.{layout_of, List, Makes, Map, None, Ok, Option, plain_reach, plain_visits, Ports, Reach, Record, record_of, reduced, refl, Result, SameMap, shallow_reach, shallow_visits, Shape, Shared, Some, subst, sym, Unfinished, Visit, visits, visits_from, word_bits-le}
use Rattle.tag_search.proofs.Uses.{word_depth, word_of, words, WordStep, ℕ, ◌∙◌}
use Rattle.tag_core.specs.declared.claims.Spent.{Spent}
use Rattle.tag_search.proofs.Freshness.{search_new, batch_new}
use Rattle.tag_search.proofs.GetFacts.{plain_within, shallow_within}
use Rattle.tag_search.proofs.HeldFacts.{acquires_answer, acquires_run}
use Rattle.tag_search.proofs.AloneCallers.{alone_still, own_changes, own_posted}
use Rattle.tag_search.proofs.RunFacts.{WonRun, batch_wins}
use Rattle.tag_search.proofs.Inside.{IsInside, visits_inside}
use Rattle.tag_search.proofs.SharedFacts.{Won, search_wins}

-- the effect of a get with these visits on its caller, in the form of the clauses of `on_map`
pub record Got {R : Type 0} (l : Layout) (visits : List Visit) (answer : Option ℕ) (old new : Caller R) : Type 0 where
  pub gains : Gains l answer old new
  pub steps : Makes old new (IsGet l visits answer)
  pub alone : IsAlone old → Chooses l visits answer old new

-- the same for a get of several tags
pub record GotRun {R : Type 0} (l : Layout) (n first : ℕ) (answer : Option (ℕ × ℕ)) (old new : Caller R) : Type 0 where
  pub gains : GainsRun l answer old new
  pub steps : Makes old new (IsBatchGet l n first answer)
  pub alone : IsAlone old → ChoosesRun l n first answer old new

module _ {R : Type 0} (map : Map R) (caller now : Caller R) (own : IsCallerOf map caller) where
  abbrev sizes : Layout
  sizes = caller.shape.value.layout

  narrow : sizes.shift ≤ 6
  narrow = subst (λ (k : Shape). k.layout.shift ≤ 6) (sym own.1) map.small.1

  -- what a get won is what it gains
  gains : (answer : Option ℕ) → HoldsMore (IsAnswer answer) caller now
      → Won sizes answer (record_of caller) (record_of now) → SameMap caller now → Gains sizes answer caller now
  gains answer acquires won same_map = record {
    acquires = acquires;
    held = won.held;
    count = won.won;
    back = won.back;
    number = won.number;
    shape = won.shape;
    same_map = same_map;
  }

  gains_run : (answer : Option (ℕ × ℕ)) → HoldsMore (IsInRun answer) caller now
      → WonRun sizes answer (record_of caller) (record_of now) → SameMap caller now → GainsRun sizes answer caller now
  gains_run answer acquires won same_map = record {
    acquires = acquires;
    held = won.held;
    count = won.won;
    back = won.back;
    number = won.number;
    shape = won.shape;
    same_map = same_map;
  }

  -- a get with these visits, from its steps
  got_by : (vs : List Visit) (answer : Option ℕ) → All (IsInside sizes) vs → Makes caller now (IsGet sizes vs answer)
      → Got sizes vs answer caller now
  got_by vs answer inside made =
      let all = made.added in
      let won : Won sizes answer (record_of caller) (record_of now) =
      subst (λ (t : Record R). Won sizes answer (record_of caller) t) (sym all.known)
      (search_wins sizes (word_bits-le sizes narrow) (record_of caller) made.holds.search all.finds inside) in record {
        gains = gains answer (acquires_answer caller now narrow answer won
            (search_new caller sizes refl (word_bits-le sizes narrow)
            (record_of caller) made.holds.search all.finds all.finds_held inside)
            (λ tag was is. (all.kept tag was).1)) won all.same_map;
        steps = made;
        alone = λ one. record {
          choice = own_changes (λ p q. IsChoice sizes p vs answer q) caller now made.steps
              (alone_still caller now made.steps all one) all made.holds.alone;
          posted = own_posted caller now made.steps all;
        };
      }

  -- a search of all words, from its steps
  got : (first : ℕ) (reach : Reach) (answer : Option ℕ)
      → ((i : ℕ) → i < words sizes → reach.limit i ≤ word_depth sizes i)
      → Makes caller now (IsGet sizes (visits sizes first reach) answer)
      → Got sizes (visits sizes first reach) answer caller now
  got first reach answer within = got_by (visits sizes first reach) answer (visits_inside sizes first reach within)

  -- a get with visits that depend on the layout, in the terms of the map
  pub got_over : (vs : Layout → List Visit) (answer : Option ℕ) → All (IsInside (layout_of map)) (vs (layout_of map))
      → Makes caller now (IsGet (layout_of map) (vs (layout_of map)) answer)
      → Got (layout_of map) (vs (layout_of map)) answer caller now
  got_over vs answer inside made = subst (λ (k : Shape). Got k.layout (vs k.layout) answer caller now) own.1
      (got_by (vs sizes) answer (subst (λ (k : Shape). All (IsInside k.layout) (vs k.layout)) (sym own.1) inside)
      (subst (λ (k : Shape). Makes caller now (IsGet k.layout (vs k.layout) answer)) (sym own.1) made))

  -- a plain get, in the terms of the map
  pub got_of : (round_robin : Bool) (from : ℕ) (answer : Option ℕ)
      → Makes caller now (IsGet (layout_of map) (plain_visits (layout_of map) round_robin from) answer)
      → Got (layout_of map) (plain_visits (layout_of map) round_robin from) answer caller now
  got_of round_robin from answer made =
      subst (λ (k : Shape). Got k.layout (plain_visits k.layout round_robin from) answer caller now) own.1
      (got (word_of sizes from) (plain_reach sizes round_robin from) answer (plain_within sizes round_robin from)
      (subst (λ (k : Shape). Makes caller now (IsGet k.layout (plain_visits k.layout round_robin from) answer))
      (sym own.1) made))

  -- a get that won at its first try
  pub won_got : (hint : Hint) (tag : ℕ) → Makes caller now (IsWonAtOnce (layout_of map) hint tag)
      → Got (layout_of map) (visits_from (layout_of map) hint) (Some tag) caller now
  won_got hint tag made =
      got_of hint.round_robin (reduced (layout_of map).depth hint.at) (Some tag)
      (record { steps = made.steps; added = made.added; holds = made.holds.get })

  -- a get that was begun by the time that the caller was this one, and then finished
  pub rest_got : (middle : Caller R) (hint : Hint) (rest : Unfinished) (answer : Option ℕ)
      → Makes caller middle (IsBegun (layout_of map) hint rest)
      → Makes middle now (IsRestOfGet (layout_of map) hint rest answer)
      → Got (layout_of map) (visits_from (layout_of map) hint) answer caller now
  rest_got middle hint rest answer begun finished =
      got_of hint.round_robin (reduced (layout_of map).depth hint.at) answer (record {
        steps = begun.steps ++ finished.steps;
        added = adds_on caller middle now begun.steps finished.steps begun.added finished.added;
        holds = finished.holds begun.steps begun.holds;
      })

  -- a batch get, from its steps
  got_run : (n first : ℕ) (answer : Option (ℕ × ℕ)) → Makes caller now (IsBatchGet sizes n first answer)
      → GotRun sizes n first answer caller now
  got_run n first answer made =
      let all = made.added in
      let won : WonRun sizes answer (record_of caller) (record_of now) =
      subst (λ (t : Record R). WonRun sizes answer (record_of caller) t) (sym all.known)
      (batch_wins sizes (record_of caller) made.holds.search) in record {
        gains = gains_run answer (acquires_run caller now narrow answer won
            (batch_new caller sizes refl (word_bits-le sizes narrow) made.holds.search all.finds all.finds_held)
            (λ tag was is. (all.kept tag was).1)) won all.same_map;
        steps = made;
        alone = λ one. record {
          choice = own_changes (λ p q. IsBatchChoice sizes n p (batch_words sizes first) answer q) caller now made.steps
              (alone_still caller now made.steps all one) all made.holds.alone;
          posted = own_posted caller now made.steps all;
        };
      }

module _ {R : Type 0} (map : Map R) (caller : Caller R) (old new : Shared R) (map_is : old.map.now ≡ map)
    (caller_is : old.caller.now ≡ caller)
    (own : IsCallerOf map caller) where
  -- the port's layout is that of the caller
  same_sizes : layout_of old.map.now ≡ caller.shape.value.layout
  same_sizes = ap (λ (m : Map R). layout_of m) map_is ∙ sym (ap (λ (k : Shape). k.layout) own.1)

  -- the steps that the port added were made by its caller
  made : (fact : Layout → List WordStep → Type 0) → Ports AddsThrough old new (fact (layout_of old.map.now))
      → Makes caller new.caller.now (fact caller.shape.value.layout)
  made fact a = record {
    steps = a.steps;
    added = subst (λ (c : Caller R). AddsAll a.steps c new.caller.now) caller_is a.added.added;
    holds = subst (λ (l : Layout). fact l a.steps) same_sizes a.holds;
  }

  -- a fact about the caller's layout is one about the map's
  of_map : (fact : Layout → Type 0) → fact caller.shape.value.layout → fact (layout_of map)
  of_map fact = subst (λ (k : Shape). fact k.layout) own.1

  -- after a shallow get
  pub shallow_got : (depth from : ℕ) (answer : Option ℕ)
      → Ports AddsThrough old new (IsGet (layout_of old.map.now)
      (shallow_visits (layout_of old.map.now) depth from) answer)
      → Got (layout_of map) (shallow_visits (layout_of map) depth from) answer caller new.caller.now
  shallow_got depth from answer a = let l = caller.shape.value.layout in
      of_map (λ k. Got k (shallow_visits k depth from) answer caller new.caller.now)
      (got map caller new.caller.now own (word_of l from) (shallow_reach l depth from) answer
      (shallow_within l depth from)
      (made (λ k. IsGet k (shallow_visits k depth from) answer) a))

  -- after a batch get from a hint
  pub batch_got : (n at : ℕ) (answer : Option (ℕ × ℕ))
      → Ports AddsThrough old new (IsBatchGet (layout_of old.map.now) n
      (word_of (layout_of old.map.now) (reduced (layout_of old.map.now).depth at)) answer)
      → GotRun (layout_of map) n (word_of (layout_of map)
      (reduced (layout_of map).depth at)) answer caller new.caller.now
  batch_got n at answer a = let l = caller.shape.value.layout in
      of_map (λ k. GotRun k n (word_of k (reduced k.depth at)) answer caller new.caller.now)
      (got_run map caller new.caller.now own n (word_of l (reduced l.depth at)) answer
      (made (λ k. IsBatchGet k n (word_of k (reduced k.depth at)) answer) a))

-- a batch get that answers none without a step
pub none_got : {R : Type 0} (l : Layout) (answer : Result (Option (ℕ × ℕ)) Spent) (old new : Caller R)
    → answer ≡ Ok None → new ≡ old
    → IfOk answer (λ won. GainsRun l won old new)
none_got l answer old new none same =
    subst (λ (x : Result (Option (ℕ × ℕ)) Spent). IfOk x (λ won. GainsRun l won old new)) (sym none)
    (subst (λ (c : Caller _). GainsRun l None old c) (sym same) (record {
      acquires = record {
        fresh = λ tag within. absurd within;
        joined = λ tag within. absurd within;
        kept = λ tag holds. (holds, refl);
        none_else = λ tag holds. inl holds;
      };
      held = refl;
      count = omega arith;
      back = refl;
      number = refl;
      shape = refl;
      same_map = refl;
    }))
