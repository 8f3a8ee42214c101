-- In every run the tags won are those given back, held and posted.
use Rattle.std.specs.Prelude.{◌+◌, ◌<◌, ◌==◌, ◌∷◌, ◌≡◌}
use Rattle.tag_model.proofs.Uses.{[], after, after_all, after_history, ap, arith, Aside, back_by, Balances, Bool, caller_of, cond, eq-eqb, Event, Free, Give, Held, held_in, is_held, is_in_mask, is_posted, IsHistory, IsTrue, Keep, Layout, List, Look, MayHappen, MayRun, names, ne_eqb, one_if, opened}
use Rattle.tag_model.proofs.Uses.{Place, place_after, plus_at, Post, Posted, posted_in, Put, refl, Spill, spilled_by, sum_below, sum_below-add, sum_below-more, sum_below-none, sum_below-only, sum_below-same, Sweep, swept_by, sym, Take, Win, won_by, World, ℕ, ◌∙◌}
use Rattle.tag_model.proofs.MaskFacts.{sum_below-mask}

-- 1 for a tag that was won and not given back
abbrev out : Place → ℕ
out place = one_if (is_held place) + one_if (is_posted place)

-- more at one number adds to the sum
pub sum_below-plus_at : (f : ℕ → ℕ) (n here more : ℕ) → here < n
    → sum_below (plus_at here more f) n ≡ sum_below f n + more
sum_below-plus_at f n here more h =
    let grown = sum_below-more f (plus_at here more f) here more n h
    (let e = ap (λ (b : Bool). f here + cond b more 0) (eq-eqb here here refl) in omega arith)
    (λ k ne. let e = ap (λ (b : Bool). f k + cond b more 0) (ne_eqb k here ne) in omega arith) in omega arith

-- one tag is one
sum_below-one : (n tag : ℕ) → tag < n → sum_below (λ t. one_if (t == tag)) n ≡ 1
sum_below-one n tag h = sum_below-only (λ t. one_if (t == tag)) n tag h (λ t h2 ne. ap one_if (ne_eqb t tag ne))
    ∙ ap one_if (eq-eqb tag tag refl)

-- a named tag comes from nowhere out to a place that is out
comes : (named : Bool) (old new : Place) → (IsTrue named → out old ≡ 0) → out new ≡ 1
    → out (cond named new old) ≡ out old + one_if named
comes named old new was is = grind arith

-- a named tag goes from a place that is out
goes : (named : Bool) (old new : Place) → (IsTrue named → out old ≡ 1) → out new ≡ 0
    → out old ≡ out (cond named new old) + one_if named
goes named old new was is = grind arith

-- a named tag stays out, or stays in
stays : (named : Bool) (old new : Place) → (IsTrue named → out new ≡ out old) → out (cond named new old) ≡ out old
stays named old new same = grind arith

out-swept : (caller : ℕ) (place : Place) → out (swept_by caller place) ≡ out place
out-swept caller place = grind arith

out-spilled : (caller : ℕ) (place : Place) → out (spilled_by caller place) ≡ out place
out-spilled caller place = grind arith

module _ (l : Layout) where
  -- how many tags are out
  abbrev outs : World → ℕ
  outs w = sum_below (λ tag. out (w.place tag)) l.depth

  -- how many tags the event names
  abbrev named_in : Event → ℕ
  named_in event = sum_below (λ tag. one_if (names l event tag)) l.depth

  module _ (callers : ℕ) (w : World) where
    -- what the event does to the number of tags that are out
    outs-after : (event : Event) → MayHappen l callers w event
        → outs (after l event w) + back_by event ≡ outs w + won_by event
    outs-after Look may = refl
    outs-after (Win caller word mask) may =
        let more = sum_below-add (λ t. out (place_after l (Win caller word mask) t (w.place t))) (λ t. out (w.place t))
        (λ t. one_if (is_in_mask l word mask t)) l.depth
        (λ t h. comes (is_in_mask l word mask t) (w.place t) (Held caller)
        (λ named. ap out (may.places t h named)) refl) in
        let size = sum_below-mask l word mask may.in_layout.0 may.in_layout.1 in omega arith
    outs-after (Put caller tag) may =
        let less = sum_below-add (λ t. out (w.place t)) (λ t. out (place_after l (Put caller tag) t (w.place t)))
        (λ t. one_if (t == tag)) l.depth
        (λ t h. goes (t == tag) (w.place t) Aside (λ named. ap out (may.places t h named)) refl) in
        let size = sum_below-one l.depth tag may.in_layout in omega arith
    outs-after (Give caller word mask) may =
        let less = sum_below-add (λ t. out (w.place t)) (λ t. out (place_after l (Give caller word mask) t (w.place t)))
        (λ t. one_if (is_in_mask l word mask t)) l.depth
        (λ t h. goes (is_in_mask l word mask t) (w.place t) Free (λ named. ap out (may.places t h named)) refl) in
        let size = sum_below-mask l word mask may.in_layout.0 may.in_layout.1 in omega arith
    outs-after (Sweep caller word) may =
        let same = sum_below-same (λ t. out (place_after l (Sweep caller word) t (w.place t)))
        (λ t. out (w.place t)) l.depth
        (λ t h. stays (names l (Sweep caller word) t) (w.place t) (swept_by caller (w.place t))
        (λ named. out-swept caller (w.place t))) in omega arith
    outs-after (Keep caller word mask) may =
        let more = sum_below-add (λ t. out (place_after l (Keep caller word mask) t (w.place t))) (λ t. out (w.place t))
        (λ t. one_if (is_in_mask l word mask t)) l.depth
        (λ t h. comes (is_in_mask l word mask t) (w.place t) (Held caller)
        (λ named. ap out (may.places t h named)) refl) in
        let size = sum_below-mask l word mask may.in_layout.0 may.in_layout.1 in omega arith
    outs-after (Spill caller word) may =
        let same = sum_below-same (λ t. out (place_after l (Spill caller word) t (w.place t)))
        (λ t. out (w.place t)) l.depth
        (λ t h. stays (names l (Spill caller word) t) (w.place t) (spilled_by caller (w.place t))
        (λ named. out-spilled caller (w.place t))) in omega arith
    outs-after (Post caller tag) may =
        let same = sum_below-same (λ t. out (place_after l (Post caller tag) t (w.place t)))
        (λ t. out (w.place t)) l.depth
        (λ t h. stays (t == tag) (w.place t) Posted (λ named. sym (ap out (may.places t h named)))) in omega arith
    outs-after (Take caller tag) may =
        let same = sum_below-same (λ t. out (place_after l (Take caller tag) t (w.place t)))
        (λ t. out (w.place t)) l.depth
        (λ t h. stays (t == tag) (w.place t) (Held caller) (λ named. sym (ap out (may.places t h named)))) in
        omega arith

  -- a tag that is out is held or posted
  outs-split : (w : World) → outs w ≡ held_in l w + posted_in l w
  outs-split w = sum_below-add (λ tag. out (w.place tag)) (λ tag. one_if (is_held (w.place tag)))
      (λ tag. one_if (is_posted (w.place tag))) l.depth (λ tag h. refl)

  module _ (callers : ℕ) where
    -- an event that can happen keeps the balance
    pub balances-after : (event : Event) (w : World) → MayHappen l callers w event → Balances l callers w
        → Balances l callers (after l event w)
    balances-after event w may balance =
        let moved = outs-after callers w event may in let before = outs-split w in
        let behind = outs-split (after l event w) in
        let won = sum_below-plus_at w.won callers (caller_of event) (won_by event) may.caller in
        let back = sum_below-plus_at w.back callers (caller_of event) (back_by event) may.caller in omega arith

    pub balances-run : (events : List Event) (w : World) → MayRun l callers w events → Balances l callers w
        → Balances l callers (after_all l events w)
    balances-run [] w may balance = balance
    balances-run (event ∷ events) w may balance =
        balances-run events (after l event w) may.1 (balances-after event w may.0 balance)

    pub balances-history : (history : List Event) (w : World) → IsHistory l callers w history → Balances l callers w
        → Balances l callers (after_history l history w)
    balances-history [] w is balance = balance
    balances-history (event ∷ older) w is balance = balances-after event (after_history l older w) is.0
        (balances-history older w is.1 balance)

    pub balances-opened : Balances l callers opened
    balances-opened =
        let got = sum_below-none (λ c. 0) callers (λ c h. refl) in
        let none = sum_below-none (λ t. 0) l.depth (λ t h. refl) in omega arith
