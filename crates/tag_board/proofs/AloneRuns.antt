-- How the only caller of a set changes it by giving back a list of tags.
use Rattle.std.proofs.Common.{◌≡◌, ℕ, ◌^◌, ◌<◌, ◌≤◌, Bool, true, false, ◌&&◌, ◌||◌, cond, nat_eq, nat_lt, List, [], ◌∷◌, ⊎_elim, refl, sym, ap, ◌∙◌, subst, arith, eq-eqb, eqb-true}
use Rattle.tag_board.proofs.Uses.{∥∥₁_elim, and_parts, and_from, cases_lt, lt-ltb, ltb-true, bit_at_above, bit_at, Layout, word_of, place_of, word_depth, Caller, Record, Shape, Step, Word, Give, record_of, cells_left, words_left, Places, places_of, free_at, or_false, IsAlone, Side, caller_in, Run, IsRun, AreRuns, record_after_runs, same_shape, freed, is_named, give_back}
use mathlib.Core.Bool.{Bool-set}
use Rattle.std.proofs.lemmas.List.Folds.{list_any-append, Any-from_list_any, list_any-from_Any}
use Rattle.tag_model.specs.Event.{IsInLayout}
use Rattle.tag_model.specs.Runs.{IsHistory}
use Rattle.tag_model.specs.World.{World}
use Rattle.tag_core.specs.Histories.{History, events_of, event_of, steps_by, opening_world}
use Rattle.tag_core.specs.Meeting.{HasHistory}
use Rattle.tag_core.proofs.Stand.{bit_tag}
use Rattle.tag_core.proofs.TagBits.{small_word}
use Rattle.tag_search.proofs.PlainPools.{give_pool}
use Rattle.tag_pool.specs.Runs.{Gives}
use Rattle.tag_board.proofs.Holdings.{same_test}
use Rattle.tag_board.proofs.Only.{set_of}

-- the step frees only bits of its word
abbrev is_within : Layout → Step ℕ → Bool
is_within l (Word (Give i mask found)) = nat_lt mask (2 ^ word_depth l i)
is_within l _ = true

-- each step of the list does
abbrev are_within : Layout → List (Step ℕ) → Bool
are_within l [] = true
are_within l (step ∷ older) = is_within l step && are_within l older

-- the steps of a lawful history do
each_within : (l : Layout) (callers : ℕ) (w : World) (h : History ℕ) → IsHistory l callers w (events_of l h)
    → are_within l (steps_by 0 h) ≡ true
each_within l callers w [] happens = refl
each_within l callers w (x ∷ older) happens = pick (nat_eq x.0 0) (each_within l callers w older happens.1)
  where
    here : (step : Step ℕ) → IsInLayout l (event_of l x.0 step) → is_within l step ≡ true
    here (Word (Give i mask found)) e = lt-ltb mask (2 ^ word_depth l i) e.1
    here _ e = refl

    pick : (mine : Bool) → are_within l (steps_by 0 older) ≡ true
        → are_within l (cond mine (x.1 ∷ steps_by 0 older) (steps_by 0 older)) ≡ true
    pick true rest = and_from (is_within l x.1) (are_within l (steps_by 0 older)) (here x.1 happens.0.in_layout) rest
    pick false rest = rest

-- and so do those of a caller that is alone
own_within : (c : Caller ℕ) → IsAlone c → are_within c.shape.value.layout (record_of c).steps ≡ true
own_within c one = let k : Shape = c.shape.value in ∥∥₁_elim (c.shown (record_of c) c.knows)
    (Bool-set (are_within k.layout (record_of c).steps) true)
    (λ (h : HasHistory k (record_of c)). let low = h.known.number in let is : (record_of c).number ≡ 0 = omega arith in
    ap (are_within k.layout) (h.known.steps ∙ ap (λ (n : ℕ). steps_by n h.history) is)
    ∙ each_within k.layout k.callers (opening_world k) h.history h.lawful.happens)

or_assoc : (a b c : Bool) → ((a || b) || c) ≡ (a || (b || c))
or_assoc true b c = refl
or_assoc false b c = refl

-- gives leave the posted tags as they were
runs_posted : (runs : List Run) (r : Record ℕ)
    → (cells_left (record_after_runs runs r).steps).state ≡ (cells_left r.steps).state
runs_posted [] r = refl
runs_posted (run ∷ runs) r = runs_posted runs r

module _ (k : Shape) (narrow : k.layout.shift ≤ 6) where
  abbrev l : Layout
  l = k.layout

  module _ (run : Run) (is : IsRun l run) (within : run.mask < 2 ^ word_depth l run.word) (word place : ℕ) where
    -- the place is that of the tag
    abbrev is_place : ℕ → Bool
    is_place tag = nat_eq word (word_of l tag) && nat_eq place (place_of l tag)

    -- a bit of the run's mask is the place of one of its tags
    bit_named : (nat_eq word run.word && nat_lt place 64 && nat_eq (bit_at run.mask place) 1) ≡ true
        → is_named l run.tags word place ≡ true
    bit_named e =
        let one = and_parts (nat_eq word run.word && nat_lt place 64) (nat_eq (bit_at run.mask place) 1) e in
        let two = and_parts (nat_eq word run.word) (nat_lt place 64) one.0 in
        let here : word ≡ run.word = eqb-true word run.word two.0 in
        let t = bit_tag l run.word run.mask place within (eqb-true (bit_at run.mask place) 1 one.1) in
        let tag : ℕ = t.0 in
        let c = (is.mask_is tag).0 (and_from (nat_eq (word_of l tag) run.word)
        (nat_eq (bit_at run.mask (place_of l tag)) 1) (eq-eqb (word_of l tag) run.word t.2)
        (ap (λ (p : ℕ). nat_eq (bit_at run.mask p) 1) t.3 ∙ one.1)) in
        list_any-from_Any is_place run.tags (
          c.0,
          tag,
          c.1,
          c.2,
          and_from (nat_eq word (word_of l tag)) (nat_eq place (place_of l tag))
              (eq-eqb word (word_of l tag) (here ∙ sym t.2)) (eq-eqb place (place_of l tag) (sym t.3)),
        )

    -- the place of each tag of the run is a bit of its mask
    named_bit : is_named l run.tags word place ≡ true
        → (nat_eq word run.word && nat_lt place 64 && nat_eq (bit_at run.mask place) 1) ≡ true
    named_bit e =
        let a = Any-from_list_any is_place run.tags e in let tag : ℕ = a.1 in
        let at = and_parts (nat_eq word (word_of l tag)) (nat_eq place (place_of l tag)) a.4 in
        let w : word ≡ word_of l tag = eqb-true word (word_of l tag) at.0 in
        let p : place ≡ place_of l tag = eqb-true place (place_of l tag) at.1 in
        let m = and_parts (nat_eq (word_of l tag) run.word) (nat_eq (bit_at run.mask (place_of l tag)) 1)
        ((is.mask_is tag).1 (a.0, a.2, a.3)) in
        let set : bit_at run.mask place ≡ 1 =
        ap (bit_at run.mask) p ∙ eqb-true (bit_at run.mask (place_of l tag)) 1 m.1 in
        let fits = small_word k narrow run.word run.mask within in
        let low : place < 64 = ⊎_elim (λ (h : place < 64). h)
        (λ (h : 64 ≤ place). let none = bit_at_above run.mask 64 place fits h in absurd (omega arith))
        (cases_lt place 64) in
        and_from (nat_eq word run.word && nat_lt place 64) (nat_eq (bit_at run.mask place) 1)
        (and_from (nat_eq word run.word) (nat_lt place 64)
        (eq-eqb word run.word (w ∙ eqb-true (word_of l tag) run.word m.0)) (lt-ltb place 64 low))
        (eq-eqb (bit_at run.mask place) 1 set)

    run_named : (nat_eq word run.word && nat_lt place 64 && nat_eq (bit_at run.mask place) 1)
        ≡ is_named l run.tags word place
    run_named = same_test (nat_eq word run.word && nat_lt place 64 && nat_eq (bit_at run.mask place) 1)
        (is_named l run.tags word place) bit_named named_bit

  -- the runs free the places of their tags
  runs_pool : (runs : List Run) (tags : List ℕ) (r : Record ℕ) → AreRuns l tags runs
      → are_within l (record_after_runs runs r).steps ≡ true
      → places_of (words_left (record_after_runs runs r).steps) ≡ freed l tags (places_of (words_left r.steps))
  runs_pool [] tags r none all = let p : Places = places_of (words_left r.steps) in λ j. record p {
    free = λ word place. (sym (or_false (p.free word place))
        ∙ ap (λ (ts : List ℕ). p.free word place || is_named l ts word place) (sym none)) j;
  }
  runs_pool (run ∷ runs) tags r cut all =
      let p : Places = places_of (words_left r.steps) in let before : List ℕ = cut.0 in
      let newest = record_after_runs runs r in
      let both = and_parts (nat_lt run.mask (2 ^ word_depth l run.word)) (are_within l newest.steps) all in
      let within = ltb-true run.mask (2 ^ word_depth l run.word) both.0 in
      give_pool (words_left newest.steps) run.word run.mask run.found (small_word k narrow run.word run.mask within)
      ∙ ap (free_at run.word run.mask) (runs_pool runs before r cut.4 both.1)
      ∙ (λ j. record p {
        free = λ word place. (or_assoc (p.free word place) (is_named l before word place)
            (nat_eq word run.word && nat_lt place 64 && nat_eq (bit_at run.mask place) 1)
            ∙ (λ i. p.free word place || (is_named l before word place || run_named run cut.2 within word place i))
            ∙ ap (λ (b : Bool). p.free word place || b)
            (sym (list_any-append (is_place run cut.2 within word place) before run.tags)
            ∙ ap (λ (ts : List ℕ). is_named l ts word place) (sym cut.1))) j;
      })

-- gives of a side that is alone free the places of the list
pub give : (old new : Side ℕ) (numbers : List ℕ) → IsAlone (caller_in new) → (l : Layout)
    → (record_of (caller_in old)).shape.layout ≡ l → l.shift ≤ 6 → Gives l numbers old new
    → set_of l new ≡ give_back numbers (set_of l old)
give old new numbers one l is = subst (λ (m : Layout). m.shift ≤ 6 → Gives m numbers old new
    → set_of m new ≡ give_back numbers (set_of m old)) is (λ narrow g.
    let before : Record ℕ = record_of (caller_in old) in let runs : List Run = g.gives.runs in
    let k : Shape = before.shape in let known = g.gives.known in
    let layout : (record_of (caller_in new)).shape.layout ≡ k.layout =
    ap (λ (r : Record ℕ). r.shape.layout) known ∙ ap (λ (k : Shape). k.layout) (same_shape runs before) in
    let all : are_within k.layout (record_after_runs runs before).steps ≡ true =
    sym (λ j. are_within (layout j) (known j).steps) ∙ own_within (caller_in new) one in
    let pool = ap (λ (r : Record ℕ). places_of (words_left r.steps)) known
    ∙ runs_pool k narrow runs numbers before g.gives.cut all in
    λ j. record {
      layout = k.layout;
      pool = pool j;
      posted = λ tag. (ap (λ (r : Record ℕ). nat_eq ((cells_left r.steps).state tag) 1) known
          ∙ ap (λ (f : ℕ → ℕ). nat_eq (f tag) 1) (runs_posted runs before)) j;
      hint = record { at = g.hint.at j; round_robin = g.hint.round_robin j };
    })
