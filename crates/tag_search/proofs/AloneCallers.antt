-- The only caller of a map: its own steps determine the words, so gets are choices.
use Rattle.std.specs.Prelude.{◌%◌, ◌<◌, ◌^◌, ◌∷◌, ◌≡◌, ◌≤◌}
use Rattle.tag_search.proofs.Uses.{[], Adds, AddsAll, ap, arith, Bell, Caller, Cells, cells_left, Claimed, dite, EachFinds, Finds, FindsIn, free_at, Give, is_posted, IsAlone, Keep, Layout, LeavesPool, List, Look, LookAside, nat_eq, own_after, place_of, place_of-below, Pool, pool_left, pool_of, Post, Put, ReadNote}
use Rattle.tag_search.proofs.Uses.{Quiet, Record, record_of, refl, set_aside, Shape, shape_after, Spill, Step, steps_by, subst, Swap, sym, Take, Word, word_bits-le, Words, words_after_all, words_left, WordStep, ℕ, ℕ_discrete, ◌∙◌}
use Rattle.std.proofs.Math.Logic.{∥∥₁_elim}
use mathlib.Core.HLevel.{hedberg}
use native.Mathlib.Nat.{ℕ_set}
use Rattle.tag_core.specs.declared.bell_step.BellStep.{BellStep}
use Rattle.tag_core.specs.declared.bell_step.BellStep.TheVariants.{Enlist, Enter, GetUp, Leave, LookAll, LookAt, TakeTurn, Tell}
use Rattle.tag_core.specs.declared.berth.Berth.{Berth}
use Rattle.tag_core.specs.declared.berth.TheConstants.{TURNS}
use Rattle.tag_core.specs.Berths.{berth_word}
use Rattle.tag_core.specs.Bits.{state_word}
use Rattle.tag_core.specs.Waits.{FindsWaits, Waits}
use Rattle.tag_core.proofs.Berths.{berth-one}
use Rattle.tag_core.specs.Meeting.{HasHistory}
use Rattle.tag_search.proofs.AloneFacts.{EachFound, own_of_record, each_found, found_changes}
use Rattle.tag_search.proofs.PlainPools.{put_pool, give_pool}

-- that a step found the current word has at most one proof
finds_prop : (step : WordStep) (w : Words) → IsProp (Finds step w)
finds_prop (Look i found) w = ℕ_set found (w.word i)
finds_prop (LookAside i found) w = ℕ_set found (w.aside i)
finds_prop (Claimed i mask found) w = ℕ_set found (w.word i)
finds_prop (Give i mask found) w = ℕ_set found (w.word i)
finds_prop (Put i mask found) w = ℕ_set found (w.aside i)
finds_prop (Swap i found) w = ℕ_set found (w.aside i)
finds_prop (Keep i mask) w = hlevel
finds_prop (Spill i mask found) w = ℕ_set found (w.word i)

-- two berths are one, or not, as their words are
berth_set : IsSet Berth
berth_set = hedberg (λ a b. dite (ℕ_discrete (berth_word a) (berth_word b)) (λ same. yes (berth-one a b same))
    (λ differ. no (λ same. differ (ap berth_word same))))

waits_prop : (step : BellStep) (w : Waits) → IsProp (FindsWaits step w)
waits_prop (Enter caller found) w = ℕ_set found w.waiters
waits_prop (Leave caller found) w = ℕ_set found w.waiters
waits_prop (LookAll found) w = ℕ_set found w.waiters
waits_prop (TakeTurn found) w = ℕ_set found (w.clock % TURNS)
waits_prop (Enlist caller waiter turn found) w = berth_set found (w.berths caller)
waits_prop (LookAt whom found) w = berth_set found (w.berths whom)
waits_prop (Tell whom waiter turn found) w = berth_set found (w.berths whom)
waits_prop (GetUp caller found) w = berth_set found (w.berths caller)

step_prop : {R : Type 0} (step : Step R) (c : Cells) → IsProp (FindsIn step c)
step_prop (Word step) c = finds_prop step c.words
step_prop (Post tag note value) c = hlevel
step_prop (Take tag found value) c = ℕ_set found (c.state tag)
step_prop (ReadNote tag found) c = ℕ_set found (state_word (c.state tag) (c.note tag))
step_prop (Bell step) c = waits_prop step c.waits

found_prop : {R : Type 0} (steps : List (Step R)) → IsProp (EachFound steps)
found_prop [] = hlevel
found_prop (step ∷ older) = hlevel (step_prop step (cells_left older), found_prop older)

module _ {R : Type 0} where
  -- the history behind a lone caller's record is the caller's own list
  own_list : (k : Shape) (r : Record R) (h : HasHistory k r) → k.callers ≡ 1 → r.steps ≡ steps_by 0 h.history
  own_list k r h one = let low = h.known.number in let is : r.number ≡ 0 = omega arith in
      h.known.steps ∙ ap (λ (n : ℕ). steps_by n h.history) is

  finds_one : (k : Shape) (r : Record R) (h : HasHistory k r) → k.callers ≡ 1 → EachFinds 1 h.history
  finds_one k r h one = subst (λ (n : ℕ). EachFinds n h.history) one h.lawful.finds

  -- each step of a lone caller found what its own earlier ones left
  pub own_found : (c : Caller R) → IsAlone c → EachFound (record_of c).steps
  own_found c one = ∥∥₁_elim (c.shown (record_of c) c.knows) (found_prop (record_of c).steps)
      (λ h. subst (λ (own : List (Step R)). EachFound own) (sym (own_list c.shape.value (record_of c) h one))
      (each_found h.history (finds_one c.shape.value (record_of c) h one)))

  -- so a change that the steps of a call make to any pool if they are quiet, they make to the pool of the caller's own
  pub own_changes : (Change : Pool → Pool → Type 0) (old new : Caller R) (steps : List WordStep) → IsAlone new
      → AddsAll steps old new
      → ((w : Words) → Quiet steps w → Change (pool_of w) (pool_of (words_after_all steps w)))
      → Change (pool_left old) (pool_left new)
  own_changes Change old new steps one all quietly =
      let own : (record_of new).steps ≡ own_after steps (record_of old).steps =
      ap (λ (r : Record R). r.steps) all.known ∙ own_of_record steps (record_of old) in
      subst (λ (s : List (Step R)). Change (pool_left old) (pool_of (words_left s))) (sym own)
      (found_changes Change steps (record_of old).steps
      (subst (λ (s : List (Step R)). EachFound s) own (own_found new one)) quietly)

  own_next : (step : Step R) (old new : Caller R) → Adds step old new
      → (record_of new).steps ≡ step ∷ (record_of old).steps
  own_next step old new adds = ap (λ (r : Record R). r.steps) adds.known

  -- a put sets its place aside
  pub own_put : (old new : Caller R) (i place found : ℕ) → place < 64 → Adds (Word (Put i (2 ^ place) found)) old new
      → LeavesPool (set_aside i place (pool_left old)) old new
  own_put old new i place found low adds = let next = own_next (Word (Put i (2 ^ place) found)) old new adds in record {
    pool_is = ap (λ (s : List (Step R)). pool_of (words_left s)) next
        ∙ put_pool (words_left (record_of old).steps) i place found low;
    posted = λ tag. ap (λ (s : List (Step R)). nat_eq ((cells_left s).state tag) 1) next;
  }

  -- a give frees the places of its mask
  pub own_give : (old new : Caller R) (i mask found : ℕ) → mask < 2 ^ 64 → Adds (Word (Give i mask found)) old new
      → LeavesPool (free_at i mask (pool_left old)) old new
  own_give old new i mask found fits adds = let next = own_next (Word (Give i mask found)) old new adds in record {
    pool_is = ap (λ (s : List (Step R)). pool_of (words_left s)) next
        ∙ give_pool (words_left (record_of old).steps) i mask found fits;
    posted = λ tag. ap (λ (s : List (Step R)). nat_eq ((cells_left s).state tag) 1) next;
  }

-- steps on words leave the posted tags unchanged
module _ {R : Type 0} where
  pub state_after : (steps : List WordStep) (older : List (Step R))
      → (cells_left (own_after steps older)).state ≡ (cells_left older).state
  state_after [] older = refl
  state_after (step ∷ steps) older = state_after steps (Word step ∷ older)

  pub own_posted : (old new : Caller R) (steps : List WordStep) → AddsAll steps old new → (tag : ℕ)
      → is_posted new tag ≡ is_posted old tag
  own_posted old new steps all tag =
      ap (λ (s : List (Step R)). nat_eq ((cells_left s).state tag) 1)
      (ap (λ (r : Record R). r.steps) all.known ∙ own_of_record steps (record_of old))
      ∙ ap (λ (f : ℕ → ℕ). nat_eq (f tag) 1) (state_after steps (record_of old).steps)

-- the place of a tag is below 64
pub place_small : (l : Layout) (tag : ℕ) → tag < l.depth → l.shift ≤ 6 → place_of l tag < 64
place_small l tag low narrow = let inside = place_of-below l tag low in let few = word_bits-le l narrow in omega arith

-- steps on words leave a lone caller alone
pub alone_still : {R : Type 0} (old new : Caller R) (steps : List WordStep) → AddsAll steps old new → IsAlone old
    → IsAlone new
alone_still old new steps all one =
    ap (λ (r : Record _). r.shape.callers) all.known
    ∙ ap (λ (k : Shape). k.callers) (shape_after steps (record_of old)) ∙ one
