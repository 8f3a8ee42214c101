-- What the contracts of calls say of the steps that they make.
use Rattle.std.specs.Prelude.{◌++◌, ◌<◌, ◌↔◌, ◌∷◌, ◌≡◌, ◌≢◌, ◌≤◌}
use Rattle.tag_bell.specs.Uses.{[], Bell, bit_or, Bool, Caller, cond, IsTrue, length, List, Listener, LookAll, newly_told, record_of, same_waiter, SameMap, Sleeper, Step, Tell, Waiter, word_of, ℕ}
use Rattle.tag_core.specs.declared.bell_step.BellStep.{BellStep}
use Rattle.tag_bell.specs.declared.told.Told.{Told}
use Rattle.tag_bell.specs.Callers.{HasTriedAll, layout_of, OwesNothing}
use Rattle.tag_bell.specs.Waiting.{OwesTag}

-- these steps joined the caller's own, newest first, and nothing else of its record changed
pub record OnlyAdds {R : Type 0} (steps : List (Step R)) (old new : Caller R) : Type 0 where
  pub known : record_of new ≡ record (record_of old) { steps = steps ++ (record_of old).steps }
  pub same_map : SameMap old new

-- this step by which callers wait was the only one
abbrev pub Rings : {R : Type 0} → BellStep → Caller R → Caller R → Type 0
Rings {R} step old new = OnlyAdds (Bell step ∷ []) old new

-- it has to see to no tag of a word of which this holds
abbrev pub OwesNoneWhere : {R : Type 0} → (ℕ → Type 0) → Waiter → Caller R → Type 0
OwesNoneWhere here kind caller = let l = layout_of caller in (tag : ℕ) → tag < l.depth → here (word_of l tag)
    → (e : ℕ) → ¬ OwesTag l (same_waiter kind) (record_of caller).steps tag e

-- if the caller had nothing to see to, it has nothing now
abbrev pub OwesNoMore : {R : Type 0} → Waiter → Caller R → Caller R → Type 0
OwesNoMore kind old new = OwesNothing kind old → OwesNothing kind new

-- if the caller had tried each tag in vain, it still has
abbrev pub HasTriedNoLess : {R : Type 0} → Caller R → Caller R → Type 0
HasTriedNoLess old new = HasTriedAll old → HasTriedAll new

-- it looked once at all who wait, and tells whether it found a caller there
pub record FindsWaiters {R : Type 0} (found : Bool) (old new : Caller R) : Type 0 where
  pub waiting : ℕ
  pub look : Rings (LookAll waiting) old new
  pub says : IsTrue found ↔ (waiting ≢ 0)

-- the waiters of this kind that these steps told: a bit is 1 if a tell found its caller listed as it expected
abbrev pub told_in : {R : Type 0} → Waiter → List (Step R) → ℕ
told_in kind [] = 0
told_in kind (Bell (Tell whom waiter turn found) ∷ older) =
    cond (same_waiter kind waiter) (bit_or (told_in kind older) (newly_told whom waiter turn found)) (told_in kind older)
told_in kind (step ∷ older) = told_in kind older

-- the call made at most so many steps, by which it told exactly these callers, and changed nothing else of its record
pub record Tells {R : Type 0} (most : ℕ) (told : Told) (old new : Caller R) : Type 0 where
  pub steps : List (Step R)
  pub only : OnlyAdds steps old new
  pub few : length steps ≤ most
  pub sleepers : told.sleepers ≡ told_in Sleeper steps
  pub listeners : told.listeners ≡ told_in Listener steps

-- nobody was told
abbrev pub nobody : Told
nobody = record { sleepers = 0; listeners = 0 }
