-- A caller that only looked at its berth: it waits as it did, has tried what it had tried, and has no more to see to.
use Rattle.std.specs.Prelude.{◌++◌, ◌∷◌, ◌≡◌}
use Rattle.tag_bell.proofs.Uses.{[], Berth, Caller, Layout, List, OnlyAdds, Owes, record_of, refl, same_waiter, Spot, Step, subst, sym, Tried, Waiter, waits_as, WaitsAsBefore, ℕ}
use Rattle.tag_bell.specs.Calls.{HasTriedNoLess, OwesNoMore}
use Rattle.tag_bell.specs.Sleeping.{looks_at}
use Rattle.tag_bell.specs.Waiting as steps
use Rattle.tag_bell.proofs.Rung.{layout_kept, owes_no_more, steps_added, waits_same}

-- looks change none of what the steps before them say
module _ {R : Type 0} (who : ℕ) (older : List (Step R)) where
  waits_on : (seen : List Berth) → waits_as (looks_at who seen ++ older) ≡ waits_as older
  waits_on [] = refl
  waits_on (found ∷ seen) = waits_on seen

  tried_on : (seen : List Berth) (spot : Spot) → Tried older spot → Tried (looks_at who seen ++ older) spot
  tried_on [] spot tried = tried
  tried_on (found ∷ seen) spot tried = tried_on seen spot tried

  owes_on : (kind : Waiter) (seen : List Berth) (spot : Spot) (e : ℕ)
      → Owes (same_waiter kind) (looks_at who seen ++ older) spot e → Owes (same_waiter kind) older spot e
  owes_on kind [] spot e owes = owes
  owes_on kind (found ∷ seen) spot e owes = owes_on kind seen spot e owes.1

module _ {R : Type 0} (who : ℕ) (seen : List Berth) (old new : Caller R) (looks : OnlyAdds (looks_at who seen) old new)
  where
    pub looks_wait : WaitsAsBefore old new
    looks_wait = waits_same (looks_at who seen) old new looks (waits_on who (record_of old).steps seen)

    pub looks_try : HasTriedNoLess old new
    looks_try tried = subst (λ (x : Layout × List (Step R)). steps.TriedAll x.0 x.1)
        (λ j. (
          sym (layout_kept (looks_at who seen) old new looks) j,
          sym (steps_added (looks_at who seen) old new looks) j,
        ))
        (λ tag low. let before = tried tag low in let older = (record_of old).steps in
        (tried_on who older seen _ before.0, tried_on who older seen _ before.1))

    pub looks_owe : (kind : Waiter) → OwesNoMore kind old new
    looks_owe kind = owes_no_more kind (looks_at who seen) old new looks (owes_on who (record_of old).steps kind seen)
