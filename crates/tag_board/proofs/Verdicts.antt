-- The checks of each call of a hand are those of its command.
use Rattle.std.proofs.Common.{◌≡◌, ℕ, ◌<◌, ◌↔◌, true, false, inl, inr, List, [], ◌∷◌}
use Rattle.refusals.specs.Refusals.{Checks, FailsFirst, PassesAll}
use Rattle.tag_board.proofs.Uses.{NoSuchTag, NotHeld, BadCount, CountsTags, State, tag_checks, list_checks, wait_checks, leave_checks, AreOrdinary, AreHeldOnce}
use Rattle.tag_queue.specs.declared.fault.WaitFault.TheVariants.{NotWaiting, Waiting}

-- the same check of both fails first, and all pass of both or of neither
pub record Means {E : Type 0} (checks known : Checks E) : Type 0 where
  pub fails : (told : E) → FailsFirst checks told → FailsFirst known told
  pub passes : PassesAll checks → PassesAll known

-- no check is left
ends : {E : Type 0} → Means {E = E} [] []
ends = record { fails = λ told first. first; passes = λ all. all }

-- one check that passes exactly if the other does, and those after it
next : {E check other : Type 0} {fault : E} {later known : Checks E} → check ↔ other → Means later known
    → Means ((check, fault) ∷ later) ((other, fault) ∷ known)
next {E} {check} {other} {fault} {later} {known} is m = record {
  fails = fails;
  passes = λ all. (is.0 all.0, m.passes all.1);
}
  where
    fails : (told : E) → FailsFirst ((check, fault) ∷ later) told → FailsFirst ((other, fault) ∷ known) told
    fails told (inl first) = inl ((λ passes. first.0 (is.1 passes)), first.1)
    fails told (inr rest) = inr (is.0 rest.0, m.fails told rest.1)

-- one check that is the same
as_it_is : {E check : Type 0} {fault : E} {later known : Checks E} → Means later known
    → Means ((check, fault) ∷ later) ((check, fault) ∷ known)
as_it_is m = next ((λ passes. passes), (λ passes. passes)) m

module _ (s : State) (caller : ℕ) where
  pub tag_means : {holds : Type 0} (tag : ℕ) → holds ↔ ((s.part caller).held tag ≡ true)
      → Means ((tag < s.total, NoSuchTag) ∷ (holds, NotHeld) ∷ []) (tag_checks s caller tag)
  tag_means tag held = as_it_is (next held ends)

  pub list_means : {holds : Type 0} (tags : List ℕ) → holds ↔ AreHeldOnce s caller tags
      → Means ((CountsTags tags, BadCount) ∷ (AreOrdinary s tags, NoSuchTag) ∷ (holds, NotHeld) ∷ [])
      (list_checks s caller tags)
  list_means tags held = as_it_is (as_it_is (next held ends))

  pub wait_means : {out : Type 0} → out ↔ ((s.part caller).stands ≡ false)
      → Means ((out, Waiting) ∷ []) (wait_checks s caller)
  wait_means stands = next stands ends

  pub leave_means : {within : Type 0} → within ↔ ((s.part caller).stands ≡ true)
      → Means ((within, NotWaiting) ∷ []) (leave_checks s caller)
  leave_means stands = next stands ends
