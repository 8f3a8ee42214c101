-- The order of an open's refusals: those of the pool, then the cap, then memory.
use Rattle.std.specs.Prelude.{◌<◌, ◌^◌, ◌↔◌, ◌≡◌, ◌≢◌, ◌≤◌, ◌⊎◌, IfErr}
use Rattle.tag_queue.proofs.Uses.{ap, arith, Err, inl, inr, Ok, refl, Result, subst, sym, ℕ, ⊎_elim}
use mathlib.Core.Logic.{dite}
use native.Mathlib.Decide.{dec_lt}
use Rattle.refusals.specs.Refusals.{FailsFirst, PassesAll, RefusesOrRunsOut}
use Rattle.tag_pool.specs.Refusals as pool
use Rattle.tag_pool.specs.declared.fault.OpenFault.{OpenFault}
use Rattle.tag_pool.specs.declared.fault.OpenFault.TheVariants as pool_faults
use Rattle.tag_pool.specs.declared.options.Options.{Options}
use Rattle.tag_queue.specs.Faults.{IsRefusal, of_pool}
use Rattle.tag_queue.specs.Refusals.{open_checks}
use Rattle.tag_queue.specs.declared.fault.QueueOpenFault.{QueueOpenFault}
use Rattle.tag_queue.specs.declared.fault.QueueOpenFault.TheVariants.{CapTooLarge, Memory}

module _ (options : Options) (cap : ℕ) where
  -- what the pool tells first, the queue tells first
  told_first : (fault : OpenFault) → FailsFirst (pool.open_checks options) fault
      → FailsFirst (open_checks options cap) (of_pool fault)
  told_first fault (inl a) = inl (a.0, ap of_pool a.1)
  told_first fault (inr (a, inl b)) = inr (a, inl (b.0, ap of_pool b.1))
  told_first fault (inr (a, inr (b, inl d))) = inr (a, inr (b, inl (d.0, ap of_pool d.1)))
  told_first fault (inr (a, inr (b, inr (d, inl e)))) = inr (a, inr (b, inr (d, inl (e.0, ap of_pool e.1))))
  told_first fault (inr (a, inr (b, inr (d, inr (e, inl f))))) =
      inr (a, inr (b, inr (d, inr (e, inl (f.0, ap of_pool f.1)))))
  told_first fault (inr (a, inr (b, inr (d, inr (e, inr (f, none)))))) = absurd none

  -- memory is the fault of no check
  never_memory : FailsFirst (pool.open_checks options) pool_faults.Memory → ⊥
  never_memory (inl a) = let e = a.1 in cc
  never_memory (inr (a, inl b)) = let e = b.1 in cc
  never_memory (inr (a, inr (b, inl d))) = let e = d.1 in cc
  never_memory (inr (a, inr (b, inr (d, inl e)))) = let z = e.1 in cc
  never_memory (inr (a, inr (b, inr (d, inr (e, inl f))))) = let z = f.1 in cc
  never_memory (inr (a, inr (b, inr (d, inr (e, inr (f, none)))))) = none

  all_pass : PassesAll (pool.open_checks options) → cap ≤ 2 ^ 56 → PassesAll (open_checks options cap)
  all_pass (a, (b, (d, (e, (f, done))))) low = (a, (b, (d, (e, (f, (low, tt))))))

  cap_fails : PassesAll (pool.open_checks options) → 2 ^ 56 < cap → FailsFirst (open_checks options cap) CapTooLarge
  cap_fails (a, (b, (d, (e, (f, done))))) high =
      inr (a, inr (b, inr (d, inr (e, inr (f, inl ((λ low. absurd (omega arith)), refl))))))

  abbrev Refused : QueueOpenFault → Type 0
  Refused told = FailsFirst (open_checks options cap) told ⊎ (PassesAll (open_checks options cap) × (told ≡ Memory))

  abbrev RefusedByPool : OpenFault → Type 0
  RefusedByPool fault = FailsFirst (pool.open_checks options) fault
      ⊎ (PassesAll (pool.open_checks options) × (fault ≡ pool_faults.Memory))

  by_check : (fault : OpenFault) (told : QueueOpenFault) → fault ≢ pool_faults.Memory → RefusedByPool fault
      → told ≡ of_pool fault → Refused told
  by_check fault told ne why is = ⊎_elim
      (λ first. inl (subst (FailsFirst (open_checks options cap)) (sym is) (told_first fault first)))
      (λ ran. absurd (ne ran.1)) why

  -- where the pool can't be opened
  pub refuses_early : (fault : OpenFault) (told : QueueOpenFault) → RefusedByPool fault → IsRefusal cap fault told
      → Refused told
  refuses_early pool_faults.Memory told why is = ⊎_elim (λ first. absurd (never_memory first))
      (λ ran. ⊎_elim (λ low. inr (all_pass ran.0 low.0, low.1))
      (λ high. inl (subst (FailsFirst (open_checks options cap)) (sym high.1) (cap_fails ran.0 high.0))) is) why
  refuses_early pool_faults.TotalTooLarge told why is = by_check pool_faults.TotalTooLarge told (λ e. cc) why is
  refuses_early pool_faults.ReservedTooLarge told why is = by_check pool_faults.ReservedTooLarge told (λ e. cc) why is
  refuses_early pool_faults.ShiftTooLarge told why is = by_check pool_faults.ShiftTooLarge told (λ e. cc) why is
  refuses_early pool_faults.CallerCount told why is = by_check pool_faults.CallerCount told (λ e. cc) why is
  refuses_early pool_faults.LifeTooLong told why is = by_check pool_faults.LifeTooLong told (λ e. cc) why is

  -- where it can
  pub refuses_late : {A : Type 0} (result : Result A QueueOpenFault) → PassesAll (pool.open_checks options)
      → ((result ≡ Err CapTooLarge) ↔ (2 ^ 56 < cap)) → IfErr result (λ told. (told ≡ CapTooLarge) ⊎ (told ≡ Memory))
      → RefusesOrRunsOut (open_checks options cap) Memory result
  refuses_late (Ok x) pass iff told = record {
    first = tt;
    passes = all_pass pass
        (dite (dec_lt (2 ^ 56) cap) (λ high. absurd (let e = iff.1 high in cc)) (λ low. omega arith));
  }
  refuses_late (Err f) pass iff told = record {
    first = ⊎_elim
        (λ is. inl (subst (FailsFirst (open_checks options cap)) (sym is) (cap_fails pass (iff.0 (ap Err is)))))
        (λ is. inr (
          all_pass pass (dite (dec_lt (2 ^ 56) cap) (λ high. absurd (let e = iff.1 high in cc)) (λ low. omega arith)),
          is,
        )) told;
    passes = tt;
  }
