-- Which cause a resize is refused for, with all hands present.
use Rattle.std.specs.Prelude.{◌↔◌, ◌≡◌, IfErr, ⊤}
use Rattle.tag_queue.proofs.Uses.{All, arith, Err, Hand, List, Ok, Pool, refl, Result, subst, sym, ℕ}
use Rattle.step_ledger.specs.Gather.{HasAll, IsLeastMissing}
use Rattle.tag_pool.specs.Gathering as pool
use Rattle.tag_pool.specs.Hands as tags
use Rattle.tag_pool.specs.Resizing as resizing
use Rattle.tag_pool.specs.declared.resizes.PoolResizeFault.{PoolResizeFault}
use Rattle.tag_pool.specs.declared.resizes.ResizeCause.{ResizeCause}
use Rattle.tag_pool.specs.declared.resizes.ResizeCause.TheVariants.{Missing, DepthTooLarge, InUse, Waiting, Memory}
use Rattle.tag_queue.specs.Bell.{WaitsNowhere}
use Rattle.tag_queue.specs.Resizing.{StillRefuses}
use Rattle.tag_queue.proofs.NoneWaits.{none_waits}

module _ {R : Type 0} (of : Pool R) (hands : List (Hand R)) (total : ℕ) where
  -- what the pool's resize says of its refusals
  pub record AreTold {A : Type 0} (result : Result A (PoolResizeFault R)) : Type 0 where
    pub missing : (n : ℕ) → resizing.IsRefusedAs result (Missing n)
        ↔ IsLeastMissing (pool.numbers_of hands) (tags.hands_of of) n
    pub too_deep : resizing.IsRefusedAs result DepthTooLarge
        ↔ (HasAll (pool.numbers_of hands) (tags.hands_of of) × resizing.IsOutOfRange total (tags.reserved_of of))
    pub in_use : (held posted : ℕ) → resizing.IsRefusedAs result (InUse held posted)
        ↔ (resizing.HasMap of hands total × resizing.AreUsed hands held posted)
    pub waiting : (n : ℕ) → resizing.IsRefusedAs result (Waiting n)
        ↔ (resizing.HasMap of hands total × resizing.AreWaiting hands n)
    pub memory : resizing.IsRefusedAs result Memory → resizing.MayResize of hands total

  -- where nobody stands in a group, and nobody waits by the bell, a refusal is the pool's
  pub still_pool : {A : Type 0} (result : Result A (PoolResizeFault R)) → All WaitsNowhere hands → AreTold result
      → IfErr result (λ fault. StillRefuses of hands total 0 fault.cause)
  still_pool (Ok x) up told = tt
  still_pool {A} (Err fault) up told = by_cause fault.cause refl
    where
      by_cause : (cause : ResizeCause) → fault.cause ≡ cause → StillRefuses of hands total 0 fault.cause
      by_cause (Missing n) is = subst (StillRefuses of hands total 0) (sym is) ((told.missing n).0 is)
      by_cause DepthTooLarge is = subst (StillRefuses of hands total 0) (sym is) (told.too_deep.0 is)
      by_cause (InUse held posted) is = subst (StillRefuses of hands total 0) (sym is) ((told.in_use held posted).0 is)
      by_cause (Waiting n) is = let w = (told.waiting n).0 is in
          let none = none_waits hands up n w.1.1 in let some = w.1.2 in absurd (omega arith)
      by_cause Memory is = subst (StillRefuses of hands total 0) (sym is) (told.memory is, refl)

  -- the check found this cause
  pub refused_as : (checked : Result ⊤ ResizeCause) (found cause : ResizeCause) → checked ≡ Err found → found ≡ cause
      → IfErr checked (resizing.IsRefusedFor of hands total) → resizing.IsRefusedFor of hands total cause
  refused_as checked found cause at is why = subst (resizing.IsRefusedFor of hands total) is
      (subst (λ (r : Result ⊤ ResizeCause). IfErr r (resizing.IsRefusedFor of hands total)) at why)
