-- What a resize of the pool tells of the hands of the pool, it tells of the hands that they were taken out of.
use Rattle.std.specs.Prelude.{◌≡◌}
use Rattle.tag_queue.proofs.Uses.{Hand, List, pool_of, Queue, QueueHand, refl, subst, sym, ℕ, ◌∙◌}
use mathlib.Core.Option.{some-injective}
use Rattle.step_ledger.specs.Gather.{HasAll, IsLeastMissing}
use Rattle.tag_pool.specs.Holding as holding
use Rattle.tag_pool.specs.Resizing as resizing
use Rattle.tag_pool.specs.declared.resizes.ResizeCause.{ResizeCause}
use Rattle.tag_pool.specs.declared.resizes.ResizeCause.TheVariants.{Missing, DepthTooLarge, InUse, Waiting, Memory}
use Rattle.tag_queue.specs.Hands.{all_in_pool, AreUnchanged, hands_of, in_pool, IsUnchanged}
use Rattle.tag_queue.specs.Resizing.{BalanceInBoth, HasMap, IsRefusedFor, MayResize, standing_count, StillRefuses}
use Rattle.tag_queue.proofs.Gathering.{inner_numbers}

module _ {R : Type 0} where
  untouched : (hand : Hand R) → holding.IsUnchanged hand hand
  untouched hand = record {
    same = record { kept = λ tag h. (h, refl); none_else = λ tag h. h };
    sets = λ kind. record {
      caller = record { known = refl; slots = λ tag. refl; same_map = refl };
      holds = λ tag. ((λ h. h), (λ h. h));
      hint = refl;
    };
    split = refl;
  }

  -- hands that were handed back as they were are unchanged
  pub all_untouched : (hands back : List (QueueHand R)) → back ≡ hands → AreUnchanged hands back
  all_untouched hands back same = subst (AreUnchanged hands) (sym same) (record {
    count = refl;
    each = λ n a b p q. subst (λ (x : QueueHand R). IsUnchanged a x) (some-injective a b (sym p ∙ q))
        (record { pool = untouched (in_pool a); counts = (refl, refl) });
  })

module _ {R : Type 0} (queue : Queue R) (hands : List (QueueHand R)) (total : ℕ) where
  has_map : resizing.HasMap (pool_of queue) (all_in_pool hands) total → HasMap queue hands total
  has_map fits = (subst (λ (ns : List ℕ). HasAll ns (hands_of queue)) (inner_numbers hands) fits.0, fits.1)

  had_map : HasMap queue hands total → resizing.HasMap (pool_of queue) (all_in_pool hands) total
  had_map fits = (subst (λ (ns : List ℕ). HasAll ns (hands_of queue)) (sym (inner_numbers hands)) fits.0, fits.1)

  still : (standing : ℕ) → standing ≡ standing_count hands → (cause : ResizeCause)
      → StillRefuses (pool_of queue) (all_in_pool hands) total standing cause → IsRefusedFor queue hands total cause
  still standing is (Missing n) why =
      subst (λ (ns : List ℕ). IsLeastMissing ns (hands_of queue) n) (inner_numbers hands) why
  still standing is DepthTooLarge why =
      (subst (λ (ns : List ℕ). HasAll ns (hands_of queue)) (inner_numbers hands) why.0, why.1)
  still standing is (InUse held posted) why = (has_map why.0, why.1)
  still standing is (Waiting count) why = (has_map why.0, (why.1, why.2 ∙ is, why.3))
  still standing is Memory why = (has_map why.0.0, why.0.1, sym is ∙ why.1)

  module _ (inners : List (Hand R)) (out : inners ≡ all_in_pool hands) where
    -- why the pool was not resized is why the queue was not
    pub refused_here : (standing : ℕ) → standing ≡ standing_count hands → (cause : ResizeCause)
        → StillRefuses (pool_of queue) inners total standing cause → IsRefusedFor queue hands total cause
    refused_here standing is cause why = still standing is cause
        (subst (λ (l : List (Hand R)). StillRefuses (pool_of queue) l total standing cause) out why)

    -- where the pool may be resized and nobody is in a wait group, the queue may
    pub may_here : (standing : ℕ) → standing ≡ standing_count hands
        → resizing.MayResize (pool_of queue) inners total × (standing ≡ 0) → MayResize queue hands total
    may_here standing is may =
        let m = subst (λ (l : List (Hand R)). resizing.MayResize (pool_of queue) l total) out may.0 in
        (has_map m.0, m.1, sym is ∙ may.1)

    -- the tags of the pool balance for all its hands
    pub balance_here : (resizing.HasMap (pool_of queue) inners total → resizing.BalanceInBoth inners)
        → HasMap queue hands total → BalanceInBoth hands
    balance_here even fits = subst
        (λ (l : List (Hand R)). resizing.HasMap (pool_of queue) l total → resizing.BalanceInBoth l) out even
        (had_map fits)
