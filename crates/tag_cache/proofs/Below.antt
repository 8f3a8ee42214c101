-- A held tag is one of the tags, and a call on it is not refused.
use Rattle.std.specs.Prelude.{◌<◌, ◌≡◌}
use Rattle.tag_cache.proofs.Uses.{arith, Cache, Err, FailsFirst, Hand, inl, inr, IsCacheOf, IsHandOf, IsKept, IsOrdinary, IsReserved, Kind, kind_of, layout_of, number_in_set, Ok, Ordinary, Pool, RefusesBy, Result, side_of, split_of, stands, subst, tag_checks, TagFault, total_of, ℕ, ⊎_elim}
use Rattle.tag_core.specs.declared.shape.Shape.{Shape}
use Rattle.tag_pool.specs.Hands.{Holds}
use Rattle.tag_pool.specs.Hands as hands
use Rattle.tag_pool.specs.Refusals as of_hand
use Rattle.tag_pool.specs.Sides as side
use Rattle.tag_cache.specs.Caches as caches

module _ {R : Type 0} (pool : Pool R) (hand : Hand R) (tag : ℕ) (own : IsHandOf pool hand) (h : Holds hand tag) where
  -- the tag's number is below the depth of its set, as its side knows it
  low : (kind : Kind) → kind_of (split_of hand) tag ≡ kind
      → number_in_set (split_of hand) tag < side.depth_of (side_of hand kind)
  low kind e = subst (λ (k : Kind). number_in_set (split_of hand) tag < side.depth_of (side_of hand k)) e h.0

  pub held_below : tag < total_of pool
  held_below = let split = own.2 in let depth = pool.reserved_is in ⊎_elim
      (λ (r : IsReserved (split_of hand) tag). let below = r.below in omega arith)
      (λ (o : IsOrdinary (split_of hand) tag). let is = o.number in
      let l : number_in_set (split_of hand) tag < (layout_of pool Ordinary).depth =
      subst (λ (s : Shape). number_in_set (split_of hand) tag < s.layout.depth) own.1.1 (low Ordinary o.kind) in
      omega arith)
      (stands (split_of hand) tag)

module _ {R : Type 0} where
  -- a hand is not refused a tag that it holds
  pub held_passes : (pool : Pool R) (hand : Hand R) (tag : ℕ) → hands.IsHandOf pool hand → hands.Holds hand tag
      → (fault : TagFault) → ¬ (FailsFirst (of_hand.tag_checks pool hand tag) fault)
  held_passes pool hand tag own held fault (inl low) = low.0 (held_below pool hand tag own held)
  held_passes pool hand tag own held fault (inr (low, inl lost)) = lost.0 held
  held_passes pool hand tag own held fault (inr (low, inr none)) = none.1

  -- nor is a user of the cache
  pub held_allowed : {A : Type 0} (pool : Pool R) (cache : Cache R) (tag : ℕ) → IsCacheOf pool cache → caches.Holds cache tag
      → (value : A) (same : Type 0) → RefusesBy (tag_checks pool cache tag) same (Ok value)
  held_allowed pool cache tag own held value same = record {
    first = tt;
    passes = (held_below pool cache.hand tag own held.0, (held, tt));
    same = tt;
  }

  module _ (pool : Pool R) (cache : Cache R) (tag : ℕ) (not : ¬ (IsKept cache tag)) where
    unkept_fails : (fault : TagFault) → FailsFirst (of_hand.tag_checks pool cache.hand tag) fault
        → FailsFirst (tag_checks pool cache tag) fault
    unkept_fails fault (inl first) = inl first
    unkept_fails fault (inr (low, inl lost)) = inr (low, inl ((λ held. lost.0 held.0), lost.1))
    unkept_fails fault (inr (low, inr none)) = absurd none.1

    -- what its hand is refused of a tag that is not kept the user is refused
    pub unkept_refuses : {A : Type 0} (r : Result A TagFault) (was is : Type 0) → (was → is)
        → RefusesBy (of_hand.tag_checks pool cache.hand tag) was r → RefusesBy (tag_checks pool cache tag) is r
    unkept_refuses (Ok x) was is still r = record {
      first = tt;
      passes = (r.passes.0, ((r.passes.1.0, not), tt));
      same = tt;
    }
    unkept_refuses (Err fault) was is still r = record {
      first = unkept_fails fault r.first;
      passes = tt;
      same = still r.same;
    }
