-- What a change of the kept tags is for the user of a cache, and what is known of known ones.
use Rattle.std.specs.Prelude.{◌+◌, ◌<◌, ◌^◌, ◌↔◌, ◌≡◌, ◌≢◌, ◌≤◌, ◌⊎◌}
use Rattle.tag_cache.proofs.Uses.{ap, arith, Cache, cases_lt, count_of, count_ones, dite, Hand, Holds, HoldsLess, HoldsMore, inl, inr, IsIn, IsKept, IsKnown, IsLast, IsTagIn, IsWithin, KeepsAlso, KeepsNone, KeepsWithCare, ones_le_self, Ordinary, ordinary_above, Pool, SameHand, subst, sym}
use Rattle.tag_cache.proofs.Uses.{TakesKept, trailing_zeros, w64, WhileHolding, ℕ, ℕ_discrete, ⊎_elim}
use Rattle.tag_pool.specs.Hands as hands
use Rattle.tag_pool.specs.Holding as hand_holding
use Rattle.tag_cache.specs.Caches.{split_of}
use Rattle.tag_cache.proofs.Below.{held_below}
use Rattle.tag_cache.proofs.Windows.{below_end, emptied, none_else, none_in, some_in, least_in}

module _ {R : Type 0} where
  -- a kept tag that is handed out is the user's from then on
  pub taken : (old new : Cache R) (tag : ℕ) → TakesKept tag old new → HoldsMore (λ other. other ≡ tag) old new
  taken old new tag p = record {
    fresh = λ other e h. h.1 (subst (λ (t : ℕ). IsKept old t) (sym e) p.was);
    joined = λ other e. (
      subst (λ (h : Hand R). hands.Holds h other) (sym p.hand)
          (old.own other (subst (λ (t : ℕ). IsKept old t) (sym e) p.was)).0,
      λ k. ((p.left other).0 k).1 e,
    );
    kept = λ other h. (
      (subst (λ (x : Hand R). hands.Holds x other) (sym p.hand) h.0, λ k. h.1 ((p.left other).0 k).0),
      ap (λ (x : Hand R). hands.slot_of x other) p.hand,
    );
    none_else = λ other h. dite (ℕ_discrete other tag) (λ (e : other ≡ tag). inr e)
        (λ (ne : other ≢ tag). inl
        (subst (λ (x : Hand R). hands.Holds x other) p.hand h.0, λ k. h.1 ((p.left other).1 (k, ne))));
  }

  -- the tag that is kept is the user's no more, if the hand holds what it held
  pub keeping : (old new : Cache R) (tag : ℕ) → hand_holding.HoldsSame old.hand new.hand → KeepsAlso tag old new
      → HoldsLess (λ other. other ≡ tag) old new
  keeping old new tag s p = record {
    gone = λ other e h. h.1 (subst (λ (t : ℕ). IsKept new t) (sym e) p.now);
    kept = λ other ne h. let x = s.kept other h.0 in (
      (
        x.0,
        λ k. ⊎_elim (λ (o : IsKept old other). h.1 o) (λ (e : other ≡ tag). ne e) (p.none_else other k),
      ),
      x.1,
    );
    none_else = λ other h. (s.none_else other h.0, λ k. h.1 (p.still other k));
  }

  -- the tag that is handed out again is an ordinary one
  pub reuse_ordinary : (pool : Pool R) (old new : Cache R) (tag : ℕ) → hands.IsHandOf pool old.hand
      → TakesKept tag old new → IsTagIn pool Ordinary tag
  reuse_ordinary pool old new tag own p = let mine = old.own tag p.was in (
    held_below pool old.hand tag own mine.0,
    (ordinary_above (hands.reserved_of pool) tag (subst (λ (s : ℕ). s ≤ tag) own.2 mine.1)).kind,
  )

  -- a tag that the user is known to hold is held and not kept, ordinary, and in the window
  pub known_held : (cache : Cache R) (tag : ℕ) → IsKnown cache tag → Holds cache tag
  known_held cache tag l = ((cache.knows tag l).0, λ k. cache.apart tag k l)

  pub known_ordinary : (cache : Cache R) (tag : ℕ) → IsKnown cache tag → split_of cache ≤ tag
  known_ordinary cache tag l = (cache.knows tag l).1

  pub known_ordinary_of : (pool : Pool R) (cache : Cache R) (tag : ℕ) → hands.IsHandOf pool cache.hand
      → IsKnown cache tag → hands.reserved_of pool ≤ tag
  known_ordinary_of pool cache tag own l = subst (λ (s : ℕ). s ≤ tag) own.2 (known_ordinary cache tag l)

  pub known_within : (cache : Cache R) (tag : ℕ) → IsKnown cache tag → IsWithin cache tag
  known_within cache tag l = (l.0, below_end cache.first cache.known tag cache.wide.1 l)

  -- a cache that keeps no tag has an empty mask, and one that keeps some has none
  pub none_kept : (cache : Cache R) → KeepsNone cache → cache.kept ≡ 0
  none_kept cache none = emptied cache.first cache.kept cache.wide.0 none

  pub some_kept : (cache : Cache R) → ¬ (KeepsNone cache) → 0 < cache.kept
  some_kept cache some = ⊎_elim
      (λ (l : cache.kept < 1). absurd (some (λ tag k. none_in cache.first cache.kept tag (omega arith) k)))
      (λ (h : 1 ≤ cache.kept). omega arith) (cases_lt cache.kept 1)

  -- if none is kept, none is counted
  pub no_count : (cache : Cache R) → KeepsNone cache → count_of cache ≡ 0
  no_count cache none = let same : count_of cache ≡ count_ones 0 = ap count_ones (none_kept cache none) in
      let zero = ones_le_self 0 in omega arith

  -- what an unchanged cache has in common with the former one
  pub held_still : (old new : Cache R) (tag : ℕ) → SameHand old new → Holds old tag → Holds new tag
  held_still old new tag u h = (
    subst (λ (x : Hand R). hands.Holds x tag) (sym u.hand) h.0,
    λ k. h.1 ((u.kept.kept tag).0 k),
  )

  -- if the user is known to hold another tag, the mask without this one is not 0
  pub another_known : (cache : Cache R) (tag rest : ℕ) → rest < 2 ^ 64
      → ((other : ℕ) → IsIn cache.first rest other ↔ (IsKnown cache other × other ≢ tag))
      → ¬ (IsLast tag cache) → cache.keeping ≡ WhileHolding → 0 < rest
  another_known cache tag rest fits without more careful = ⊎_elim
      (λ (l : rest < 1). let zero : rest ≡ 0 = omega arith in
      absurd (more (careful, (none_else cache.first cache.known rest tag fits without).0 zero)))
      (λ (h : 1 ≤ rest). omega arith) (cases_lt rest 1)

  -- some tag is known if the mask of known ones is not 0
  some_known : (cache : Cache R) → 0 < cache.known → IsKnown cache (cache.first + trailing_zeros w64 cache.known)
  some_known cache some = least_in cache.first cache.known some cache.wide.1

  pub keeps_with_care : (cache : Cache R) → KeepsWithCare cache
  keeps_with_care cache careful kept k = let some = cache.careful careful (some_in cache.first cache.kept kept k) in
      (cache.first + trailing_zeros w64 cache.known, known_held cache _ (some_known cache some))

  -- if no tag but one may be known, and that one is not, none is kept
  pub last_unknown : (cache : Cache R) (tag : ℕ) → ¬ (IsKnown cache tag) → IsLast tag cache → KeepsNone cache
  last_unknown cache tag out last kept k =
      let some = some_known cache (cache.careful last.0 (some_in cache.first cache.kept kept k)) in
      out (subst (λ (t : ℕ). IsKnown cache t) (last.1 _ some) some)

  -- so a tag that the user is not known to hold is another, unless none is kept
  pub unknown_other : (cache : Cache R) (tag : ℕ) → ¬ (IsKnown cache tag) → KeepsNone cache ⊎ ¬ (IsLast tag cache)
  unknown_other cache tag out = dite (ℕ_discrete cache.kept 0)
      (λ (e : cache.kept ≡ 0). inl (λ t k. none_in cache.first cache.kept t e k))
      (λ (ne : cache.kept ≢ 0). inr (λ last. ne (none_kept cache (last_unknown cache tag out last))))
