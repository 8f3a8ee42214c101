-- The window moves only if tags are always kept.
use Rattle.std.proofs.Common.{inl, inr, refl, ⊎_elim}
use Rattle.tag_cache.proofs.cache.Cache.follow.Goals as goal

pub returns-in-Always-clause-aimed : goal.returns-in-Always-clause-aimed
returns-in-Always-clause-aimed g c = ⊎_elim (λ w. inl w) (λ e. inr (e.0, inl e.1)) c.aim.ensures.aimed

pub returns-in-Always-clause-still : goal.returns-in-Always-clause-still
returns-in-Always-clause-still g c = λ leaves. ⊎_elim (λ within. c.aim.ensures.still (λ none. within))
    (λ careful. let is = c.in-Always.is in absurd (cc)) leaves

pub returns-in-WhileHolding-clause-aimed : goal.returns-in-WhileHolding-clause-aimed
returns-in-WhileHolding-clause-aimed g c = inr (refl, inr c.in-WhileHolding.is)

pub returns-in-Always-clause-moved : goal.returns-in-Always-clause-moved
returns-in-Always-clause-moved g c = c.aim.ensures.moved

pub returns-in-WhileHolding-clause-moved : goal.returns-in-WhileHolding-clause-moved
returns-in-WhileHolding-clause-moved g c = inr refl
