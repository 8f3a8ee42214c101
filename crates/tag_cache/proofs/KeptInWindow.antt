-- A tag that is kept after the window moved to it, or did not.
use Rattle.std.specs.Prelude.{◌+◌, ◌<◌, ◌≡◌, ◌≤◌, ◌⊎◌}
use Rattle.tag_cache.proofs.Uses.{arith, Cache, CanBeKept, cases_lt, count_of, HasNoPlace, inl, inr, IsFixed, IsKept, IsWithin, keeping_of, KeepsAlso, KeepsNone, KeepsOnly, KeepsSame, reused_of, SameHand, SameTerms, subst, sym, WhileHolding, ℕ, ⊎_elim, ◌∙◌}
use Rattle.tag_cache.proofs.Carrying.{terms_twice}

-- a tag is kept besides the tags of a cache that keeps the same
pub also_from : {R : Type 0} (tag : ℕ) (old mid new : Cache R) → KeepsSame old mid → KeepsAlso tag mid new
    → KeepsAlso tag old new
also_from tag old mid new s a = let more = a.more in let count = s.count in record {
  now = a.now;
  still = λ other k. a.still other ((s.kept other).1 k);
  none_else = λ other k. ⊎_elim (λ (o : IsKept mid other). inl ((s.kept other).0 o))
      (λ (e : other ≡ tag). inr e) (a.none_else other k);
  more = omega arith;
  terms = terms_twice s.terms a.terms;
  reused = a.reused ∙ s.reused;
}

-- it alone is kept, whichever cache kept the same before
pub only_from : {R : Type 0} (tag : ℕ) (old mid new : Cache R) → KeepsSame old mid → KeepsOnly tag mid new
    → KeepsOnly tag old new
only_from tag old mid new s o = record {
  only = o.only;
  one = o.one;
  terms = terms_twice s.terms o.terms;
  reused = o.reused ∙ s.reused;
}

-- it may be kept in any cache on the same terms, whose window has it if it has to be there
pub can_also : {R : Type 0} (tag : ℕ) (old new : Cache R) → SameTerms old new → reused_of new ≡ reused_of old
    → (keeping_of old ≡ WhileHolding → IsWithin old tag → IsWithin new tag) → CanBeKept tag old → CanBeKept tag new
can_also tag old new terms reused window c = let most = terms.most in let some = c.some in
    let alive = c.alive in record {
      some = omega arith;
      alive = omega arith;
      within = λ w. let careful = sym terms.keeping ∙ w in window careful (c.within careful);
    }

-- a tag that is not outside the window is in it
inside : {R : Type 0} (cache : Cache R) (tag : ℕ) → ¬ (¬ (IsWithin cache tag)) → IsWithin cache tag
inside cache tag n = ⊎_elim
    (λ (before : tag < cache.first). absurd (n (λ w. let at = w.0 in omega arith)))
    (λ (at : cache.first ≤ tag). ⊎_elim
    (λ (end : tag < cache.first + 64). (at, end))
    (λ (behind : cache.first + 64 ≤ tag). absurd (n (λ w. let end = w.1 in omega arith)))
    (cases_lt tag (cache.first + 64))) (cases_lt tag cache.first)

module _ {R : Type 0} (tag : ℕ) (old mid : Cache R) (u : SameHand old mid)
    (aimed : IsWithin mid tag ⊎ ((mid ≡ old) × IsFixed old)) (can : CanBeKept tag old)
    (place : ¬ (HasNoPlace tag old)) where
  -- the window is at the tag, so there is a place for it there as before
  pub within : IsWithin mid tag
  within = ⊎_elim (λ (w : IsWithin mid tag). w)
      (λ (e : (mid ≡ old) × IsFixed old). subst (λ (x : Cache R). IsWithin x tag) (sym e.0)
      (⊎_elim (λ (some : ¬ (KeepsNone old)). inside old tag (λ out. place (inr (out, some))))
      (λ careful. can.within careful) e.1)) aimed

  pub place_there : ¬ (HasNoPlace tag mid)
  place_there full = let count = u.kept.count in let most = u.kept.terms.most in ⊎_elim
      (λ (m : mid.most ≤ count_of mid). place (inl (omega arith))) (λ o. o.0 within) full

  pub can_there : CanBeKept tag mid
  can_there = can_also tag old mid u.kept.terms u.kept.reused (λ careful w. within) can
