-- A tag that is kept instead of all kept ones, after these went back.
use Rattle.std.specs.Prelude.{◌≡◌, ◌≤◌}
use Rattle.tag_cache.proofs.Uses.{arith, Cache, CanBeKept, count_of, HasNoPlace, IsKept, IsLast, KeepsAlso, KeepsNone, KeepsOnly, reused_of, SameTerms, subst, sym, ℕ, ⊎_elim, ◌∙◌}
use Rattle.tag_cache.proofs.Carrying.{terms_twice}
use Rattle.tag_cache.proofs.SameWindows.{same_known}
use Rattle.tag_cache.proofs.KeptInWindow.{can_also}
use Rattle.tag_cache.proofs.Reusing.{no_count}

-- the window stayed
module _ {R : Type 0} (tag : ℕ) (old mid : Cache R) (terms : SameTerms old mid) (reused : reused_of mid ≡ reused_of old)
    (first : mid.first ≡ old.first) where
  pub can_still : CanBeKept tag old → CanBeKept tag mid
  can_still = can_also tag old mid terms reused
      (λ careful w. let low = w.0 in let high = w.1 in (omega arith, omega arith))

  pub last_back : mid.known ≡ old.known → IsLast tag mid → IsLast tag old
  last_back known l = (sym terms.keeping ∙ l.0, λ other i. l.1 other ((same_known old mid first known other).1 i))

  module _ (none : KeepsNone mid) where
    -- there is a place for the tag, and it alone is kept
    pub has_place : CanBeKept tag old → ¬ (HasNoPlace tag mid)
    has_place can full = let zero = no_count mid none in let some = can.some in let most = terms.most in ⊎_elim
        (λ (m : mid.most ≤ count_of mid). absurd (omega arith)) (λ o. o.1 none) full

    pub only_after : (new : Cache R) → KeepsAlso tag mid new → KeepsOnly tag old new
    only_after new a = let zero = no_count mid none in let more = a.more in record {
      only = λ other. (
        (λ k. ⊎_elim (λ (o : IsKept mid other). absurd (none other o)) (λ (e : other ≡ tag). e) (a.none_else other k)),
        (λ e. subst (λ (t : ℕ). IsKept new t) (sym e) a.now),
      );
      one = omega arith;
      terms = terms_twice terms a.terms;
      reused = a.reused ∙ reused;
    }
