-- What is known of a cache that keeps the same tags in the same window.
use Rattle.std.specs.Prelude.{◌↔◌, ◌≡◌}
use Rattle.tag_cache.proofs.Uses.{arith, Cache, inl, inr, IsIn, IsKnown, KnowsLess, LeavesWindow, SameWindow, subst, sym, ℕ, ⊎_elim, ◌∙◌}

-- the same tags are known if the window and its mask of them are as before
pub same_known : {R : Type 0} (old new : Cache R) → new.first ≡ old.first → new.known ≡ old.known → (tag : ℕ)
    → IsIn new.first new.known tag ↔ IsIn old.first old.known tag
same_known old new first known tag = (
  (λ i. subst (λ (m : ℕ). IsIn old.first m tag) known (subst (λ (f : ℕ). IsIn f new.known tag) first i)),
  (λ i. subst (λ (f : ℕ). IsIn f new.known tag) (sym first) (subst (λ (m : ℕ). IsIn old.first m tag) (sym known) i)),
)

pub same_window : {R : Type 0} (old new : Cache R) → new.first ≡ old.first → new.known ≡ old.known → SameWindow old new
same_window old new first known = record {
  place = λ tag. (
    (λ w. let low = w.0 in let high = w.1 in (omega arith, omega arith)),
    (λ w. let low = w.0 in let high = w.1 in (omega arith, omega arith)),
  );
  knows = λ tag. same_known old new first known tag;
}

-- one call after another
pub window_twice : {R : Type 0} (a b c : Cache R) → SameWindow a b → SameWindow b c → SameWindow a c
window_twice a b c s t = record {
  place = λ tag. ((λ w. (s.place tag).0 ((t.place tag).0 w)), (λ w. (t.place tag).1 ((s.place tag).1 w)));
  knows = λ tag. ((λ l. (s.knows tag).0 ((t.knows tag).0 l)), (λ l. (t.knows tag).1 ((s.knows tag).1 l)));
}

-- the user is known to hold the same tags, and then the same but one
pub same_then_knows_less : {R : Type 0} (tag : ℕ) (a b c : Cache R) → ((other : ℕ) → IsKnown b other ↔ IsKnown a other)
    → KnowsLess tag b c → KnowsLess tag a c
same_then_knows_less tag a b c s l = λ other. (
  (λ i. let x = (l other).0 i in ((s other).0 x.0, x.1)),
  (λ x. (l other).1 ((s other).1 x.0, x.1)),
)

-- the same the other way round
pub knows_less_then_same : {R : Type 0} (tag : ℕ) (a b c : Cache R) → KnowsLess tag a b
    → ((other : ℕ) → IsKnown c other ↔ IsKnown b other) → KnowsLess tag a c
knows_less_then_same tag a b c l s = λ other. ((λ i. (l other).0 ((s other).0 i)), (λ x. (s other).1 ((l other).1 x)))

-- a tag that was not among those known
pub unknown_less : {R : Type 0} (tag : ℕ) (old new : Cache R) → ¬ (IsKnown old tag)
    → ((other : ℕ) → IsKnown new other ↔ IsKnown old other) → KnowsLess tag old new
unknown_less tag old new out s = λ other. (
  (λ i. let was = (s other).0 i in (was, λ e. out (subst (λ (t : ℕ). IsKnown old t) e was))),
  (λ x. (s other).1 x.0),
)

-- a clear of the tag leaves the window where it is, as before
pub leaves_still : {R : Type 0} (tag : ℕ) (old new : Cache R) → new.first ≡ old.first → new.keeping ≡ old.keeping
    → LeavesWindow tag old → LeavesWindow tag new
leaves_still tag old new first keeping leaves = ⊎_elim
    (λ within. let low = within.0 in let high = within.1 in inl (omega arith, omega arith))
    (λ careful. inr (keeping ∙ careful)) leaves
