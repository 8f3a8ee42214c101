-- Seeing to what a call made free leaves the user what the call left.
use Rattle.std.specs.Prelude.{◌↔◌, ◌≡◌, ◌≤◌, ◌<◌}
use Rattle.tag_cache.proofs.Uses.{arith, Cache, cases_lt, Changes, FindsNobody, HoldsSame, IsKnown, KeepsNone, KeepsSame, Kind, KnowsNoneOf, List, max, Ordinary, Pool, refl, Reserved, reused_of, SameTerms, SameWindow, SeesTo, subst, sym, Tallies, TellsWithKept, Told, told_by, WakesFor, Woken, ℕ, ⊎_elim}
use Rattle.tag_model.proofs.HoldingFacts.{same_itself}
use Rattle.tag_pool.specs.Holding as hands
use Rattle.tag_pool.specs.Sides as side
use Rattle.tag_cache.proofs.Carrying.{none_after}
use Rattle.tag_cache.proofs.Ringing.{sees_rests}
use Rattle.tag_cache.proofs.Steady.{same_tags}

-- what is so of the user after it
pub record Rested {R : Type 0} (old new : Cache R) : Type 0 where
  pub same : HoldsSame old new
  pub tally : Tallies 0 0 old new
  pub terms : SameTerms old new
  pub reused : reused_of new ≡ reused_of old
  pub window : SameWindow old new

module _ {R : Type 0} where
  pub saw : (kind : Kind) (pool : Pool R) (freed : ℕ) (told : Told) (a b : Cache R) → SeesTo kind freed pool told a b → Rested a b
  saw kind pool freed told a b s = record {
    same = s.same;
    tally = s.tally;
    terms = s.terms;
    reused = s.reused;
    window = s.window;
  }

  itself : (a : Cache R) → Rested a a
  itself a = record {
    same = same_itself a;
    tally = record { handed = omega arith; taken = omega arith };
    terms = record { most = refl; keeping = refl };
    reused = refl;
    window = record { place = λ tag. ((λ w. w), (λ w. w)); knows = λ tag. ((λ l. l), (λ l. l)) };
  }

  pub woke : (kind : Kind) (pool : Pool R) (freed : ℕ) (woken : Woken) (a b : Cache R) → WakesFor kind freed pool woken a b
      → Rested a b
  woke kind pool freed woken a b w = ⊎_elim
      (λ (none : freed < 1). subst (λ (x : Cache R). Rested a x) (sym (w.none (omega arith)).1) (itself a))
      (λ (some : 1 ≤ freed). saw kind pool freed (told_by woken) a b (w.some some)) (cases_lt freed 1)

  -- the user is known to hold the same tags but those of a list, and then the same
  pub knows_none_then_same : (list : List ℕ) (a b c : Cache R) → KnowsNoneOf list a b
      → ((other : ℕ) → IsKnown c other ↔ IsKnown b other) → KnowsNoneOf list a c
  knows_none_then_same list a b c l s =
      λ other. ((λ i. (l other).0 ((s other).0 i)), (λ x. (s other).1 ((l other).1 x)))

  -- where nothing is kept, nothing is kept after it
  pub none_seen : (pool : Pool R) (freed : ℕ) (told : Told) (a b : Cache R) → KeepsNone a → SeesTo Ordinary freed pool told a b
      → KeepsNone b
  none_seen pool freed told a b none s = ⊎_elim
      (λ (f : FindsNobody told a b). none_after a b none f.kept) (λ (t : TellsWithKept freed pool told a b). t.none) s.way

  pub none_left : (pool : Pool R) (freed : ℕ) (woken : Woken) (a b : Cache R) → KeepsNone a → WakesFor Ordinary freed pool woken a b
      → KeepsNone b
  none_left pool freed woken a b none w = ⊎_elim
      (λ (zero : freed < 1). subst KeepsNone (sym (w.none (omega arith)).1) none)
      (λ (some : 1 ≤ freed). none_seen pool freed (told_by woken) a b none (w.some some)) (cases_lt freed 1)

-- a hand that saw to reserved tags did so past what its cache keeps
pub sees_past : {R : Type 0} (kind : Kind) → kind ≡ Reserved → (pool : Pool R) (freed : ℕ) (told : Told) (old new : Cache R)
    → KeepsSame old new → SameWindow old new → hands.HoldsSame old.hand new.hand
    → Changes Reserved (side.SeesTo (max freed 1) side.see_to_steps told) old.hand new.hand
    → SeesTo kind freed pool told old new
sees_past kind is pool freed told old new keeps window held sees =
    let rest = same_tags old new keeps window
    (sees_rests Reserved (max freed 1) side.see_to_steps told old.hand new.hand held sees) in
    subst (λ (k : Kind). SeesTo k freed pool told old new) (sym is) (record {
      way = record { tells = sees; kept = keeps };
      done = sees.changed.done;
      same = rest.held;
      tally = rest.tally;
      terms = keeps.terms;
      reused = keeps.reused;
      window = window;
    })
