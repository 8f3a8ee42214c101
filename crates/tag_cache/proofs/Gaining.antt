-- What gets of the hand give the user of a cache.
use Rattle.std.specs.Prelude.{◌<◌, ◌^◌, ◌∷◌, ◌≡◌, ◌≤◌}
use Rattle.tag_cache.proofs.Uses.{answered, answered_run, ap, arith, Bool, Cache, cases_lt, Checks, count_of_run, Err, false, Found, Hand, HoldsMore, IfOk, IfOk-weaker, inl, IsAnswer, IsInRun, IsKept, IsOkAnd, IsTagIn, IsTrue, KeepsNone, KeepsSame, Kind, Layout, layout_of, LooksAfter, nobody, None, Ok}
use Rattle.tag_cache.proofs.Uses.{OnErr, Option, Ordinary, ordinary_at, Pool, refl, RefusesBy, Reserved, Result, Side, Some, subst, sym, TagFault, told_by, true, whole_run, Woken, ℕ, ⊎_elim, ◌∙◌}
use Rattle.tag_search.specs.Gains.{count_of}
use Rattle.tag_pool.specs.Sides as side
use Rattle.tag_pool.specs.Hands as hands
use Rattle.tag_pool.specs.Gets as hand_gets
use Rattle.tag_pool.specs.Holding as hand_holding
use Rattle.tag_pool.specs.declared.gets.Got.{Got}
use Rattle.tag_cache.proofs.Carrying.{more, still_on}
use Rattle.tag_cache.proofs.Ringing.{sees_rests}
use Rattle.tag_cache.proofs.Steady.{Rests, rests_unchanged}
use Rattle.tag_cache.proofs.Tallying.{Moves, MovesSide, as_many, moves_in, gets_moves}

-- the hand gained the named tags, which are that many, and gave nothing back
pub record Gains {R : Type 0} (named : ℕ → Type 0) (count : ℕ) (old new : Hand R) : Type 0 where
  pub more : hand_holding.HoldsMore named old new
  pub moves : Moves count 0 old new

-- the hand gained the tags that a call answered, or is as it was if the call was refused
pub record Gain {R : Type 0} {A : Type 0} (r : Result A TagFault) (named : A → ℕ → Type 0) (count : A → ℕ)
    (old new : Hand R) : Type 0 where
  pub gains : IfOk r (λ v. Gains (named v) (count v) old new)
  pub refused : OnErr r (new ≡ old)

-- as many tags as the run in the set has
as_many_run : (first : ℕ) (answer number : Option (ℕ × ℕ)) → answer ≡ whole_run first number
    → count_of_run number ≡ answered_run answer
as_many_run first answer None e = sym (ap answered_run e)
as_many_run first answer (Some won) e = sym (ap answered_run e)

module _ {R : Type 0} (pool : Pool R) where
  pub plain_gains : (kind : Kind) (answer : Option ℕ) (a b : Hand R) → hand_gets.Gets pool kind answer a b
      → Gains (IsAnswer answer) (answered answer) a b
  plain_gains kind answer a b g = record { more = g.more; moves = gets_moves pool kind answer a b g }

  -- an answer is a tag of its set
  pub tag_in : (kind : Kind) (a b : Hand R) (r : Result (Found ℕ) TagFault)
      → IfOk r (λ found. hand_gets.Gets pool kind found.answer a b)
      → IfOk r (λ found. (tag : ℕ) → IsAnswer found.answer tag → IsTagIn pool kind tag)
  tag_in kind a b (Ok found) g = g.tag
  tag_in kind a b (Err fault) g = tt

  shallow_side : (l : Layout) (depth : ℕ) (answer : Option ℕ) (a b : Side R) → side.GetsShallow l depth answer a b
      → MovesSide (count_of answer) 0 a b
  shallow_side l depth answer a b g = let k = g.searches.gains.back in record {
    won_is = g.searches.gains.count;
    back_is = omega arith;
  }

  pub shallow_gains : (depth : ℕ) (answer : Option ℕ) (a b : Hand R) → hand_gets.GetsShallow pool depth answer a b
      → Gains (IsAnswer answer) (answered answer) a b
  shallow_gains depth answer a b g = record {
    more = g.more;
    moves = subst (λ (n : ℕ). Moves n 0 a b) (as_many _ answer g.number g.answer_is)
        (moves_in Ordinary (count_of g.number) 0 _ a b
        (λ c d x. shallow_side (layout_of pool Ordinary) depth g.number c d x) g.set);
  }

  batch_side : (l : Layout) (n : ℕ) (answer : Option (ℕ × ℕ)) (a b : Side R) → side.GetsBatch l n answer a b
      → MovesSide (count_of_run answer) 0 a b
  batch_side l n answer a b g = let k = g.gains.back in record { won_is = g.gains.count; back_is = omega arith }

  pub batch_gains : (n : ℕ) (answer : Option (ℕ × ℕ)) (a b : Hand R) → hand_gets.GetsBatch pool n answer a b
      → Gains (IsInRun answer) (answered_run answer) a b
  batch_gains n answer a b g = record {
    more = g.more;
    moves = subst (λ (m : ℕ). Moves m 0 a b) (as_many_run _ answer g.number g.answer_is)
        (moves_in Ordinary (count_of_run g.number) 0 _ a b
        (λ c d x. batch_side (layout_of pool Ordinary) n g.number c d x) g.set);
  }

module _ {R : Type 0} where
  -- an answer with no tag, and a hand that is as it was
  gains_none : (a b : Hand R) → b ≡ a → Gains (IsInRun None) 0 a b
  gains_none a b e = let r = rests_unchanged a b e in record {
    more = record {
      fresh = λ tag n h. absurd n;
      joined = λ tag n. absurd n;
      kept = r.held.kept;
      none_else = λ tag h. inl (r.held.none_else tag h);
    };
    moves = r.moves;
  }

  -- who sees to what a get left free wins nothing and gives nothing back
  pub looked_rests : (kind : Kind) (left : ℕ) (woken : Woken) (a b : Hand R) → LooksAfter kind left woken a b → Rests a b
  looked_rests kind left woken a b l = ⊎_elim
      (λ (none : left < 1). rests_unchanged a b (l.none (omega arith)).0)
      (λ (some : 1 ≤ left). sees_rests kind _ side.see_to_steps (told_by woken) a b l.same (l.some some)) (cases_lt left 1)

  -- so it changes nothing about the get
  pub looked_gains : (kind : Kind) (named : ℕ → Type 0) (count : ℕ) (woken : Woken) (gets : Hand R → Hand R → Type 0)
      (a b : Hand R) → ((x : Hand R) → gets a x → Gains named count a x) → hand_gets.GetsAndLooks kind gets woken a b
      → Gains named count a b
  looked_gains kind named count woken gets a b gains g = let first = gains g.searched g.gets in
      let rests = looked_rests kind _ woken g.searched b g.looks in let fw = first.moves.won_is in
      let fb = first.moves.back_is in let rw = rests.moves.won_is in let rb = rests.moves.back_is in record {
        more = record {
          fresh = first.more.fresh;
          joined = λ tag n. (rests.held.kept tag (first.more.joined tag n)).0;
          kept = λ tag h. let x = first.more.kept tag h in let y = rests.held.kept tag x.0 in (y.0, y.1 ∙ x.1);
          none_else = λ tag h. first.more.none_else tag (rests.held.none_else tag h);
        };
        moves = record { won_is = omega arith; back_is = omega arith };
      }

  -- the hand still has what it had
  pub gained_still : {A : Type 0} {r : Result A TagFault} {named : A → ℕ → Type 0} {count : A → ℕ} {a b : Hand R}
      → Gain r named count a b → (tag : ℕ) → hands.Holds a tag → hands.Holds b tag
  gained_still {A} {r} {named} {count} {a} {b} g =
      still_on a b r _ g.gains g.refused (λ v gains tag h. (gains.more.kept tag h).0)

  -- where nothing is kept, the tag won is the user's, and an ordinary one
  pub won : (pool : Pool R) (cache : Cache R) (b : Hand R) (tag : ℕ) (answer : Option ℕ) → answer ≡ Some tag
      → hands.IsHandOf pool b → KeepsNone cache → hand_holding.HoldsMore (IsAnswer answer) cache.hand b
      → ((t : ℕ) → IsAnswer answer t → IsTagIn pool Ordinary t) → record {
        held : hands.Holds b tag × ¬ (IsKept cache tag);
        ordinary : hands.split_of b ≤ tag;
        low : tag < 2 ^ 31;
        none : KeepsNone cache;
      }
  won pool cache b tag None is own none more ordinary = absurd (cc)
  won pool cache b tag (Some t) is own none more ordinary = let same : tag ≡ t = cc in let there = ordinary tag same in
      let low = there.0 in let fits = pool.fits in record {
        held = (more.joined tag same, none tag);
        ordinary = subst (λ (s : ℕ). s ≤ tag) (sym own.2) (ordinary_at (hands.reserved_of pool) tag there.1).above;
        low = omega arith;
        none = none;
      }

  module _ (old new : Cache R) (keeps : KeepsSame old new) {A : Type 0} {r : Result A TagFault}
      {named : A → ℕ → Type 0} {count : A → ℕ} (g : Gain r named count old.hand new.hand) where
    pub more_of : IfOk r (λ v. HoldsMore (named v) old new)
    more_of = IfOk-weaker r _ _ (λ v x. more old new keeps (named v) x.more) g.gains

-- what calls answer
module _ {R : Type 0} (pool : Pool R) (a b : Hand R) where
  pub quiet_call : (r : Result (Found ℕ) TagFault) → hand_gets.DoesGet pool r a b
      → Gain r (λ found. IsAnswer found.answer) (λ found. answered found.answer) a b
  quiet_call r does = record {
    gains = IfOk-weaker r _ _ (λ found. plain_gains pool Ordinary found.answer a b) does.gets;
    refused = does.refusals.same;
  }

  pub shallow_quiet_call : (depth : ℕ) (r : Result (Found ℕ) TagFault) → hand_gets.DoesGetShallow depth pool r a b
      → Gain r (λ found. IsAnswer found.answer) (λ found. answered found.answer) a b
  shallow_quiet_call depth r does = record {
    gains = IfOk-weaker r _ _ (λ found. shallow_gains pool depth found.answer a b) does.gets;
    refused = does.refusals.same;
  }

  pub reserved_quiet_call : (r : Result (Found ℕ) TagFault) → hand_gets.DoesGetReserved pool r a b
      → Gain r (λ found. IsAnswer found.answer) (λ found. answered found.answer) a b
  reserved_quiet_call r does = record {
    gains = IfOk-weaker r _ _ (λ found. plain_gains pool Reserved found.answer a b) does.gets;
    refused = does.refusals.same;
  }

  pub get_call : (kind : Kind) (r : Result (Got (Option ℕ)) TagFault)
      → IfOk r (λ got. hand_gets.GetsAndLooks kind (hand_gets.Gets pool kind got.answer) got.woken a b) → OnErr r (b ≡ a)
      → Gain r (λ got. IsAnswer got.answer) (λ got. answered got.answer) a b
  get_call kind r gets err = record {
    gains = IfOk-weaker r _ _ (λ got. looked_gains kind (IsAnswer got.answer) (answered got.answer) got.woken
        (hand_gets.Gets pool kind got.answer) a b (λ x. plain_gains pool kind got.answer a x)) gets;
    refused = err;
  }

  pub shallow_call : (depth : ℕ) (r : Result (Got (Option ℕ)) TagFault)
      → IfOk r (λ got. hand_gets.GetsAndLooks Ordinary (hand_gets.GetsShallow pool depth got.answer) got.woken a b)
      → OnErr r (b ≡ a) → Gain r (λ got. IsAnswer got.answer) (λ got. answered got.answer) a b
  shallow_call depth r gets err = record {
    gains = IfOk-weaker r _ _ (λ got. looked_gains Ordinary (IsAnswer got.answer) (answered got.answer) got.woken
        (hand_gets.GetsShallow pool depth got.answer) a b (λ x. shallow_gains pool depth got.answer a x)) gets;
    refused = err;
  }

  -- under round robin a batch get answers no tag and changes nothing
  module _ (n : ℕ) {counts : Type 0} {fault : TagFault} {later : Checks TagFault} where
    pub batch_call : (robin : Bool) (r : Result (Got (Option (ℕ × ℕ))) TagFault)
        → RefusesBy ((counts, fault) ∷ later) (b ≡ a) r
        → (counts → IsTrue robin → IfOk r (λ got. (got.answer ≡ None) × (told_by got.woken ≡ nobody)) × (b ≡ a))
        → (robin ≡ false → IfOk r (λ got. hand_gets.GetsAndLooks Ordinary (hand_gets.GetsBatch pool n got.answer) got.woken a b))
        → Gain r (λ got. IsInRun got.answer) (λ got. answered_run got.answer) a b
    batch_call false r refusals none gets = record {
      gains = IfOk-weaker r _ _ (λ got. looked_gains Ordinary (IsInRun got.answer) (answered_run got.answer) got.woken
          (hand_gets.GetsBatch pool n got.answer) a b (λ x. batch_gains pool n got.answer a x)) (gets refl);
      refused = refusals.same;
    }
    batch_call true (Ok got) refusals none gets = let same = none refusals.passes.0 refl in record {
      gains = subst (λ (answer : Option (ℕ × ℕ)). Gains (IsInRun answer) (answered_run answer) a b) (sym same.0.0)
          (gains_none a b same.1);
      refused = tt;
    }
    batch_call true (Err e) refusals none gets = record { gains = tt; refused = refusals.same }

    pub batch_quiet_call : (robin : Bool) (r : Result (Found (ℕ × ℕ)) TagFault)
        → RefusesBy ((counts, fault) ∷ later) (b ≡ a) r
        → (counts → IsTrue robin → IsOkAnd r (λ found. found.answer ≡ None) × (b ≡ a))
        → (robin ≡ false → IfOk r (λ found. hand_gets.GetsBatch pool n found.answer a b))
        → Gain r (λ found. IsInRun found.answer) (λ found. answered_run found.answer) a b
    batch_quiet_call false r refusals none gets = record {
      gains = IfOk-weaker r _ _ (λ found. batch_gains pool n found.answer a b) (gets refl);
      refused = refusals.same;
    }
    batch_quiet_call true (Ok found) refusals none gets = let same = none refusals.passes.0 refl in record {
      gains = subst (λ (answer : Option (ℕ × ℕ)). Gains (IsInRun answer) (answered_run answer) a b) (sym same.0)
          (gains_none a b same.1);
      refused = tt;
    }
    batch_quiet_call true (Err e) refusals none gets = record { gains = tt; refused = refusals.same }
