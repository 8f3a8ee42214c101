-- What a get of one given tag gives the user of a cache.
use Rattle.std.specs.Prelude.{◌≡◌}
use Rattle.tag_cache.proofs.Uses.{answered, ap, arith, back_in_both, Cache, Err, FailsFirst, Found, Hand, HandsOut, IfOk, IfOk-weaker, inl, inr, IsAnswer, IsHandOf, IsKept, IsUnchanged, KeepsSame, kind_of, Layout, Ok, OnErr, Option, PassesAll, Pool, refl, RefusesBy}
use Rattle.tag_cache.proofs.Uses.{reserved_of, Result, SameWindow, Side, Some, subst, sym, TagFault, Tallies, won_in_both, Woken, ℕ}
use Rattle.tag_search.specs.Gains.{count_of}
use Rattle.tag_pool.specs.Exact as hands
use Rattle.tag_pool.specs.Gets as hand_gets
use Rattle.tag_pool.specs.Refusals as of_hand
use Rattle.tag_pool.specs.Sides as side
use Rattle.tag_pool.specs.declared.gets.Got.{Got}
use Rattle.tag_cache.specs.Exact.{GetsAndLooks, GetsBy}
use Rattle.tag_cache.specs.Refusals.{exact_checks}
use Rattle.tag_cache.proofs.Below.{held_below}
use Rattle.tag_cache.proofs.Carrying.{more}
use Rattle.tag_cache.proofs.Gaining.{Gain, Gains, looked_gains}
use Rattle.tag_cache.proofs.Reusing.{taken}
use Rattle.tag_cache.proofs.Tallying.{as_many, Moves, moves_in, MovesSide, moves_tallies}

module _ {R : Type 0} (pool : Pool R) (tag : ℕ) where
  side_moves : {l : Layout} (number : ℕ) (answer : Option ℕ) (a b : Side R) → side.GetsExactly l number answer a b
      → MovesSide (count_of answer) 0 a b
  side_moves number answer a b g = let k = g.gains.back in record { won_is = g.gains.count; back_is = omega arith }

  -- the hand gains what the get answers, and gives nothing back
  exact_gains : (answer : Option ℕ) (a b : Hand R) → hands.GetsExactly pool tag answer a b
      → Gains (IsAnswer answer) (answered answer) a b
  exact_gains answer a b g = record {
    more = g.gets.more;
    moves = subst (λ (n : ℕ). Moves n 0 a b) (as_many _ answer g.gets.number g.gets.answer_is)
        (moves_in (kind_of (reserved_of pool) tag) (count_of g.gets.number) 0 _ a b
        (λ c d x. side_moves _ g.gets.number c d x) g.gets.set);
  }

  looked : (answer : Option ℕ) (woken : Woken) (a b : Hand R)
      → hand_gets.GetsAndLooks (kind_of (reserved_of pool) tag) (hands.GetsExactly pool tag answer) woken a b → Gains (IsAnswer answer) (answered answer) a b
  looked answer woken a b = looked_gains (kind_of (reserved_of pool) tag) (IsAnswer answer) (answered answer) woken (hands.GetsExactly pool tag answer) a b
      (λ x. exact_gains answer a x)

  pub exact_quiet_call : (a b : Hand R) (r : Result (Found ℕ) TagFault) → hands.DoesGetExactly tag pool r a b
      → Gain r (λ found. IsAnswer found.answer) (λ found. answered found.answer) a b
  exact_quiet_call a b r does = record {
    gains = IfOk-weaker r _ _ (λ found. exact_gains found.answer a b) does.gets;
    refused = does.refusals.same;
  }

  pub exact_call : (a b : Hand R) (r : Result (Got (Option ℕ)) TagFault)
      → IfOk r (λ got. hand_gets.GetsAndLooks (kind_of (reserved_of pool) tag) (hands.GetsExactly pool tag got.answer) got.woken a b) → OnErr r (b ≡ a)
      → Gain r (λ got. IsAnswer got.answer) (λ got. answered got.answer) a b
  exact_call a b r gets err = record {
    gains = IfOk-weaker r _ _ (λ got. looked got.answer got.woken a b) gets;
    refused = err;
  }

  -- the tag was not kept, so the hand makes the get
  module _ (old new : Cache R) (keeps : KeepsSame old new) (window : SameWindow old new) (other : ¬ (IsKept old tag)) where
    pub quiet_gets : (r : Result (Found ℕ) TagFault)
        → IfOk r (λ found. hands.GetsExactly pool tag found.answer old.hand new.hand)
        → IfOk r (λ found. GetsBy tag (hands.GetsExactly pool tag found.answer) found.answer old new)
    quiet_gets r gets = IfOk-weaker r _ _
        (λ found (x : hands.GetsExactly pool tag found.answer old.hand new.hand). record {
          more = more old new keeps (IsAnswer found.answer) x.gets.more;
          only = x.only;
          source = inr (record { other = other; gets = x; same = keeps; window = window });
        }) gets

    pub quiet_tally : (r : Result (Found ℕ) TagFault)
        → IfOk r (λ found. hands.GetsExactly pool tag found.answer old.hand new.hand)
        → IfOk r (λ found. Tallies (answered found.answer) 0 old new)
    quiet_tally r gets = IfOk-weaker r _ _ (λ found (x : hands.GetsExactly pool tag found.answer old.hand new.hand).
        moves_tallies (answered found.answer) 0 old new keeps (exact_gains found.answer _ _ x).moves) gets

    pub looking_gets : (r : Result (Got (Option ℕ)) TagFault)
        → IfOk r (λ got. hand_gets.GetsAndLooks (kind_of (reserved_of pool) tag) (hands.GetsExactly pool tag got.answer) got.woken old.hand new.hand)
        → IfOk r (λ got. GetsAndLooks tag pool got.answer got.woken old new)
    looking_gets r gets = IfOk-weaker r _ _ (λ got
        (x : hand_gets.GetsAndLooks (kind_of (reserved_of pool) tag) (hands.GetsExactly pool tag got.answer) got.woken old.hand new.hand). record {
          gets = record {
            more = more old new keeps (IsAnswer got.answer) (looked got.answer got.woken _ _ x).more;
            only = x.gets.only;
            source = inr (record { other = other; gets = x; same = keeps; window = window });
          };
          quiet = λ kept. absurd (other kept);
        }) gets

    pub looking_tally : (r : Result (Got (Option ℕ)) TagFault)
        → IfOk r (λ got. hand_gets.GetsAndLooks (kind_of (reserved_of pool) tag) (hands.GetsExactly pool tag got.answer) got.woken old.hand new.hand)
        → IfOk r (λ got. Tallies (answered got.answer) 0 old new)
    looking_tally r gets = IfOk-weaker r _ _ (λ got
        (x : hand_gets.GetsAndLooks (kind_of (reserved_of pool) tag) (hands.GetsExactly pool tag got.answer) got.woken old.hand new.hand).
        moves_tallies (answered got.answer) 0 old new keeps (looked got.answer got.woken _ _ x).moves) gets

    fails : (fault : TagFault) → FailsFirst (of_hand.exact_checks pool tag old.hand) fault
        → FailsFirst (exact_checks pool tag old) fault
    fails fault (inl low) = inl low
    fails fault (inr (low, inl lost)) = inr (low, inl ((λ room. lost.0 (room other)), lost.1))
    fails fault (inr (low, inr none)) = absurd none.1

    -- what the hand is refused, the cache is
    pub refused : {A : Type 0} (r : Result A TagFault)
        → RefusesBy (of_hand.exact_checks pool tag old.hand) (new.hand ≡ old.hand) r
        → RefusesBy (exact_checks pool tag old) (IsUnchanged old new) r
    refused (Ok x) does = record {
      first = tt;
      passes = (does.passes.0, (λ no. does.passes.1.0, tt));
      same = tt;
    }
    refused (Err fault) does = record {
      first = fails fault does.first;
      passes = tt;
      same = record { hand = does.same; kept = keeps; window = window };
    }

  -- the tag was kept, and is handed out
  module _ (old new : Cache R) (own : IsHandOf pool old.hand) (out : HandsOut tag old new) where
    pub was_kept : (Search : Hand R → Hand R → Type 0) → GetsBy tag Search (Some tag) old new
    was_kept Search = record {
      more = taken old new tag out.takes;
      only = refl;
      source = inl (record { answer_is = refl; hands_out = out });
    }

    pub kept_passes : PassesAll (exact_checks pool tag old)
    kept_passes = (
      held_below pool old.hand tag own (old.own tag out.takes.was).0,
      (λ no. absurd (no out.takes.was), tt),
    )

    pub kept_left : 0 ≡ hand_gets.left_free (kind_of (reserved_of pool) tag) old.hand new.hand
    kept_left = subst (λ (h : Hand R). 0 ≡ hand_gets.left_free (kind_of (reserved_of pool) tag) old.hand h) (sym out.takes.hand) (omega arith)

    pub kept_tally : Tallies 1 0 old new
    kept_tally = let w = ap (λ (h : Hand R). won_in_both h) out.takes.hand in
        let k = ap (λ (h : Hand R). back_in_both h) out.takes.hand in let reused = out.reused in
        let fewer = out.takes.fewer in record { handed = omega arith; taken = omega arith }
