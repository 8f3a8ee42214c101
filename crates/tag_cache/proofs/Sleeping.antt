-- What a get that waits gives the user of a cache.
use Rattle.std.specs.Prelude.{◌+◌, ◌≡◌, ◌⊎◌}
use Rattle.tag_cache.proofs.Uses.{arith, blocking_checks, Cache, caller_of, Changes, Err, FailsFirst, GetsBlocking, Hand, IfOk, inl, inr, IsHandOf, IsUnchanged, KeepsNone, KeepsSame, Kind, Learns, nobody, None, Ok, Ordinary}
use Rattle.tag_cache.proofs.Uses.{Pool, refl, RefusesBy, Reserved, Result, Reuses, SameWindow, Some, subst, suc, sym, TagFault, Tallies, Told, told_by, Turn, Waiter, Woken, zero, ℕ}
use Rattle.tag_bell.specs.Callers as callers
use Rattle.tag_pool.specs.Bell as bell
use Rattle.tag_pool.specs.Refusals as of_hand
use Rattle.tag_pool.specs.Waits as hands
use Rattle.tag_pool.specs.declared.gets.Got.{Got}
use Rattle.tag_core.specs.declared.berth.Waiter.TheVariants.{Sleeper}
use Rattle.tag_pool.specs.Sides as side
use Rattle.tag_cache.specs.Sleeping.{GetsReservedBlocking}
use Rattle.tag_cache.proofs.Carrying.{more}
use Rattle.tag_cache.proofs.Reusing.{reuse_ordinary, taken}
use Rattle.tag_cache.proofs.Ringing.{adds_rests}
use Rattle.tag_cache.proofs.Steady.{rests_unchanged}
use Rattle.tag_cache.proofs.Tallying.{Moves, gets_moves, moves_in, moves_tallies}

-- how many tags a hand wins that waits by the bell
module _ {R : Type 0} where
  moves_then : (won later : ℕ) (a b c : Hand R) → Moves won 0 a b → Moves later 0 b c → Moves (won + later) 0 a c
  moves_then won later a b c r s = let rw = r.won_is in let rb = r.back_is in let sw = s.won_is in let sb = s.back_is in
      record { won_is = omega arith; back_is = omega arith }

  lists_moves : (kind : Kind) (waiter : Waiter) (turn : Turn) (a b : Hand R)
      → Changes kind (bell.ListsSelf waiter turn) a b → Moves 0 0 a b
  lists_moves kind waiter turn a b x = moves_in kind 0 0 _ a b
      (λ c d (l : bell.ListsSelf waiter turn c d). adds_rests _ c d l.lists.only) x

  sees_moves : (kind : Kind) (limit most : ℕ) (told : Told) (a b : Hand R) → Changes kind (side.SeesTo limit most told) a b
      → Moves 0 0 a b
  sees_moves kind limit most told a b x = moves_in kind 0 0 _ a b
      (λ c d (l : side.SeesTo limit most told c d). adds_rests _ c d l.tells.only) x

  module _ (pool : Pool R) where
    pub sleep_moves : (kind : Kind) (waiter : Waiter) (turn : Turn) (a b : Hand R)
        → hands.MaySleepNow pool kind waiter turn a b → Moves 0 0 a b
    sleep_moves kind waiter turn a b s = moves_then 0 0 a s.listed b (lists_moves kind waiter turn a s.listed s.lists)
        (gets_moves pool kind None s.listed b s.none)

    told_moves : (kind : Kind) (a b : Hand R) → hands.UntilTold kind a b → Moves 0 0 a b
    told_moves kind a b x = moves_in kind 0 0 _ a b
        (λ c d (l : bell.SleepsUntilTold c d). adds_rests _ c d l.sleeps.looks) x

    sleeps_moves : (kind : Kind) (sleeps : ℕ) (a b : Hand R)
        → hands.AreSleeps sleeps pool kind (hands.UntilTold kind) a b → Moves 0 0 a b
    sleeps_moves kind zero a b same = (rests_unchanged a b same).moves
    sleeps_moves kind (suc sleeps) a b slept = moves_then 0 0 a slept.0 b (sleeps_moves kind sleeps a slept.0 slept.2)
        (moves_then 0 0 slept.0 slept.1 b (sleep_moves kind Sleeper (hands.turn_after sleeps) slept.0 slept.1 slept.3)
        (told_moves kind slept.1 b slept.4))

    pub ends_moves : (kind : Kind) (told : Told) (a b : Hand R) → hands.EndsWait pool kind told a b → Moves 0 0 a b
    ends_moves kind told a b e = moves_then 0 0 a e.risen b
        (moves_in kind 0 0 _ a e.risen (λ c d (l : bell.GetsUp e.was_told c d). adds_rests _ c d l.leaves.only)
        e.gets_up)
        (sees_moves kind 1 _ told e.risen b e.sees.set)

    pub round_moves : (kind : Kind) (waiter : Waiter) (turn : Turn) (tag : ℕ) (told : Told) (a b : Hand R)
        → hands.WinsRound pool kind waiter turn tag told a b → Moves 1 0 a b
    round_moves kind waiter turn tag told a b w = moves_then 0 1 a w.listed b
        (lists_moves kind waiter turn a w.listed w.lists)
        (moves_then 1 0 w.listed w.won b (gets_moves pool kind (Some tag) w.listed w.won w.wins)
        (ends_moves kind told w.won b w.ends))

    wins_moves : (kind : Kind) (tag : ℕ) (told : Told) (a b : Hand R)
        → hands.WinsAtOnce pool kind (Some tag) told a b
        ⊎ hands.SleepsForOne pool kind (hands.UntilTold kind) ⊥ (Some tag) told a b → Moves 1 0 a b
    wins_moves kind tag told a b (inl w) = moves_then 1 0 a w.won b (gets_moves pool kind (Some tag) a w.won w.wins)
        (sees_moves kind 1 _ told w.won b w.sees.set)
    wins_moves kind tag told a b (inr s) = let w = s.sleeps in
        moves_then 0 1 a s.tried b (gets_moves pool kind None a s.tried s.none)
        (moves_then 0 1 s.tried w.last b (sleeps_moves kind w.sleeps s.tried w.last w.slept)
        (round_moves kind Sleeper (hands.turn_after w.sleeps) tag told w.last b w.ends))

    pub blocking_moves : (kind : Kind) (tag : ℕ) (woken : Woken) (a b : Hand R)
        → hands.GetsBlocking pool kind tag woken a b → Moves 1 0 a b
    blocking_moves kind tag woken a b g = wins_moves kind tag (told_by woken) a b g.how

module _ {R : Type 0} (pool : Pool R) (old new : Cache R) where
  -- where nothing is kept, the hand's checks are all that count
  fails_empty : KeepsNone old → (fault : TagFault) → FailsFirst (of_hand.blocking_checks pool old.hand Ordinary) fault
      → FailsFirst (blocking_checks pool old) fault
  fails_empty none fault (inl first) = inl ((λ all. first.0 (all none)), first.1)
  fails_empty none fault (inr (some, inl first)) = inr ((λ n. some), inl ((λ all. first.0 (all none)), first.1))
  fails_empty none fault (inr (some, inr last)) = absurd last.1

  pub refused_empty : {A : Type 0} → KeepsNone old → (r : Result A TagFault)
      → RefusesBy (of_hand.blocking_checks pool old.hand Ordinary) (IsUnchanged old new) r
      → RefusesBy (blocking_checks pool old) (IsUnchanged old new) r
  refused_empty none (Ok x) refuses = let all = refuses.passes in record {
    first = tt;
    passes = ((λ n. all.0), ((λ n. all.1.0), tt));
    same = tt;
  }
  refused_empty none (Err fault) refuses =
      record { first = fails_empty none fault refuses.first; passes = tt; same = refuses.same }

  -- the hand waited for the tag, since none was kept, and the user gains it alone
  pub waited_for : KeepsSame old new → KeepsNone old → (r : Result (Got ℕ) TagFault)
      → IfOk r (λ got. hands.GetsBlocking pool Ordinary got.answer got.woken old.hand new.hand)
      → IfOk r (λ got. Learns got.answer old new) → IfOk r (λ got. GetsBlocking pool got.answer got.woken old new)
  waited_for keeps none (Ok got) gets learns = record {
    more = more old new keeps (λ other. other ≡ got.answer) gets.comes.more;
    ordinary = gets.comes.tag got.answer refl;
    source = inr (record { none = none; gets = gets; same = keeps });
    owes = λ waiter owed. gets.comes.done waiter;
    knows = learns;
    tally = moves_tallies 1 0 old new keeps (blocking_moves pool Ordinary got.answer got.woken old.hand new.hand gets);
  }
  waited_for keeps none (Err fault) gets learns = tt

  -- a kept tag is the user's, and the hand is as it was
  pub kept_got : (tag : ℕ) (woken : Woken) → IsHandOf pool old.hand → Reuses tag old new → told_by woken ≡ nobody
      → Tallies 1 0 old new → GetsBlocking pool tag woken old new
  kept_got tag woken own r none tally = record {
    more = taken old new tag r.hands_out.takes;
    ordinary = reuse_ordinary pool old new tag own r.hands_out.takes;
    source = inl (record { reuses = r; none = none });
    owes = λ waiter owed. subst (λ (h : Hand R). callers.OwesNothing waiter (caller_of h Ordinary))
        (sym r.hands_out.takes.hand) owed;
    knows = r.hands_out.learns;
    tally = tally;
  }

-- the hand waited for a reserved tag, and the user gains it alone
pub waited_past : {R : Type 0} (pool : Pool R) (old new : Cache R) → KeepsSame old new → SameWindow old new
    → (r : Result (Got ℕ) TagFault) → IfOk r (λ got. hands.GetsBlocking pool Reserved got.answer got.woken old.hand new.hand)
    → IfOk r (λ got. GetsReservedBlocking pool got.answer got.woken old new)
waited_past pool old new keeps window (Ok got) gets = record {
  gets = gets;
  more = more old new keeps (λ other. other ≡ got.answer) gets.comes.more;
  kept = keeps;
  window = window;
  tally = moves_tallies 1 0 old new keeps (blocking_moves pool Reserved got.answer got.woken old.hand new.hand gets);
}
waited_past pool old new keeps window (Err fault) gets = tt
