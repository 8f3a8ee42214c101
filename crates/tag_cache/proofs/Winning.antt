-- What a round of a wait gives the user of a cache.
use Rattle.std.specs.Prelude.{◌↔◌, ◌≡◌}
use Rattle.tag_cache.proofs.Uses.{answered, ap, arith, back_in_both, Cache, false, Hand, inl, inr, IsAnswer, IsCacheOf, IsTrue, KeepsNone, KeepsSame, Kind, Learns, None, Ordinary, Pool, refl, Reserved, Reuses, SameWindow, Tallies, Told, Turn, Waiter, won_in_both, ℕ}
use Rattle.tag_model.proofs.HoldingFacts.{more_then_same}
use Rattle.tag_pool.specs.Waits as hands
use Rattle.tag_pool.specs.declared.gets.rounds.Next.{Next}
use Rattle.tag_pool.specs.declared.gets.rounds.Next.TheVariants.{Won, Over, Sleep}
use Rattle.tag_pool.specs.Holding.{HoldsSame}
use Rattle.tag_cache.specs.Waits.{EndsWait, GoesPast, Tries, WinsRound, won_by}
use Rattle.tag_cache.proofs.Carrying.{more}
use Rattle.tag_cache.proofs.Gaining.{Gains}
use Rattle.tag_cache.proofs.Reusing.{reuse_ordinary, taken}
use Rattle.tag_cache.proofs.Sleeping.{ends_moves, round_moves, sleep_moves}
use Rattle.tag_cache.proofs.Steady.{same_tags}
use Rattle.tag_cache.proofs.Tallying.{Moves, moves_tallies, tallies_on}

module _ {R : Type 0} (tag : ℕ) (old mid : Cache R) where
  -- a kept tag is handed out once more, and the hand does nothing
  reuse_tallies : Reuses tag old mid → Tallies 1 0 old mid
  reuse_tallies r = let won = ap (λ (h : Hand R). won_in_both h) r.hands_out.takes.hand in
      let back = ap (λ (h : Hand R). back_in_both h) r.hands_out.takes.hand in let fewer = r.hands_out.takes.fewer in
      let reused = r.hands_out.reused in record { handed = omega arith; taken = omega arith }

  -- what the user is known to hold, and then the same
  learns_still : (new : Cache R) → Learns tag old mid → SameWindow mid new → Learns tag old new
  learns_still new l s = record {
    now = (s.knows tag).1 l.now;
    still = λ within other k. (s.knows other).1 (l.still within other k);
    none_else = λ other k. l.none_else other ((s.knows other).0 k);
  }

-- a hand that holds the same tags gained none
gains_nothing : {R : Type 0} (a b : Hand R) → HoldsSame a b → Moves 0 0 a b → Gains (IsAnswer None) 0 a b
gains_nothing a b same moves = record {
  more = record {
    fresh = λ tag no. absurd no;
    joined = λ tag no. absurd no;
    kept = same.kept;
    none_else = λ tag h. inl (same.none_else tag h);
  };
  moves = moves;
}

module _ {R : Type 0} (pool : Pool R) (waiter : Waiter) (turn : Turn) (told : Told) where
  -- the least kept tag is the user's, and the hand ended its wait
  pub wins_kept : (tag : ℕ) (old mid new : Cache R) → IsCacheOf pool old → Reuses tag old mid
      → EndsWait pool Ordinary told mid new → WinsRound pool waiter turn tag told old new
  wins_kept tag old mid new own r ends = record {
    more = more_then_same (taken old mid tag r.hands_out.takes) ends.same.held;
    ordinary = reuse_ordinary pool old mid tag own r.hands_out.takes;
    source = inl (record { taken = mid; reuses = r; ends = ends });
    knows = learns_still tag old mid new r.hands_out.learns ends.same.window;
    tally = tallies_on 1 0 old mid new (reuse_tallies tag old mid r) ends.same.tally;
  }

  -- the hand listed itself and won a tag, where none was kept, and the user is known to hold it
  pub wins_listed : (tag : ℕ) (old new : Cache R) → KeepsNone old → KeepsSame old new → Learns tag old new
      → hands.WinsRound pool Ordinary waiter turn tag told old.hand new.hand
      → WinsRound pool waiter turn tag told old new
  wins_listed tag old new none keeps learns wins = record {
    more = more old new keeps (λ other. other ≡ tag) wins.more;
    ordinary = wins.wins.tag tag refl;
    source = inr (record { none = none; hand = wins; kept = keeps });
    knows = learns;
    tally = moves_tallies 1 0 old new keeps (round_moves pool Ordinary waiter turn tag told old.hand new.hand wins);
  }

  -- the hand won none, so it may sleep
  pub tries_in_vain : (next : Next) (old new : Cache R) → ((tag : ℕ) → ¬ (next ≡ Won tag))
      → (next ≡ Over ↔ IsTrue false) → hands.Goes pool Ordinary waiter turn next told old.hand new.hand → KeepsNone new
      → KeepsSame old new → SameWindow old new → Tries pool waiter turn next told old new
  tries_in_vain (Won tag) old new lost over goes none keeps window = absurd (lost tag refl)
  tries_in_vain Over old new lost over goes none keeps window = absurd (let wrong = over.0 refl in cc)
  tries_in_vain Sleep old new lost over goes none keeps window = (
    goes.0,
    record {
      none = none;
      hand = goes.1;
      same = same_tags old new keeps window
          (record { held = goes.1.same; moves = sleep_moves pool Ordinary waiter turn old.hand new.hand goes.1 });
    },
  )

  -- a round for a tag of a kind gains the hand the tag won, if there is one, and gives nothing back
  pub round_gains : (kind : Kind) (next : Next) (a b : Hand R) → hands.Goes pool kind waiter turn next told a b
      → Gains (IsAnswer (won_by next)) (answered (won_by next)) a b
  round_gains kind (Won tag) a b w = record { more = w.more; moves = round_moves pool kind waiter turn tag told a b w }
  round_gains kind Over a b e = gains_nothing a b e.same (ends_moves pool kind told a b e)
  round_gains kind Sleep a b s = gains_nothing a b s.1.same (sleep_moves pool kind waiter turn a b s.1)

  -- so a round for a reserved tag gains it for the user of a cache, past what is kept
  pub goes_past : (next : Next) (old new : Cache R) → KeepsSame old new → SameWindow old new
      → hands.Goes pool Reserved waiter turn next told old.hand new.hand → GoesPast pool waiter turn next told old new
  goes_past next old new keeps window goes = let gains = round_gains Reserved next old.hand new.hand goes in record {
    hand = goes;
    more = more old new keeps (IsAnswer (won_by next)) gains.more;
    kept = keeps;
    window = window;
    tally = moves_tallies (answered (won_by next)) 0 old new keeps gains.moves;
  }
