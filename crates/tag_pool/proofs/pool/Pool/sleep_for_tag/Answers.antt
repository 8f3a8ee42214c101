-- Each round but the last is followed by a sleep that used up none of the hand's life; the last wins a tag.
use Rattle.tag_pool.proofs.Uses.{Option, refl, subst, suc, ℕ, ◌∙◌}
use Rattle.tag_core.specs.declared.berth.Waiter.TheVariants.{Sleeper}
use Rattle.tag_bell.specs.declared.waiting.Turn.{Turn}
use Rattle.tag_pool.specs.Waits.{MaySleepNow, Tries, turn_after}
use Rattle.tag_pool.proofs.WaitsKeep.{rested_can}
use Rattle.tag_pool.proofs.pool.Pool.sleep_for_tag.Goals as goal

pub loop-init : goal.loop-init
loop-init g c = record {
  turns = (tt, tt);
  hand = (c.requires.hand, refl);
  can = c.requires.can;
  sleeps = 0;
  turn = refl;
  slept = refl;
}

pub returns-in-Some-default-clause-sleeps : goal.returns-in-Some-default-clause-sleeps
returns-in-Some-default-clause-sleeps g c = let inv = c.loop.invariant in let round = c.try_listed in record {
  sleeps = inv.sleeps;
  last = c.loop.hand;
  slept = inv.slept;
  ends = subst
      (λ (x : Turn × Option ℕ). Tries c.args.self.now c.args.kind Sleeper x.0 x.1 round.result.1 c.loop.hand round.new.hand)
      (λ j. (inv.turn j, c.in-Some-default.is-0 j)) round.ensures.tries;
  gives_up = λ e. absurd (let none = e in cc);
}

pub loop-preserved : goal.loop-preserved
loop-preserved g c = let inv = c.loop.invariant in let round = c.try_listed in let pool = c.args.self.now in
    let rest = c.sleep.ensures in
    let sleep : MaySleepNow pool c.args.kind Sleeper (turn_after inv.sleeps) c.loop.hand round.new.hand = (subst
    (λ (x : Turn × Option ℕ). Tries pool c.args.kind Sleeper x.0 x.1 round.result.1 c.loop.hand round.new.hand)
    (λ j. (inv.turn j, c.in-None-default.is-0 j)) round.ensures.tries).1 in record {
      turns = (tt, tt);
      hand = (rest.hand.0, rest.hand.1 ∙ round.ensures.hand.1 ∙ inv.hand.1);
      can = rested_can pool c.args.kind round.new.hand c.sleep.new.hand rest.sleeps sleep.again;
      sleeps = suc inv.sleeps;
      turn = refl;
      slept = (c.loop.hand, round.new.hand, inv.slept, sleep, rest.sleeps);
    }
