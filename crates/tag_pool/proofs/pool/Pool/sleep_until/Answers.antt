-- Each round but the last is followed by a sleep that used up none of the hand's life; the last wins a tag, or gives up.
use Rattle.tag_pool.proofs.Uses.{arith, inl, inr, refl, subst, suc, ◌∙◌}
use Rattle.tag_core.specs.declared.berth.Waiter.TheVariants.{Sleeper}
use Rattle.tag_bell.specs.declared.waiting.Turn.{Turn}
use Rattle.tag_pool.specs.declared.gets.rounds.Next.{Next}
use Rattle.tag_pool.specs.Waits.{Goes, MaySleepNow, turn_after}
use Rattle.tag_pool.proofs.pool.Pool.sleep_until.Goals as goal

pub loop-init : goal.loop-init
loop-init g c = record {
  hand = (c.requires.hand, refl);
  can = c.requires.can;
  over = λ t. absurd (let wrong = t in cc);
  sleeps = 0;
  turn = refl;
  count = refl;
  slept = refl;
}

pub returns-in-Won-default-clause-sleeps : goal.returns-in-Won-default-clause-sleeps
returns-in-Won-default-clause-sleeps g c = let inv = c.loop.invariant in let round = c.wait_on in record {
  sleeps = inv.sleeps;
  last = c.loop.hand;
  slept = inv.slept;
  ends = subst (λ (x : Turn × Next). Goes c.args.self.now c.args.kind Sleeper x.0 x.1 round.result.1 c.loop.hand round.new.hand)
      (λ j. (inv.turn j, c.in-Won-default.is-0 j)) round.ensures.goes;
  gives_up = λ e. absurd (let none = e in cc);
}

pub returns-in-Over-default-clause-sleeps : goal.returns-in-Over-default-clause-sleeps
returns-in-Over-default-clause-sleeps g c = let inv = c.loop.invariant in let round = c.wait_on in record {
  sleeps = inv.sleeps;
  last = c.loop.hand;
  slept = inv.slept;
  ends = subst (λ (x : Turn × Next). Goes c.args.self.now c.args.kind Sleeper x.0 x.1 round.result.1 c.loop.hand round.new.hand)
      (λ j. (inv.turn j, c.in-Over-default.is-0 j)) round.ensures.goes;
  gives_up = λ none. inl (inv.over (round.ensures.over.0 c.in-Over-default.is-0));
}

pub loop-preserved : goal.loop-preserved
loop-preserved g c = let inv = c.loop.invariant in let round = c.wait_on in let pool = c.args.self.now in
    let sleep : MaySleepNow pool c.args.kind Sleeper (turn_after inv.sleeps) c.loop.hand round.new.hand =
    (subst (λ (x : Turn × Next). Goes pool c.args.kind Sleeper x.0 x.1 round.result.1 c.loop.hand round.new.hand)
    (λ j. (inv.turn j, c.in-Sleep-default.is-0 j)) round.ensures.goes).1 in record {
      hand = (round.ensures.hand.0, round.ensures.hand.1 ∙ inv.hand.1);
      can = sleep.again;
      over = c.sleep-is_over.ensures.ended;
      sleeps = suc inv.sleeps;
      turn = refl;
      count = let n = inv.count in omega arith;
      slept = (c.loop.hand, round.new.hand, inv.slept, sleep, refl);
    }

pub returns-clause-sleeps : goal.returns-clause-sleeps
returns-clause-sleeps g c = let inv = c.loop.invariant in record {
  sleeps = inv.sleeps;
  last = c.loop.hand;
  slept = inv.slept;
  ends = c.give_up.ensures.ends;
  gives_up = λ none. inr (let n = inv.count in let end = c.loop.auto.counter-end in omega (arith, c.loop-test.false));
}
