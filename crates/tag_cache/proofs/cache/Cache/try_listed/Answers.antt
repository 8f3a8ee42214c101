-- The hand won a tag, which the user is then known to hold; or it may sleep, and as before nothing is kept.
use Rattle.tag_cache.proofs.Uses.{Hand, Ordinary, rules, subst, sym}
use Rattle.tag_pool.specs.Waits.{Goes, WinsRound}
use Rattle.tag_pool.specs.declared.gets.rounds.Next.{Next}
use Rattle.tag_cache.proofs.Winning.{tries_in_vain, wins_listed}
use Rattle.tag_cache.proofs.cache.Cache.try_listed.Goals as goal

pub returns-clause-tries : goal.returns-clause-tries
returns-clause-tries g c = let old = c.args.self.now in let new = c.learn.new.self in
    let round = c.wait_on-next in let pool = c.args.pool.now in let told = round.result.1 in
    let waiter = c.args.waiter in let turn = c.args.turn in let tag = c.in-Won.tag in let learns = c.learn.ensures.learns in
    wins_listed pool waiter turn told tag old new c.requires.none (search rules)
    (record { now = learns.now; still = learns.still; none_else = learns.none_else })
    (subst (λ (h : Hand g.row.R.Denot). WinsRound pool Ordinary waiter turn tag told old.hand h)
    (sym c.learn.ensures.same.hand)
    (subst (λ (n : Next). Goes pool Ordinary waiter turn n told old.hand round.new.hand) c.in-Won.is
    round.ensures.goes))

pub returns-in_default : goal.returns-in_default
returns-in_default g c = let round = c.wait_on-next in record {
  cache = round.ensures.hand.0;
  tries = tries_in_vain c.args.pool.now c.args.waiter c.args.turn round.result.1 round.result.0 c.args.self.now _
      c.in_default.not-Won round.ensures.over round.ensures.goes c.requires.none (search rules) (search rules);
}
