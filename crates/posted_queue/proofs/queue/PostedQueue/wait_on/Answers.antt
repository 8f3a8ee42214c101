-- A token that was won is posted, and none is held while the hand sleeps.
use Rattle.std.proofs.Common.{rules, subst}
use Rattle.tag_pool.specs.Opening.{HoldsNone}
use Rattle.tag_pool.specs.Waits.{Goes, MaySleepNow, WinsRound}
use Rattle.tag_pool.specs.declared.gets.rounds.Next.{Next}
use Rattle.tag_pool.specs.declared.kind.Kind.TheVariants.{Ordinary}
use Rattle.posted_queue.proofs.NoneHeld.{none_after, none_same}
use Rattle.posted_queue.proofs.queue.PostedQueue.wait_on.Goals as goal

pub returns-in-Won-clause-own : goal.returns-in-Won-clause-own
returns-in-Won-clause-own g c = let token = c.in-Won.token in let tokens = c.args.self.now.tokens in
    let won : WinsRound tokens Ordinary c.args.waiter c.args.turn token c.wait_on-next.result.1 c.args.own.now.tokens
    c.wait_on-next.new.hand =
    subst (λ (n : Next). Goes tokens Ordinary c.args.waiter c.args.turn n c.wait_on-next.result.1 c.args.own.now.tokens
    c.wait_on-next.new.hand) c.in-Won.is c.wait_on-next.ensures.goes in
    let none : HoldsNone c.serve-popped.new.own.tokens = none_after token c.args.own.now.tokens c.wait_on-next.new.hand
    c.serve-popped.new.own.tokens c.requires.own.3 won.more c.serve-popped.ensures.serves.posts.less in
    search rules

pub returns-in-Won-clause-goes : goal.returns-in-Won-clause-goes
returns-in-Won-clause-goes g c = let tokens = c.args.self.now.tokens in record {
  token = c.in-Won.token;
  won = c.wait_on-next.new.hand;
  wins = subst
      (λ (n : Next). Goes tokens Ordinary c.args.waiter c.args.turn n c.wait_on-next.result.1 c.args.own.now.tokens
      c.wait_on-next.new.hand) c.in-Won.is c.wait_on-next.ensures.goes;
  serves = c.serve-popped.ensures.serves;
}

pub returns-in-Sleep-clause-own : goal.returns-in-Sleep-clause-own
returns-in-Sleep-clause-own g c = let tokens = c.args.self.now.tokens in
    let sleeps : MaySleepNow tokens Ordinary c.args.waiter c.args.turn c.args.own.now.tokens c.wait_on-next.new.hand =
    (subst (λ (n : Next). Goes tokens Ordinary c.args.waiter c.args.turn n c.wait_on-next.result.1 c.args.own.now.tokens
    c.wait_on-next.new.hand) c.in-Sleep.is c.wait_on-next.ensures.goes).1 in
    let none : HoldsNone c.wait_on-next.new.hand =
    none_same c.args.own.now.tokens c.wait_on-next.new.hand c.requires.own.3 sleeps.same in
    search rules
