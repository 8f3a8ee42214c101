-- Each turn makes a hand of the next one of the tokens.
use Rattle.std.proofs.Common.{[], All, ap, arith, map, subst, sym, ◌++◌, ◌∷◌, ◌≡◌}
use Rattle.std.proofs.lemmas.List.Elements.{All-push, All-tail}
use Rattle.tag_pool.proofs.Fronts.{goes_on}
use Rattle.tag_pool.specs.Hands as pool
use Rattle.tag_pool.specs.Opening.{HoldsNone}
use Rattle.posted_queue.specs.Hands.{number_of, tokens_of}
use Rattle.posted_queue.specs.Opening.{IsNewHand}
use Rattle.posted_queue.proofs.queue.PostedQueue.join.Goals as goal

pub enter-requires-clause-own : goal.enter-requires-clause-own
enter-requires-clause-own c = subst (All (pool.IsHandOf (tokens_of c.args.self.now))) c.in-Some.ensures.items
    c.loop-tokens.invariant.own 0 c.in-Some.tokens (omega arith)

pub enter-requires-clause-none : goal.enter-requires-clause-none
enter-requires-clause-none c = subst (All HoldsNone) c.in-Some.ensures.items c.loop-tokens.invariant.none 0
    c.in-Some.tokens (omega arith)

pub loop-tokens-preserved : goal.loop-tokens-preserved
loop-tokens-preserved c = let inv = c.loop-tokens.invariant in let made = c.loop-tokens.joined.items in
    let own = c.in_ok-own.own in let queue = c.args.self.now in
    let pushed : c.push.new.self.items ≡ made ++ own ∷ [] = c.in_ok-push.ensures.items in record {
      numbers = goes_on number_of made _ own (pool.number_of c.in-Some.tokens) _ _ _ inv.numbers
          (ap (map pool.number_of) c.in-Some.ensures.items) pushed c.in_ok-own.ensures.number;
      new = subst (All (IsNewHand queue)) (sym pushed)
          (All-push (IsNewHand queue) made own inv.new c.in_ok-own.ensures.new);
      own = All-tail (pool.IsHandOf (tokens_of queue)) c.in-Some.tokens _
          (subst (All (pool.IsHandOf (tokens_of queue))) c.in-Some.ensures.items inv.own);
      none = All-tail HoldsNone c.in-Some.tokens _ (subst (All HoldsNone) c.in-Some.ensures.items inv.none);
    }
