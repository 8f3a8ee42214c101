-- The caller stood first among the rest, and its hand is one of the pool's own.
use Rattle.tag_tests.proofs.Uses.{All, All-push, ap, arith, Caller, Hand, hand_in, IsHandOf, length, List, subst, suc, sym, ℕ}
use Rattle.tag_tests.proofs.tests.shared.callers.hands_of.Goals as goal

pub loop-caller-preserved : goal.loop-caller-preserved
loop-caller-preserved c =
    let was = c.loop-caller.invariant in let pool = c.args.pool.now in
    let own = λ (caller : Caller). IsHandOf pool (hand_in caller) in
    let whole = subst (All own) c.in-Some.ensures.steps.0 was.rest in
    let fewer = ap length c.in-Some.ensures.steps.0 in
    record {
      steps = (tt, tt);
      rest = λ k d low. whole (suc k) d (omega arith);
      own = subst (All (IsHandOf pool)) (sym {A = List (Hand ℕ)} c.in_ok-push.ensures.items)
          (All-push (IsHandOf pool) c.loop-caller.hands.items c.hand_of.result was.own c.hand_of.ensures);
    }
