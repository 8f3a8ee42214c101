-- The hand stood first among the rest, and its caller has it.
use Rattle.tag_tests.proofs.Uses.{All, All-push, ap, arith, Caller, Hand, hand_in, IsHandOf, length, List, subst, suc, sym, ℕ}
use Rattle.tag_tests.proofs.tests.shared.callers.Terms.callers.Goals as goal

pub loop-hand-preserved : goal.loop-hand-preserved
loop-hand-preserved c =
    let was = c.loop-hand.invariant in let pool = c.args.pool.now in
    let own = λ (caller : Caller). IsHandOf pool (hand_in caller) in
    let whole = subst (All (IsHandOf pool)) c.in-Some.ensures.steps.0 was.rest in
    let fewer = ap length c.in-Some.ensures.steps.0 in
    let one = subst (IsHandOf pool) (sym {A = Hand ℕ} c.caller.ensures) (whole 0 c.in-Some.hand (omega arith)) in
    record {
      steps = (tt, tt);
      rest = λ k d low. whole (suc k) d (omega arith);
      own = subst (All own) (sym {A = List Caller} c.in_ok-push.ensures.items)
          (All-push own c.loop-hand.callers.items c.caller.result was.own one);
    }
