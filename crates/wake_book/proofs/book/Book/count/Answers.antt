-- A lost try adds three steps, so 16 tries and the count add at most `count_steps`.
use Rattle.std.proofs.Common.{arith, length, ap}
use Rattle.wake_book.proofs.Counting.{lost_long}
use Rattle.wake_book.proofs.book.Book.count.Goals as goal

pub returns-then-look_completions-end-clause-bound : goal.returns-then-look_completions-end-clause-bound
returns-then-look_completions-end-clause-bound c = let t = c.loop.invariant.tries in
    let a = ap length c.look_wakeups-start.ensures.step.0 in let b = ap length c.look_completions.ensures.step.0 in
    let l = lost_long c.loop.counter c.args.self.now.batch _ _ t.1 in let few = c.loop-test.true in omega arith

pub returns-then-advance-clause-bound : goal.returns-then-advance-clause-bound
returns-then-advance-clause-bound c = let t = c.loop.invariant.tries in
    let a = ap length c.look_wakeups-start.ensures.step.0 in let b = ap length c.look_completions.ensures.step.0 in
    let d = ap length (c.advance.ensures.won c.if-advance.true) in
    let l = lost_long c.loop.counter c.args.self.now.batch _ _ t.1 in let few = c.loop-test.true in omega arith

pub returns-clause-lawful : goal.returns-clause-lawful
returns-clause-lawful c = let inv = c.loop.invariant in let stop = c.loop-test.false in
    let most = c.loop.auto.counter-end in
    (inv.room, inv.tries.0, c.loop.counter, omega arith, inv.tries.1)
