-- A further visit keeps what is said of those before it; at the end the steps and the grants are those of all visits.
use Rattle.std.specs.Prelude.{◌+◌, ◌<◌}
use Rattle.wake_book.proofs.Uses.{ap, arith, get_or, granted_in, length, length-set, moved_by, total, ℕ, ◌∙◌}
use Rattle.wake_book.specs.Groups.{steps_of}
use Rattle.wake_book.proofs.Granting.{granted_by_visit, counted_at, sum_set}
use Rattle.wake_book.proofs.Walking.{one_more, visited_long}
use Rattle.wake_book.proofs.groups.Groups.walk.Goals as goal

pub loop-left-preserved : goal.loop-left-preserved
loop-left-preserved c = let inv = c.loop-left.invariant in let e = c.visit-moved.ensures in
    let some = c.loop-left-test.true in let few = inv.few.0 in let more = c.if-visits-lt-GROUPS.true in
    let moved = e.moved in let before = inv.moved in let low = inv.few.1 in let long = inv.eight in
    let here : c.loop-left.group < length c.loop-left.in_group = omega arith in
    let count : ℕ = get_or c.loop-left.in_group c.loop-left.group 0 + c.visit-moved.result in record {
      groups = (
        e.groups.0,
        (
          e.groups.1.0 ∙ inv.groups.1.0,
          e.groups.1.1 ∙ inv.groups.1.1,
          e.groups.1.2 ∙ inv.groups.1.2,
          e.groups.1.3 ∙ inv.groups.1.3,
        ),
      );
      few = (omega arith, omega arith, omega arith);
      moved = omega arith;
      walk = one_more c.args.nr c.loop-left.left c.loop-left.group c.loop-left.visits (steps_of c.args.waiter.now)
          (steps_of c.loop-left.waiter) inv.walk c.visit-moved.result (steps_of c.visit-moved.new.waiter) some e.visit;
      eight = length-set c.loop-left.in_group c.loop-left.group count ∙ inv.eight;
      sum_is = let up = sum_set c.loop-left.in_group c.loop-left.group count here in let is = inv.sum_is in omega arith;
      each = λ group low.
          let visit = granted_by_visit group c.loop-left.group c.loop-left.left (steps_of c.loop-left.waiter)
          (steps_of c.visit-moved.new.waiter) c.visit-moved.result e.visit in let is = inv.each group low in
          let entry = counted_at c.loop-left.in_group c.loop-left.group group c.visit-moved.result here in omega arith;
    }

pub returns-clause-bound : goal.returns-clause-bound
returns-clause-bound c = let inv = c.loop-left.invariant in let few = inv.few.2 in
    let e = ap length c.store_index.ensures.step in
    let l = visited_long c.args.nr c.loop-left.left c.loop-left.group c.loop-left.visits (steps_of c.args.waiter.now)
    (steps_of c.loop-left.waiter) inv.walk in omega arith

pub overflow_add-in_group : goal.overflow_add-in_group
overflow_add-in_group c = let inv = c.loop-left.invariant in let is = inv.sum_is in let within = c.requires.within in
    let few = sum_set c.loop-left.in_group c.loop-left.group 0 (let here = inv.few.1 in let long = inv.eight in omega arith)
    in let moved = c.visit-moved.ensures.moved.0 in
    omega arith

pub returns-clause-grants : goal.returns-clause-grants
returns-clause-grants c = let inv = c.loop-left.invariant in let is = inv.sum_is in
    let now = c.loop-left.waiter.moves.0 in let then = c.args.waiter.now.moves.0 in let more = inv.moved in
    let steps = ap (total moved_by) c.store_index.ensures.step in record {
      each = λ group low. let step = ap (total (granted_in group)) c.store_index.ensures.step in
          let before = inv.each group low in omega arith;
      all = omega arith;
      sum_is = omega arith;
    }
