-- All hands are passed in, so none is missing; the tags in use that a refusal reports are the sums over both sets.
use Rattle.std.proofs.Common.{◌≡◌, refl, sym, ap, ◌∙◌}
use Rattle.tag_board.proofs.Uses.{reserved_of, total_of}
use Rattle.tag_pool.specs.Hands.{hands_of}
use Rattle.tag_board.proofs.Continuing.{order_kept, order_unchanged, every_there, may_resize, refuses, state_kept, state_resized}
use Rattle.tag_board.proofs.Endings.{all_there}
use Rattle.tag_board.proofs.board.Board.resize.Goals as goal

pub invariant_of-result : goal.invariant_of-result
invariant_of-result c =
    let b = c.args.self in let queue = c.in-Ok.queue in let hands = c.in-Ok.hands.items in
    let is = c.in-Ok.ensures.ok in record {
      own = is.own;
      ordered = order_kept b.hands.items hands is.numbers b.ordered;
      every = every_there b.queue queue b.hands.items hands c.args.total is b.every;
      sizes = (is.pool.rest.total_is, is.pool.rest.split ∙ b.sizes.1);
    }

pub returns-in-Ok-clause-answers : goal.returns-in-Ok-clause-answers
returns-in-Ok-clause-answers c =
    let b = c.args.self in let queue = c.in-Ok.queue in let hands = c.in-Ok.hands.items in
    let is = c.in-Ok.ensures.ok in
    let may = c.in-Ok.ensures.may refl in
    state_resized b.queue queue b.hands.items hands c.args.total is
    (may_resize b.queue b.hands.items b.own c.args.total may) may.1.0

pub invariant_of-board : goal.invariant_of-board
invariant_of-board c =
    let b = c.args.self in let fault = c.in-Err.field-0 in let back = c.in-Err.ensures.err in
    record {
      own = c.in-Err.ensures.own;
      ordered = order_unchanged b.queue fault.queue b.hands.items fault.hands.items back.0 back.1 b.ordered;
      every = back.1.count ∙ b.every ∙ sym (ap hands_of back.0.pool);
      sizes = (ap total_of back.0.pool ∙ b.sizes.0, ap reserved_of back.0.pool ∙ b.sizes.1);
    }

pub returns-in-Memory-clause-memory : goal.returns-in-Memory-clause-memory
returns-in-Memory-clause-memory c = λ out. let b = c.args.self in
    may_resize b.queue b.hands.items b.own c.args.total (c.in-Err.ensures.memory c.in-Memory.is)

pub returns-in_default-clause-answers : goal.returns-in_default-clause-answers
returns-in_default-clause-answers c =
    let b = c.args.self in let fault = c.in-Err.field-0 in let e = c.in-Err.ensures in let hands = b.hands.items in (
      refuses b.queue hands b.own c.args.total (λ cause. fault.cause ≡ cause)
          record { missing = e.missing; too_deep = e.too_deep; in_use = e.in_use; waiting = e.waiting }
          e.balance (all_there b.queue hands b.ordered b.every) fault.cause c.in_default.not-Memory refl,
      state_kept b.queue fault.queue hands fault.hands.items e.err.0 e.err.1,
    )
