-- Whether the pool was resized or handed back, its hands are in the old order and keep their numbers, so they fit the
-- shells of the hands again.
use Rattle.tag_queue.proofs.Uses.{All, ap, arith, Hand, length, List, Pool, QueueHand, refl, subst, sym, ℕ, ◌∙◌}
use Rattle.std.proofs.lemmas.List.{length-map}
use Rattle.std.proofs.lemmas.List.Elements.{All-map}
use Rattle.std.proofs.Common.{get_or}
use Rattle.step_ledger.specs.Gather.{HasAll}
use Rattle.tag_pool.specs.Gathering as pool
use Rattle.tag_layout.specs.Layout.{Layout, wake_batch}
use Rattle.tag_pool.specs.Hands as tags
use Rattle.tag_pool.specs.Resizing as resizing
use Rattle.wake_book.specs.Book.{Rebatches}
use Rattle.wake_book.specs.declared.book.Limits.{Limits}
use Rattle.tag_queue.specs.Bell.{WaitsNowhere}
use Rattle.tag_queue.specs.Hands.{hands_of, in_pool, number_of, numbers_of}
use Rattle.tag_queue.proofs.Few.{enough}
use Rattle.tag_queue.proofs.Gathering.{inner_numbers, inners_own}
use Rattle.tag_queue.specs.Resizing.{standing_count}
use Rattle.tag_queue.proofs.ThroughResizes.{balance_here, may_here, refused_here}
use Rattle.tag_queue.proofs.Resized.{fit_again, own_again, serve_resized, serve_unchanged, tellers_same, unchanged_again, waiters_same}
use Rattle.tag_queue.proofs.queue.Queue.go_on.Goals as goal

pub resize_pool-requires-clause-own : goal.resize_pool-requires-clause-own
resize_pool-requires-clause-own g c = subst (All (tags.IsHandOf c.args.self.pool)) (sym c.part-inners.ensures.inners)
    (inners_own c.args.self c.args.hands.items c.requires.own)

pub resize_pool-requires-clause-every : goal.resize_pool-requires-clause-every
resize_pool-requires-clause-every g c = subst (λ (ns : List ℕ). HasAll ns (hands_of c.args.self))
    (sym (ap (λ (l : List (Hand g.row.R.Denot)). pool.numbers_of l) c.part-inners.ensures.inners
    ∙ inner_numbers c.args.hands.items)) c.requires.every

pub resize_pool-requires-clause-up : goal.resize_pool-requires-clause-up
resize_pool-requires-clause-up g c = subst (All WaitsNowhere) (sym c.part-inners.ensures.inners)
    (All-map WaitsNowhere in_pool c.args.hands.items (λ k d l. (get_or c.args.hands.items k d).up))

pub unite-requires-clause-fit : goal.unite-requires-clause-fit
unite-requires-clause-fit g c = fit_again c.args.hands.items c.part-inners.result.0.items c.in-Ok.inners.items
    c.part-inners.result.1.items c.part-inners.ensures.inners c.part-inners.ensures.shells
    (serve_resized c.args.self.pool c.in-Ok.pool c.part-inners.result.0.items c.in-Ok.inners.items c.args.depth
    c.in-Ok.ensures.ok)

pub unite-requires-clause-count : goal.unite-requires-clause-count
unite-requires-clause-count g c =
    let long = (serve_resized c.args.self.pool c.in-Ok.pool c.part-inners.result.0.items c.in-Ok.inners.items
    c.args.depth c.in-Ok.ensures.ok).count in
    let parts = ap (λ (l : List (Hand g.row.R.Denot)). length l) c.part-inners.ensures.inners in
    let hands = length-map c.args.hands.items in_pool in
    let numbers = enough (numbers_of c.args.hands.items) (hands_of c.args.self) c.requires.every in
    let mapped = length-map c.args.hands.items number_of in let count = c.args.self.as_many.2 in omega arith

pub unite-requires-in-Err-clause-fit : goal.unite-requires-in-Err-clause-fit
unite-requires-in-Err-clause-fit g c = fit_again c.args.hands.items c.part-inners.result.0.items
    c.in-Err.fault.hands.items c.part-inners.result.1.items c.part-inners.ensures.inners c.part-inners.ensures.shells
    (serve_unchanged c.part-inners.result.0.items c.in-Err.fault.hands.items c.in-Err.ensures.err.1)

pub unite-requires-in-Err-clause-count : goal.unite-requires-in-Err-clause-count
unite-requires-in-Err-clause-count g c =
    let long = c.in-Err.ensures.err.1.count in
    let parts = ap (λ (l : List (Hand g.row.R.Denot)). length l) c.part-inners.ensures.inners in
    let hands = length-map c.args.hands.items in_pool in
    let numbers = enough (numbers_of c.args.hands.items) (hands_of c.args.self) c.requires.every in
    let mapped = length-map c.args.hands.items number_of in let count = c.args.self.as_many.2 in omega arith

pub unite-requires-clause-room : goal.unite-requires-clause-room
unite-requires-clause-room g c =
    let long = (serve_resized c.args.self.pool c.in-Ok.pool c.part-inners.result.0.items c.in-Ok.inners.items
    c.args.depth c.in-Ok.ensures.ok).count in
    let parts = ap (λ (l : List (Hand g.row.R.Denot)). length l) c.part-inners.ensures.inners in
    let hands = length-map c.args.hands.items in_pool in let room = c.part-inners.ensures.room in omega arith

pub unite-requires-in-Err-clause-room : goal.unite-requires-in-Err-clause-room
unite-requires-in-Err-clause-room g c =
    let long = c.in-Err.ensures.err.1.count in
    let parts = ap (λ (l : List (Hand g.row.R.Denot)). length l) c.part-inners.ensures.inners in
    let hands = length-map c.args.hands.items in_pool in let room = c.part-inners.ensures.room in omega arith

pub invariant_of-queue : goal.invariant_of-queue
invariant_of-queue g c =
    let old = c.args.self in let same = c.rebatch.ensures in
    let callers = c.in-Ok.ensures.ok.ordinary.next.callers_is in
    record {
      batch_is = same.batch_is;
      narrow = c.wake_batch-batch.ensures.within;
      as_many = (
        ap (λ (l : Limits). l.tellers) same.limits ∙ old.as_many.0 ∙ sym callers,
        old.as_many.1 ∙ sym callers,
        c.unite.ensures.count ∙ old.as_many.2 ∙ sym callers,
      );
    }

pub invariant_of-queue-in-Err : goal.invariant_of-queue-in-Err
invariant_of-queue-in-Err g c = let old = c.args.self in
    let same = ap (λ (p : Pool g.row.R.Denot). tags.hands_of p) (sym c.in-Err.ensures.err.0) in record {
      batch_is = old.batch_is;
      narrow = old.narrow;
      as_many = (
        old.as_many.0 ∙ same,
        old.as_many.1 ∙ same,
        c.unite-in-Err.ensures.count ∙ old.as_many.2 ∙ same,
      );
    }

pub returns-in-Ok-clause-ok : goal.returns-in-Ok-clause-ok
returns-in-Ok-clause-ok g c =
    let old = c.args.self in let olds = c.args.hands.items in let news = c.unite.new.hands.items in
    let inners = c.part-inners.result.0.items in let shells = c.part-inners.result.1.items in
    let out = c.part-inners.ensures.inners in let rest = c.part-inners.ensures.shells in
    let next = c.in-Ok.pool in let moved = c.in-Ok.inners.items in let is = c.in-Ok.ensures.ok in
    let made = c.unite.ensures.inners in let kept = c.unite.ensures.shells in
    let serves = serve_resized old.pool next inners moved c.args.depth is in
    let batch = c.wake_batch-batch.ensures.value
    ∙ ap (λ (l : Layout). wake_batch l old.min_shallow) c.layout.ensures in
    record {
      pool = subst (λ (z : List (Hand g.row.R.Denot) × List (Hand g.row.R.Denot)).
          resizing.IsResized old.pool z.0 c.args.depth next z.1) (λ j. (out j, sym made j)) is;
      tellers = tellers_same olds inners moved shells out rest serves news made kept;
      waiters = waiters_same olds inners moved shells out rest serves news made kept;
      numbers = sym (inner_numbers news) ∙ ap (λ (l : List (Hand g.row.R.Denot)). pool.numbers_of l) made ∙ is.numbers
          ∙ ap (λ (l : List (Hand g.row.R.Denot)). pool.numbers_of l) out ∙ inner_numbers olds;
      own = own_again olds inners moved shells out rest serves news made kept old next c.rebatch.new.self old.groups
          c.requires.own c.rebatch.ensures.table refl is.own;
      rest = record {
        book = subst (λ (n : ℕ). Rebatches old.book c.rebatch.new.self n) batch c.rebatch.ensures;
        groups = refl;
        min_shallow = refl;
      };
    }

pub returns-in-Ok-clause-may : goal.returns-in-Ok-clause-may
returns-in-Ok-clause-may g c = λ ok. may_here c.args.self c.args.hands.items c.args.depth c.part-inners.result.0.items
    c.part-inners.ensures.inners c.count_standing-standing.result
    (c.count_standing-standing.ensures
    ∙ ap (λ (l : List (QueueHand g.row.R.Denot)). standing_count l) c.as_slice.ensures.value)
    (c.in-Ok.ensures.may refl)

pub returns-in-Ok-clause-balance : goal.returns-in-Ok-clause-balance
returns-in-Ok-clause-balance g c = balance_here c.args.self c.args.hands.items c.args.depth c.part-inners.result.0.items
    c.part-inners.ensures.inners c.resize_pool.ensures.balance

pub returns-in-Err-clause-cause : goal.returns-in-Err-clause-cause
returns-in-Err-clause-cause g c = refused_here c.args.self c.args.hands.items c.args.depth c.part-inners.result.0.items
    c.part-inners.ensures.inners c.count_standing-standing.result
    (c.count_standing-standing.ensures
    ∙ ap (λ (l : List (QueueHand g.row.R.Denot)). standing_count l) c.as_slice.ensures.value)
    c.in-Err.fault.cause c.in-Err.ensures.cause

pub returns-in-Err-clause-balance : goal.returns-in-Err-clause-balance
returns-in-Err-clause-balance g c = balance_here c.args.self c.args.hands.items c.args.depth
    c.part-inners.result.0.items c.part-inners.ensures.inners c.resize_pool.ensures.balance

pub returns-in-Err-clause-err : goal.returns-in-Err-clause-err
returns-in-Err-clause-err g c =
    let inners = c.part-inners.result.0.items in let moved = c.in-Err.fault.hands.items in
    let same = c.in-Err.ensures.err in (
      record { pool = same.0; book = refl; groups = refl; min_shallow = refl },
      unchanged_again c.args.hands.items inners moved c.part-inners.result.1.items c.part-inners.ensures.inners
          c.part-inners.ensures.shells (serve_unchanged inners moved same.1) c.unite-in-Err.new.hands.items
          c.unite-in-Err.ensures.inners c.unite-in-Err.ensures.shells same.1,
    )

pub returns-in-Err-clause-own : goal.returns-in-Err-clause-own
returns-in-Err-clause-own g c =
    let inners = c.part-inners.result.0.items in let moved = c.in-Err.fault.hands.items in
    own_again c.args.hands.items inners moved c.part-inners.result.1.items c.part-inners.ensures.inners
    c.part-inners.ensures.shells (serve_unchanged inners moved c.in-Err.ensures.err.1) c.unite-in-Err.new.hands.items
    c.unite-in-Err.ensures.inners c.unite-in-Err.ensures.shells c.args.self c.in-Err.fault.pool c.args.self.book
    c.args.self.groups c.requires.own refl refl c.in-Err.ensures.own
