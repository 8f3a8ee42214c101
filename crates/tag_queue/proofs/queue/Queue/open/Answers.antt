-- The pool refuses in its own order, and then the queue does; otherwise its hands are those of the new pool.
use Rattle.std.specs.Prelude.{◌≡◌}
use Rattle.tag_queue.proofs.Uses.{ap, Pool, ◌∙◌}
use Rattle.std.proofs.lemmas.Result.{IfOk-weaker}
use Rattle.tag_pool.specs.Hands.{fill_of}
use Rattle.tag_pool.specs.Opening as pool
use Rattle.tag_queue.specs.Hands.{all_in_pool, pool_of}
use Rattle.tag_queue.specs.Opening.{HasCounts, IsOpen}
use Rattle.tag_queue.proofs.Opened.{both_ok, fresh_hands, opens}
use Rattle.tag_queue.proofs.OpenRefusals.{refuses_early, refuses_late}
use Rattle.tag_queue.proofs.queue.Queue.open.Goals as goal

pub over-requires : goal.over-requires
over-requires g c = record {
  fresh = fresh_hands pool.HasFirstHints c.args.options c.in-Ok.pool c.in-Ok.hands.items c.in-Ok.ensures.ok;
}

pub returns-in-Ok-clause-ok : goal.returns-in-Ok-clause-ok
returns-in-Ok-clause-ok g c = let made = c.over.ensures in let new = c.in-Ok in
    both_ok c.over.result (λ q. (pool_of q.0 ≡ new.pool) × (all_in_pool q.1.items ≡ new.hands.items))
    (λ q. HasCounts c.args.options c.args.cap q.0 q.1.items)
    (λ q. IsOpen c.args.options c.args.cap q.0 q.1.items)
    (λ q parts counts. opens pool.HasFirstHints c.args.options new.pool new.hands.items new.ensures.ok c.args.cap q.0
    q.1.items parts.0 parts.1 counts) made.pool made.counts

pub returns-in-Ok-clause-fill : goal.returns-in-Ok-clause-fill
returns-in-Ok-clause-fill g c = let new = c.in-Ok in
    IfOk-weaker c.over.result (λ q. (pool_of q.0 ≡ new.pool) × (all_in_pool q.1.items ≡ new.hands.items))
    (λ q. fill_of (pool_of q.0) ≡ c.args.fill)
    (λ q parts. ap (λ (p : Pool g.row.R.Denot). fill_of p) parts.0 ∙ new.ensures.fill) c.over.ensures.pool

pub returns-in-Ok-clause-refusals : goal.returns-in-Ok-clause-refusals
returns-in-Ok-clause-refusals g c = refuses_late c.args.options c.args.cap c.over.result c.in-Ok.ensures.refusals.passes
    c.over.ensures.cap c.over.ensures.refusals

pub returns-in-Err-clause-refusals : goal.returns-in-Err-clause-refusals
returns-in-Err-clause-refusals g c = record {
  first = refuses_early c.args.options c.args.cap c.in-Err.fault c.refusal.result c.in-Err.ensures.refusals.first
      c.refusal.ensures;
  passes = tt;
}
