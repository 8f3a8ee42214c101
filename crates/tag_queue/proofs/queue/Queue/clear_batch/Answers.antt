-- A refusal by the pool leaves the hand as it was; what follows the clear is said of the hand before it too.
use Rattle.tag_queue.proofs.Uses.{Hand, length, refl, subst, sym}
use Rattle.tag_pool.specs.Batches.{GivesBack}
use Rattle.tag_queue.proofs.WokenByCharges.{counts_after}
use Rattle.tag_queue.proofs.PassedOn.{passed_on}
use Rattle.tag_queue.proofs.SameParts.{same_hand}
use Rattle.tag_queue.proofs.StillUp.{batch_up}
use Rattle.tag_queue.proofs.queue.Queue.clear_batch.Goals as goal

pub invariant_of-hand-clause-up : goal.invariant_of-hand-clause-up
invariant_of-hand-clause-up g c = let hand = c.args.hand.now in let call = c.clear_batch_quietly in
    batch_up c.args.self.now.pool hand.inner call.new.hand c.args.tags.now call.result call.ensures.does hand.up

pub returns-in_err-clear_batch_quietly-clause-refusals : goal.returns-in_err-clear_batch_quietly-clause-refusals
returns-in_err-clear_batch_quietly-clause-refusals g c =
    let refusals = c.in_err-clear_batch_quietly.ensures.does.refusals in
    passed_on _ _ c.from_residual.result _ c.from_residual.ensures.1 refusals.first
    (same_hand c.args.hand.now c.clear_batch_quietly.new.hand refusals.same _ _ _ _)

pub returns-clause-gives : goal.returns-clause-gives
returns-clause-gives g c =
    subst (λ (h : Hand g.row.R.Denot). GivesBack c.args.self.now.pool c.args.tags.now c.args.hand.now.inner h)
    (sym c.complete.ensures.others) c.in_ok-clear_batch_quietly.ensures.does.gives

pub returns-clause-counts : goal.returns-clause-counts
returns-clause-counts g c = counts_after c.args.self.now (length c.args.tags.now) c.args.hand.now _ c.complete.new.hand
    (g.W.Waking.woken c.complete.result) (refl, refl) c.complete.ensures.counts
