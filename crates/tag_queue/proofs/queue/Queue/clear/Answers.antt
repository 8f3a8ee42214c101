-- A refusal by the pool leaves the hand as it was; a reserved tag is counted nowhere and wakes nobody.
use Rattle.std.specs.Prelude.{◌+◌, ◌≡◌}
use Rattle.tag_queue.proofs.Uses.{arith, Counts, Hand, Kind, refl, subst, sym, waiter_of, ◌∙◌}
use Rattle.tag_pool.specs.Clears.{Clears}
use Rattle.tag_pool.specs.Hands.{back_of}
use Rattle.tag_queue.proofs.WokenByCharges.{counts_after}
use Rattle.tag_queue.proofs.Granted.{none_granted}
use Rattle.tag_queue.proofs.PassedOn.{passed_on}
use Rattle.tag_queue.proofs.SameParts.{same_hand}
use Rattle.tag_queue.proofs.StillUp.{clears_up}
use Rattle.tag_queue.proofs.queue.Queue.clear.Goals as goal

pub invariant_of-hand-clause-up : goal.invariant_of-hand-clause-up
invariant_of-hand-clause-up g c = let hand = c.args.hand.now in let call = c.clear_quietly in
    clears_up c.args.self.now.pool hand.inner call.new.hand c.args.tag call.result call.ensures.does hand.up

pub complete-requires-clause-came_back : goal.complete-requires-clause-came_back
complete-requires-clause-came_back g c = let counts = c.args.hand.now.counts in
    let back = subst (λ (k : Kind). back_of c.clear_quietly.new.hand k ≡ back_of c.args.hand.now.inner k + 1)
    c.in-Ordinary.is c.in_ok-clear_quietly.ensures.does.back in omega arith

pub returns-in_err-clear_quietly-clause-refusals : goal.returns-in_err-clear_quietly-clause-refusals
returns-in_err-clear_quietly-clause-refusals g c = let refusals = c.in_err-clear_quietly.ensures.does.refusals in
    passed_on _ _ c.from_residual.result _ c.from_residual.ensures.1 refusals.first
    (same_hand c.args.hand.now c.clear_quietly.new.hand refusals.same _ _ _ _)

pub returns-in-Reserved-clause-tells : goal.returns-in-Reserved-clause-tells
returns-in-Reserved-clause-tells g c = let waiter = waiter_of c.args.hand.now in
    c.nobody.ensures.tells waiter waiter (none_granted waiter)

pub returns-in-Ordinary-clause-clears : goal.returns-in-Ordinary-clause-clears
returns-in-Ordinary-clause-clears g c =
    subst (λ (h : Hand g.row.R.Denot). Clears c.args.self.now.pool c.args.tag c.args.hand.now.inner h)
    (sym c.complete.ensures.others) c.in_ok-clear_quietly.ensures.does.clears

pub returns-in-Ordinary-clause-counts : goal.returns-in-Ordinary-clause-counts
returns-in-Ordinary-clause-counts g c = let new = c.complete.new.hand in let woken = g.W.Waking.woken c.complete.result in
    subst (λ (k : Kind). Counts c.args.self.now k 1 c.args.hand.now new woken)
    (sym c.in-Ordinary.is ∙ c.in_ok-clear_quietly.ensures.does.kind)
    (counts_after c.args.self.now 1 c.args.hand.now _ new woken (refl, refl) c.complete.ensures.counts)
