-- A reserved tag is counted nowhere and wakes nobody.
use Rattle.std.specs.Prelude.{◌+◌, ◌≡◌}
use Rattle.tag_queue.proofs.Uses.{arith, Counts, Hand, Kind, refl, subst, sym, waiter_of, ◌∙◌}
use Rattle.tag_pool.specs.Clears.{Clears}
use Rattle.tag_pool.specs.Hands.{back_of}
use Rattle.tag_queue.proofs.WokenByCharges.{counts_after}
use Rattle.tag_queue.proofs.Granted.{none_granted}
use Rattle.tag_queue.proofs.StillUp.{clear_up}
use Rattle.tag_queue.proofs.queue.Queue.clear_held.Goals as goal

pub invariant_of-hand-clause-up : goal.invariant_of-hand-clause-up
invariant_of-hand-clause-up g c = let hand = c.args.hand.now in let call = c.clear_held_quietly in
    clear_up c.args.self.now.pool c.args.tag hand.inner call.new.hand call.ensures.clears hand.up

pub complete-requires-clause-came_back : goal.complete-requires-clause-came_back
complete-requires-clause-came_back g c = let counts = c.args.hand.now.counts in
    let back = subst (λ (k : Kind). back_of c.clear_held_quietly.new.hand k ≡ back_of c.args.hand.now.inner k + 1)
    (sym c.kind.ensures ∙ c.in-Ordinary.is) c.clear_held_quietly.ensures.back in omega arith

pub returns-in-Reserved-clause-tells : goal.returns-in-Reserved-clause-tells
returns-in-Reserved-clause-tells g c = let waiter = waiter_of c.args.hand.now in
    c.nobody.ensures.tells waiter waiter (none_granted waiter)

pub returns-in-Ordinary-clause-clears : goal.returns-in-Ordinary-clause-clears
returns-in-Ordinary-clause-clears g c =
    subst (λ (h : Hand g.row.R.Denot). Clears c.args.self.now.pool c.args.tag c.args.hand.now.inner h)
    (sym c.complete.ensures.others) c.clear_held_quietly.ensures.clears

pub returns-in-Ordinary-clause-counts : goal.returns-in-Ordinary-clause-counts
returns-in-Ordinary-clause-counts g c = let new = c.complete.new.hand in let woken = g.W.Waking.woken c.complete.result in
    subst (λ (k : Kind). Counts c.args.self.now k 1 c.args.hand.now new woken) (sym c.in-Ordinary.is ∙ c.kind.ensures)
    (counts_after c.args.self.now 1 c.args.hand.now _ new woken (refl, refl) c.complete.ensures.counts)
