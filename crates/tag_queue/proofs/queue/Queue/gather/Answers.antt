-- A missing number is reported before anything is closed.
use Rattle.std.specs.Prelude.{◌↔◌, ◌≡◌}
use Rattle.tag_queue.proofs.Uses.{false, subst, true, ℕ}
use Rattle.step_ledger.specs.Gather.{HasAll}
use Rattle.tag_queue.specs.Hands.{numbers_of}
use Rattle.tag_queue.proofs.queue.Queue.gather.Goals as goal

pub returns-in-Err-clause-succeeds : goal.returns-in-Err-clause-succeeds
returns-in-Err-clause-succeeds g c = subst (λ (n : ℕ). (false ≡ true) ↔ HasAll (numbers_of c.args.hands.items) n)
    c.hand_count.ensures c.in-Err.ensures.succeeds
