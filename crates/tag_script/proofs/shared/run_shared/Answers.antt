-- A run on the callers' board is a run on its states, since each answer on the board is one on its states.
use Rattle.tag_script.proofs.Uses.{ap, AreSharedTotals, IsRun, List, ObeysShared, Order, state_of, subst, ℕ}
use Rattle.tag_board.specs.States.{State}
use Rattle.tag_script.proofs.RunFacts.{run_as}
use Rattle.tag_script.proofs.shared.run_shared.Goals as goal

pub returns-in-Ok-clause-told : goal.returns-in-Ok-clause-told
returns-in-Ok-clause-told g c =
    let orders : List Order = c.args.orders.now in let text : List ℕ = c.in-Ok.text.items in
    let told = run_as ObeysShared AreSharedTotals (λ p. state_of p.board) c.new.result orders text c.in-Ok.ensures in
    record {
      first = state_of c.in_ok-board.board;
      allowed = c.in_ok-board.ensures.allowed;
      new = c.in_ok-board.ensures.new;
      run = subst (λ (s : State). IsRun ObeysShared AreSharedTotals s orders text) (ap state_of c.new.ensures)
          told;
    }
