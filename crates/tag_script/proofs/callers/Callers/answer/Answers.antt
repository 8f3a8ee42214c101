-- The slice that `clear_batch` takes has the tags of the command, so its outcome is that of the command.
use Rattle.tag_script.proofs.Uses.{List, ObeysBy, state_of, subst, sym, ℕ}
use Rattle.tag_board.specs.Replays.{ClearsList}
use Rattle.tag_lines.specs.declared.order.Command.{Command}
use Rattle.tag_script.proofs.callers.Callers.answer.Goals as goal

pub returns-in-ClearBatch : goal.returns-in-ClearBatch
returns-in-ClearBatch g c =
    let caller = c.args.caller in let old = state_of c.args.self.now.board in
    let new = state_of c.clear_batch.new.self in
    let cleared = subst (λ (tags : List ℕ). ClearsList tags caller old c.clear_batch.result new) c.as_slice.ensures
    c.clear_batch.ensures in
    subst (λ (command : Command). ObeysBy caller command old c.to_clear-in-ClearBatch.result new)
    (sym c.in-ClearBatch.is)
    (c.clear_batch.result, cleared, c.to_clear-in-ClearBatch.ensures)
