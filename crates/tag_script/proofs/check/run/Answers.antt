-- The event that was looked at is the one that stops the run.
use Rattle.tag_script.proofs.Uses.{Layout, StopsAt, subst}
use Rattle.tag_model.specs.Kept.{callers_of, world_of}
use Rattle.tag_script.proofs.CheckFacts.{stopped_at}
use Rattle.tag_script.proofs.check.run.Goals as goal

pub returns-in-Err : goal.returns-in-Err
returns-in-Err c =
    let w = c.args.world.now in
    stopped_at c.args.layout (callers_of w) (world_of w) c.args.events.now c.in-Err.index c.wrong_word-word.result
    c.in-Err.fault _
    (subst (λ (l : Layout). StopsAt l (callers_of w) (world_of w) c.args.events.now c.in-Err.index c.in-Err.fault)
    c.requires c.in-Err.ensures.fault)
    c.wrong_word-word.ensures
