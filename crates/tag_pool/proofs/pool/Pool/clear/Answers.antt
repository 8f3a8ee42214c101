-- Those told are told after the tag was set aside, which was all that the hand lost.
use Rattle.std.specs.Prelude.{◌+◌, ◌≡◌}
use Rattle.tag_pool.proofs.Uses.{back_of, Changes, Kind, subst, ◌∙◌}
use Rattle.tag_model.proofs.HoldingFacts.{less_then_same}
use Rattle.tag_pool.specs.Sides.{see_to_steps, SeesToAndWakes}
use Rattle.tag_pool.proofs.pool.Pool.clear.Goals as goal

pub returns-clause-wakes : goal.returns-clause-wakes
returns-clause-wakes g c = let old = c.args.hand.now in let between = c.clear_quietly.new.hand in
    let does = c.in_ok-kind.ensures.does in let new = c.wake.new.hand in let wake = c.wake.ensures in record {
      between = between;
      clears = does.clears;
      wakes = subst (λ (k : Kind). Changes k (SeesToAndWakes 1 see_to_steps c.wake.result) between new) does.kind wake.wakes;
      less = less_then_same does.clears.less wake.same;
      back = subst (λ (k : Kind). back_of new k ≡ back_of old k + 1) does.kind (wake.back ∙ does.back);
    }
