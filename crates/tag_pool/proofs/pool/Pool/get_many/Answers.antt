-- The look that follows is for as many tags as the gets left free and the hand gave back.
use Rattle.tag_pool.proofs.pool.Pool.get_many.Goals as goal

pub returns-clause-gets : goal.returns-clause-gets
returns-clause-gets g c = record {
  searched = c.get_many_quietly.new.hand;
  left = _;
  gets = c.in_ok-answer.ensures.does.gets;
  looks = c.look_after-woken.ensures.looks;
}
