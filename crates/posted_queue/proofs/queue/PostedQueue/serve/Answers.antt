-- A take that is refused tells that the tag is not posted.
use Rattle.posted_queue.proofs.Skipping.{skipped}
use Rattle.posted_queue.proofs.queue.PostedQueue.serve.Goals as goal

pub returns-in-Err-clause-serves : goal.returns-in-Err-clause-serves
returns-in-Err-clause-serves g c = record {
  leaves = c.pop_number-tag.ensures.leaves;
  assigns = c.assign_token.ensures.assigns;
  posts = c.in-Ok.ensures.does.posts;
  comes = skipped c.args.pool.now c.pop_number-tag.result c.in-Err.field-0 c.args.hand.now c.take.new.hand
      c.in-Err.ensures.does.no_such_tag c.in-Err.ensures.does.refuses;
}
