-- The look that follows is for as many tags as the get left free.
use Rattle.tag_pool.proofs.Uses.{LooksAfter, Ordinary, subst, ℕ}
use Rattle.tag_pool.proofs.pool.Pool.get.Goals as goal

pub returns-clause-gets : goal.returns-clause-gets
returns-clause-gets g c = record {
  searched = c.get_quietly.new.hand;
  gets = c.in_ok-answer.ensures.does.gets;
  looks = subst (λ (n : ℕ). LooksAfter Ordinary n c.look_after-woken.result c.get_quietly.new.hand c.look_after-woken.new.hand)
      c.in_ok-answer.ensures.does.left c.look_after-woken.ensures.looks;
}
