-- The look that follows is for as many tags as the get left free.
use Rattle.tag_pool.proofs.Uses.{Kind, LooksAfter, subst, ℕ}
use Rattle.tag_pool.proofs.pool.Pool.get_exactly.Goals as goal

pub returns-clause-gets : goal.returns-clause-gets
returns-clause-gets g c = record {
  searched = c.get_exactly_quietly.new.hand;
  gets = c.in_ok-answer.ensures.does.gets;
  looks = subst (λ (x : Kind × ℕ). LooksAfter x.0 x.1 c.look_after-woken.result c.get_exactly_quietly.new.hand
      c.look_after-woken.new.hand) (λ j. (c.kind.ensures j, c.in_ok-answer.ensures.does.left j))
      c.look_after-woken.ensures.looks;
}
