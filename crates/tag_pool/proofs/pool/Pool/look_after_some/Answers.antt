-- The hand sees to as many tags as the get left free, up to 64.
use Rattle.tag_pool.proofs.Uses.{arith, Changes, max, subst, ℕ}
use Rattle.tag_pool.specs.Sides.{see_to_steps, SeesToAndWakes}
use Rattle.tag_pool.proofs.pool.Pool.look_after_some.Goals as goal

pub returns-clause-looks : goal.returns-clause-looks
returns-clause-looks g c = record {
  none = λ e. absurd (omega (arith, c.requires.some));
  some = λ more. subst
      (λ (m : ℕ). Changes c.args.kind (SeesToAndWakes (max m 1) see_to_steps c.wake.result) c.args.hand.now c.wake.new.hand)
      c.min.ensures c.wake.ensures.wakes;
  same = c.wake.ensures.same;
}
