-- Where nothing was left there is nothing to see to.
use Rattle.tag_pool.proofs.Uses.{arith, refl}
use Rattle.tag_model.proofs.HoldingFacts.{same_itself}
use Rattle.tag_pool.proofs.pool.Pool.look_after.Goals as goal

pub returns-then-left-eq0-clause-looks : goal.returns-then-left-eq0-clause-looks
returns-then-left-eq0-clause-looks g c = record {
  none = λ e. (refl, c.none.ensures);
  some = λ more. absurd (omega (arith, c.if-left-eq0.true));
  same = same_itself c.args.hand.now;
}
