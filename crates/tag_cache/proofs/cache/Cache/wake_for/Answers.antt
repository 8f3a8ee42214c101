-- Where nothing was given back, nothing changes.
use Rattle.std.proofs.Common.{arith, refl}
use Rattle.tag_cache.proofs.cache.Cache.wake_for.Goals as goal

pub returns-then-freed-eq0-clause-wakes : goal.returns-then-freed-eq0-clause-wakes
returns-then-freed-eq0-clause-wakes g c = record {
  none = λ zero. (c.none.ensures, refl);
  some = λ more. absurd (let zero = c.if-freed-eq0.true in omega arith);
}

pub returns-clause-wakes : goal.returns-clause-wakes
returns-clause-wakes g c = record {
  none = λ zero. absurd (c.if-freed-eq0.false zero);
  some = λ more. c.wake.ensures.wakes;
}
