-- A hand without a cache keeps none, so there is nothing to see to.
use Rattle.tag_c.proofs.Uses.{Bare, pos, refl}
use Rattle.tag_c.specs.Telling.{TellsOfKept}
use Rattle.tag_c.proofs.Endings.{ends_alone}
use Rattle.tag_c.proofs.flush.MemberFlushCalls.flush.Goals as goal

pub returns : goal.returns
returns c = (
  refl,
  record {
    freed = 0;
    between = Bare c.args.self.now.hand;
    flushes = (refl, refl);
    ends = ends_alone (TellsOfKept 0) (pos 0) (refl, refl);
  },
)
