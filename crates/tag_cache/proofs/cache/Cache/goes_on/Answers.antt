-- The same tags are kept, or they have to go back.
use Rattle.tag_cache.proofs.Uses.{LeavesNone, refl}
use Rattle.tag_cache.proofs.Carrying.{not_true, same_fields}
use Rattle.tag_cache.proofs.cache.Cache.goes_on.Goals as goal

pub returns-clause-on : goal.returns-clause-on
returns-clause-on g c = λ yes. record {
  more = not_true c.leaves_none.result (LeavesNone c.args.left c.args.self.now) c.leaves_none.ensures
      c.if-leaves_none.false;
  same = record { hand = refl; kept = same_fields c.args.self.now _ refl refl refl refl refl };
  knows = λ other. ((λ l. l), (λ l. l));
}
