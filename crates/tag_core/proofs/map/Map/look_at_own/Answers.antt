-- The caller's number is below 64.
use Rattle.tag_core.proofs.Uses.{refl}
use Rattle.tag_core.proofs.FewCallers.{few}
use Rattle.tag_core.proofs.map.Map.look_at_own.Goals as goal

pub look_at-requires-clause-within : goal.look_at-requires-clause-within
look_at-requires-clause-within g c = few c.args.self.now c.args.caller.now c.requires

pub returns-clause-own : goal.returns-clause-own
returns-clause-own g c = c.look_at.ensures.own refl
