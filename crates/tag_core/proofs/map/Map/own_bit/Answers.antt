-- The bit is that of the caller's number, which is below 64.
use Rattle.std.proofs.lemmas.Nat.{one_shl}
use Rattle.tag_core.proofs.FewCallers.{few}
use Rattle.tag_core.proofs.map.Map.own_bit.Goals as goal

pub overflow_shl-result : goal.overflow_shl-result
overflow_shl-result g c = few c.args.self.now c.args.caller.now c.requires

pub returns : goal.returns
returns g c = one_shl c.args.caller.now.number 64 (few c.args.self.now c.args.caller.now c.requires)
