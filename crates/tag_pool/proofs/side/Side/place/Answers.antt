-- The hand's number is below 64, so its part begins below 2^32.
use Rattle.std.specs.Prelude.{◌*◌, ◌≤◌}
use Rattle.std.proofs.Math.Nat.{div-le_self}
use Rattle.std.proofs.lemmas.Nat.{mul-le}
use Rattle.tag_pool.proofs.Uses.{arith}
use Rattle.tag_core.proofs.FewCallers.{few}
use Rattle.tag_pool.proofs.side.Side.place.Goals as goal

pub overflow_cast-self : goal.overflow_cast-self
overflow_cast-self g c =
    let low = few c.args.map.now c.args.self.now.caller c.requires.side in let number = c.args.self.now.numbers in
    let depth = c.depth.ensures.bound in let wide = c.from-depth.ensures in let same = c.from.ensures in
    let most : c.from.result * c.from-depth.result ≤ 64 * 10240 =
    mul-le c.from.result c.from-depth.result 64 10240 (omega arith) (omega arith) in
    let less = div-le_self (c.from.result * c.from-depth.result) c.from-2.result in omega arith
