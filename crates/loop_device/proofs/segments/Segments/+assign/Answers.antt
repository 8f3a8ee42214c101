-- Each half is assigned the stamp as far as the sectors reach into it.
use Rattle.std.proofs.Common.{arith}
use Rattle.loop_device.proofs.Halves.{node_sound, low_split, high_split}
use Rattle.loop_device.proofs.segments.Segments.+assign.Goals as goal

pub assign-requires : goal.assign-requires
assign-requires t c =
    let a = c.args in let node = c.in-Node in let n = a.self.now in
    let halves = node_sound a.width node.greatest node.low node.high n node.is c.requires.sound in
    let split = low_split a.width node.greatest node.low node.high n node.is c.requires.sound in (
      omega (arith, halves.wide),
      rw c.deref_mut.ensures.value (
        halves.low_sound,
        (
          omega (arith, c.min-in-Node.ensures),
          (
            split a.first c.min.result c.min.ensures c.requires.first,
            split a.end c.min-in-Node.result c.min-in-Node.ensures c.requires.end,
          ),
        ),
      ),
    )

pub assign-requires-in-Node : goal.assign-requires-in-Node
assign-requires-in-Node t c =
    let a = c.args in let node = c.in-Node in let n = a.self.now in
    let halves = node_sound a.width node.greatest node.low node.high n node.is c.requires.sound in
    let split = high_split a.width node.greatest node.low node.high n node.is c.requires.sound in (
      omega (arith, halves.wide),
      rw c.deref_mut-in-Node.ensures.value (
        halves.high_sound,
        (
          omega (arith, c.saturating_sub-in-Node.ensures, c.requires.within),
          (
            split a.first c.saturating_sub.result c.saturating_sub.ensures c.requires.first,
            split a.end c.saturating_sub-in-Node.result c.saturating_sub-in-Node.ensures c.requires.end,
          ),
        ),
      ),
    )
