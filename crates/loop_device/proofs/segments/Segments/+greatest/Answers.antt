-- The greatest stamp is the greater of the halves'.
use Rattle.std.proofs.Common.{arith}
use Rattle.loop_device.proofs.Halves.{node_sound, whole_node, greatest_node}
use Rattle.loop_device.proofs.segments.Segments.+greatest.Goals as goal

pub returns-then-end-width : goal.returns-then-end-width
returns-then-end-width t c =
    let a = c.args in let node = c.in-Node in
    whole_node a.width node.greatest node.low node.high a.self.now node.is c.requires.sound a.first a.end
    c.if-first-eq0.true c.if-end-width.true

pub greatest-above-requires : goal.greatest-above-requires
greatest-above-requires t c =
    let a = c.args in let node = c.in-Node in
    let halves = node_sound a.width node.greatest node.low node.high a.self.now node.is c.requires.sound in (
      omega (arith, halves.wide),
      (rw c.deref-in-Node.ensures halves.high_sound, omega (arith, c.saturating_sub-in-Node.ensures, c.requires.within)),
    )

pub returns-else-first-eq0 : goal.returns-else-first-eq0
returns-else-first-eq0 t c =
    let a = c.args in let node = c.in-Node in
    greatest_node a.width node.greatest node.low node.high a.self.now node.is c.requires.sound a.first a.end
    c.min.result c.min-in-Node.result c.saturating_sub.result c.saturating_sub-in-Node.result
    c.greatest-below.result c.greatest-above.result c.max.result
    c.min.ensures c.min-in-Node.ensures c.saturating_sub.ensures c.saturating_sub-in-Node.ensures c.max.ensures
    (rw c.deref.ensures at c.greatest-below.ensures) (rw c.deref-in-Node.ensures at c.greatest-above.ensures)
