-- A 1 in the mask sets exactly one bit of the list, at its own place, and a 0 changes nothing.
use Rattle.std.proofs.Common.{arith}
use Rattle.tag_pool.proofs.Marking.{turn-one, turn-zero}
use Rattle.tag_pool.proofs.looks.marks.mark.Goals as goal
use Rattle.tag_pool.proofs.looks.marks.mark.Goals.{then-mask-place-ne0, else-mask-place-ne0}

pub loop-place-preserved : goal.loop-place-preserved
loop-place-preserved c =
    let mid = c.loop-place.into in let inv = c.loop-place.invariant in let on = c.loop-place-test.true in
    let width = c.requires.width in let room = c.requires.room in let same = inv.room in
    elim c.if-mask-place-ne0.branch [
      | then-mask-place-ne0 w ↦
          let t = turn-one 64 (omega arith) c.args.first c.loop-place.place c.args.mask c.args.into.now mid _
          (omega arith) inv.room inv.marks w.if-mask-place-ne0.true (omega arith) w.into-is in
          record { room = t.0; marks = t.1 }
      | else-mask-place-ne0 w ↦
          let t = turn-zero 64 (omega arith) c.args.first c.loop-place.place c.args.mask c.args.into.now mid _
          (omega arith) inv.room inv.marks w.if-mask-place-ne0.false w.into-is in
          record { room = t.0; marks = t.1 }
    ]
