-- Each line goes from the rest to what is read.
use Rattle.loop_device.proofs.Uses.{arith, lines_of, progress_of, ReadsLine, rules, subst}
use Rattle.loop_device.proofs.LogFacts.{IsReadTo, read_on}
use Rattle.loop_device.proofs.io_log.read_lines.Goals as goal

pub loop-rest-preserved : goal.loop-rest-preserved
loop-rest-preserved c =
    let old = progress_of c.loop-rest.reader in let new = progress_of c.read.new.self in
    let line = c.cut_line.result.0.now in let lines = lines_of c.args.body.now in
    let reads : ReadsLine old line new = search rules in record {
      read = read_on lines old new line (lines_of c.cut_line.result.1.now)
          (subst (IsReadTo lines old) c.cut_line.ensures.lines c.loop-rest.invariant.read) reads;
      room = omega (arith, reads.number, c.cut_line.ensures.shorter, c.loop-rest.invariant.room);
    }
