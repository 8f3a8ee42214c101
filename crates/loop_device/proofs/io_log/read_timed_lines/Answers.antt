-- Each line goes from the rest to what is read, or is the first faulty one.
use Rattle.loop_device.proofs.Uses.{ap, arith, common_steps, FailsTimed, length, lines_of, progress_of, ReadsTimed, rules, subst}
use Rattle.std.proofs.Common.{◌≤◌}
use Rattle.std.specs.Prelude.{IfErr}
use Rattle.loop_device.proofs.LogFacts.{no_lines}
use Rattle.loop_device.proofs.TimedFacts.{IsTimedTo, timed_begun, timed_on, timed_faulty_in, timed_finished}
use Rattle.loop_device.proofs.io_log.read_timed_lines.Goals as goal

pub loop-rest-init : goal.loop-rest-init
loop-rest-init c = record {
  read = timed_begun (lines_of c.args.body.now) (progress_of c.new-reader.result.reader) c.new-reader.result.last
      c.new-reader.ensures.first c.new-reader.ensures.last;
  room = omega (arith, ap (λ p. p.number) c.new-reader.ensures.first);
}

pub loop-rest-preserved : goal.loop-rest-preserved
loop-rest-preserved c =
    let old = c.loop-rest.reader in let lines = lines_of c.args.body.now in let line = c.cut_line.result.0.now in
    let reads : ReadsTimed old line c.read.new.self = search rules in record {
      read = timed_on lines old c.read.new.self line (lines_of c.cut_line.result.1.now)
          (subst (IsTimedTo lines (progress_of old.reader) old.last) c.cut_line.ensures.lines c.loop-rest.invariant.read)
          reads;
      room = omega (arith, reads.reads.number, c.cut_line.ensures.shorter, c.loop-rest.invariant.room);
    }

pub returns-in_err-read-clause-fault : goal.returns-in_err-read-clause-fault
returns-in_err-read-clause-fault c =
    let old = c.loop-rest.reader in let lines = lines_of c.args.body.now in let line = c.cut_line.result.0.now in
    let told : IfErr c.from_residual.result (FailsTimed old line) = search rules in
    timed_faulty_in lines old line (lines_of c.cut_line.result.1.now) c.from_residual.result
    (subst (IsTimedTo lines (progress_of old.reader) old.last) c.cut_line.ensures.lines c.loop-rest.invariant.read) told

pub returns-clause-log : goal.returns-clause-log
returns-clause-log c =
    let old = c.loop-rest.reader in let lines = lines_of c.args.body.now in
    let none : length c.loop-rest.rest.now ≤ 0 = first_of (search rules, grind (arith, common_steps)) in
    timed_finished lines (progress_of old.reader) old.last c.log.result
    (subst (IsTimedTo lines (progress_of old.reader) old.last) (no_lines c.loop-rest.rest.now none)
    c.loop-rest.invariant.read) c.log.ensures.names c.log.ensures.ios c.log.ensures.waits
