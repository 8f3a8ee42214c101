-- The bytes read before the last piece are a prefix of the input, and the piece follows them.
use Rattle.std.proofs.Common.{take, arith}
use Rattle.tag_runs.specs.declared.fault.RunFault.TheVariants.{Memory}
use Rattle.tag_runs.proofs.InputFacts.{consumes_once, reads_both, stops_long, stops_short}
use Rattle.tag_runs.proofs.input.read_whole.Goals as goal

-- the last read gave nothing, so the input is at its end
pub returns-then-count-eq0-clause-read : goal.returns-then-count-eq0-clause-read
returns-then-count-eq0-clause-read g c = record {
  consumed = consumes_once (g.R.Read.remaining c.args.reader.now) (g.R.Read.remaining c.loop-count.reader)
      (g.R.Read.remaining c.fetch.new.self) c.loop-count.input.items (take c.in-Ok.count c.fetch.new.buf)
      c.loop-count.invariant.read c.in-Ok.ensures.bytes.0 (omega (arith, c.in-Ok.ensures.bound.1, c.if-count-eq0.true));
  short = omega (arith, c.loop-count.invariant.short, c.loop-count.input.ok.0);
}

-- the last piece exceeds the size limit
pub returns-then-count-len-clause-stopped : goal.returns-then-count-len-clause-stopped
returns-then-count-len-clause-stopped g c =
    stops_long (g.R.Read.remaining c.args.reader.now) (g.R.Read.remaining c.loop-count.reader)
    (g.R.Read.remaining c.fetch.new.self) c.loop-count.input.items (take c.in-Ok.count c.fetch.new.buf)
    c.loop-count.invariant.read c.in-Ok.ensures.bytes.0
    (omega (
      arith,
      c.if-count-len.true,
      c.len.ensures,
      c.loop-count.invariant.short,
      c.loop-count.input.ok.0,
      c.in-Ok.ensures.bound.1,
    ))

-- the last piece is within the size limit, so the fault is memory
pub returns-then-is_err-clause-stopped : goal.returns-then-is_err-clause-stopped
returns-then-is_err-clause-stopped g c =
    let before = g.R.Read.remaining c.args.reader.now in let after = g.R.Read.remaining c.fetch.new.self in
    let reads = reads_both before (g.R.Read.remaining c.loop-count.reader) after c.loop-count.input.items
    (take c.in-Ok.count c.fetch.new.buf) c.loop-count.invariant.read c.in-Ok.ensures.bytes.0
    (omega (
      arith,
      c.if-count-len.false,
      c.len.ensures,
      c.loop-count.invariant.short,
      c.loop-count.input.ok.0,
      c.in-Ok.ensures.bound.1,
    )) in
    stops_short Memory before after _ reads (λ e. cc)
