-- The status is that of what the run returned.
use Rattle.std.proofs.Common.{ℕ, map, sym, subst, ap}
use Rattle.tagplay.specs.Ends.{EndsWith}
use Rattle.tagplay.proofs.Ending.{ends}
use Rattle.tagplay.proofs.command_line.answer.Goals as goal

pub returns-clause-ends : goal.returns-clause-ends
returns-clause-ends g c =
    let words = map g.S.AsStr.text c.args.words.now in
    let given = g.R.Read.remaining c.args.reader.now in
    let left = g.R.Read.remaining c.run-outcome.new.reader in
    let before = g.W.Write.contents c.args.writer.now in
    let after = g.W.Write.contents c.run-outcome.new.writer in
    let e = c.run-outcome.ensures in
    subst (λ (status : ℕ). EndsWith words given left before after status) (sym c.end.ensures)
    (ends words given left before after c.run-outcome.result e.written
    (λ status is. let r = e.refused status is in (r.0, ap g.R.Read.remaining r.1, ap g.W.Write.contents r.2))
    e.begun e.stopped (λ fault is ne. ap g.W.Write.contents (e.untouched fault is ne)) e.answered)
