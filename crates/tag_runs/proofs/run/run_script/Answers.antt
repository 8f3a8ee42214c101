-- An input that was read whole is within the size limit, so no later fault is `TooLong`, and the text is its output.
use Rattle.std.proofs.Common.{ℕ, ◌≤◌, List, length, subst, rules}
use Rattle.std.specs.Io.KnownBytes.{Appends}
use Rattle.tag_lines.specs.declared.lines.TheConstants.{MAX_INPUT}
use Rattle.tag_script.specs.Script.{Owed}
use Rattle.tag_runs.proofs.InputFacts.{stops_short}
use Rattle.tag_runs.proofs.run.run_script.Goals as goal

pub returns-in_default-clause-stopped : goal.returns-in_default-clause-stopped
returns-in_default-clause-stopped g c = search (rules, stops_short)

pub returns-clause-stopped : goal.returns-clause-stopped
returns-clause-stopped g c = search (rules, stops_short)

pub returns-in-Ok-write_all-clause-written : goal.returns-in-Ok-write_all-clause-written
returns-in-Ok-write_all-clause-written g c =
    let o = c.args.options.now in let bytes : List ℕ = c.in_ok-input.input.items in
    let text : List ℕ = c.in-Ok.text.items in
    let short : length bytes ≤ MAX_INPUT = search rules in
    let owed = subst (λ (s : List ℕ). Owed o s text c.in-Ok.ending) c.deref.ensures.value c.in-Ok.ensures in
    record {
      text = text;
      output = record { bytes = bytes; short = short; read = c.in_ok-input.ensures.whole; owed = owed };
      written = subst (Appends (g.W.Write.contents c.args.writer.now) (g.W.Write.contents c.write_all.new.self))
          c.deref-2.ensures.value
          c.in-Ok-write_all.ensures.bytes;
    }

pub returns-clause-answered : goal.returns-clause-answered
returns-clause-answered g c =
    let o = c.args.options.now in let bytes : List ℕ = c.in_ok-input.input.items in
    let text : List ℕ = c.in-Ok.text.items in
    let short : length bytes ≤ MAX_INPUT = search rules in
    let owed = subst (λ (s : List ℕ). Owed o s text c.in-Ok.ending) c.deref.ensures.value c.in-Ok.ensures in
    λ written. record {
      text = text;
      ending = c.in-Ok.ending;
      output = record { bytes = bytes; short = short; read = c.in_ok-input.ensures.whole; owed = owed };
    }
