-- The line is a time and what stands behind it.
use Rattle.std.proofs.Common.{◌≡◌, ◌^◌, ◌∷◌, true, false, None, nat_lt, sym, ◌∙◌, rules, arith}
use Rattle.tag_lines.specs.Lines.{has_gap, number_below, parts_of}
use Rattle.loop_device.proofs.TimedWords.{timed_says, word_full}
use Rattle.loop_device.proofs.timed_reader.behind_time.Goals as goal

pub returns-in-None-number-clause-err : goal.returns-in-None-number-clause-err
returns-in-None-number-clause-err c names number =
    let full : has_gap (parts_of c.args.line.now) ≡ false = search rules in
    let cut : parts_of c.args.line.now ≡ c.cut_word.result.0.now ∷ parts_of c.in-Some.plain.now = search rules in
    let spelt : number_below (2 ^ 64) c.cut_word.result.0.now ≡ None = sym c.number.ensures ∙ c.in-None-number.is in
    timed_says c.args.line.now c.cut_word.result.0.now c.in-Some.plain.now full cut c.args.last names number ∙ rw spelt

pub returns-then-time-last-clause-err : goal.returns-then-time-last-clause-err
returns-then-time-last-clause-err c names number =
    let full : has_gap (parts_of c.args.line.now) ≡ false = search rules in
    let cut : parts_of c.args.line.now ≡ c.cut_word.result.0.now ∷ parts_of c.in-Some.plain.now = search rules in
    let spelt = sym c.number.ensures ∙ c.in-Some-number.is in
    let early : nat_lt c.in-Some-number.time c.args.last ≡ true = search (rules, c.if-time-last.true) in
    timed_says c.args.line.now c.cut_word.result.0.now c.in-Some.plain.now full cut c.args.last names number
    ∙ rw (spelt, early)

pub returns-clause-ok : goal.returns-clause-ok
returns-clause-ok c =
    let full : has_gap (parts_of c.args.line.now) ≡ false = search rules in
    let cut : parts_of c.args.line.now ≡ c.cut_word.result.0.now ∷ parts_of c.in-Some.plain.now = search rules in
    let spelt = sym c.number.ensures ∙ c.in-Some-number.is in
    let later : nat_lt c.in-Some-number.time c.args.last ≡ false = search (rules, c.if-time-last.false) in record {
      timed = record {
        word = c.cut_word.result.0.now;
        spells = spelt;
        some = word_full c.args.line.now c.cut_word.result.0.now c.in-Some.plain.now full cut;
        parts = search rules;
      };
      later = omega (arith, c.if-time-last.false);
      says = λ names number.
          timed_says c.args.line.now c.cut_word.result.0.now c.in-Some.plain.now full cut c.args.last names number
          ∙ rw (spelt, later);
    }
