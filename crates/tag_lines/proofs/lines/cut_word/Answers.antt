-- The parts of a line are those that a blank parts.
use Rattle.std.proofs.Common.{rules}
use Rattle.tag_lines.proofs.LineFacts.{IsCutWord, word_cut}
use Rattle.tag_lines.proofs.lines.cut_word.Goals as goal

pub returns : goal.returns
returns c =
    let cut : IsCutWord c.cut.result.1 (λ r. r.now) c.args.line.now c.cut.result.0.now =
    word_cut c.cut.result.1 (λ r. r.now) c.args.line.now c.cut.result.0.now c.cut.ensures.part c.cut.ensures.whole in
    record { first = cut.first; last = cut.last; more = cut.more; text = cut.text; shorter = search rules }
