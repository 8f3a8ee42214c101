-- The line ends at the first line feed, or with the text.
use Rattle.tag_lines.proofs.LineFacts.{is_whole, has_rest, last_line, lines_of-cut}
use Rattle.tag_lines.proofs.lines.cut_line.Goals as goal

pub returns-in-Some-clause-lines : goal.returns-in-Some-clause-lines
returns-in-Some-clause-lines c =
    lines_of-cut c.args.text.now c.cut.result.0.now c.in-Some.rest.now c.cut.ensures.part (has_rest c.cut.result.1
    (λ r. r.now) c.args.text.now c.cut.result.0.now 10 c.in-Some.rest c.cut.ensures.whole c.in-Some.is)

pub returns-in-None-clause-lines : goal.returns-in-None-clause-lines
returns-in-None-clause-lines c =
    last_line c.args.text.now c.cut.result.0.now c.requires c.cut.ensures.part (is_whole c.cut.result.1 (λ r. r.now)
    c.args.text.now c.cut.result.0.now 10 c.cut.ensures.whole c.in-None.is)
