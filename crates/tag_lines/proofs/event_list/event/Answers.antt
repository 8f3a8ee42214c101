-- A line of more than four words has a fifth.
use Rattle.std.proofs.Common.{arith}
use Rattle.std.proofs.lemmas.Grind.{common_steps}
use Rattle.tag_lines.proofs.LineFacts.{first_part}
use Rattle.tag_lines.proofs.event_list.event.Goals as goal

pub returns-in-Some-rest-3 : goal.returns-in-Some-rest-3
returns-in-Some-rest-3 c = grind (arith, common_steps, first_part c.in-Some-rest-3.field-0.now)
