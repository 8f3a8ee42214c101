-- The new marks describe the pool that is freed in the swept words and then taken from.
use Rattle.base_tests.proofs.Reference.{marks_then}
use Rattle.base_tests.proofs.tests.search.marks.marks_then.Goals as goal

pub returns-clause-pool : goal.returns-clause-pool
returns-clause-pool c =
    marks_then c.args.layout c.args.free.now c.args.aside.now c.in_ok-free_then.field-0.items
    c.in_ok-aside_then.field-0.items c.args.swept.now c.args.taken.0 c.args.taken.1 c.args.taken.2
    c.in_ok-free_then.ensures.marks c.in_ok-aside_then.ensures.marks
