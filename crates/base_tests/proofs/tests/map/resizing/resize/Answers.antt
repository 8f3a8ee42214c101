-- The history that `settle` told is the one from which `reopen` says that the next map goes on.
use Rattle.tag_core.proofs.Reopenings.{leads_on}
use Rattle.base_tests.proofs.tests.map.resizing.resize.Goals as goal

pub returns-in-Ok-reopen-clause-chain : goal.returns-in-Ok-reopen-clause-chain
returns-in-Ok-reopen-clause-chain c =
    let told = c.in-Ok.ensures in leads_on c.args.map c.in-Ok-reopen.opened.0 c.args.callers.items
    c.in-Ok.settled told.map
    told.callers told.settled c.in-Ok-reopen.ensures.goes_on
