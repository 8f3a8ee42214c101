-- Callers that settled have numbers of their own, below the number of callers.
use Rattle.tag_core.proofs.Uses.{ap, Caller, get_elem?, List, sym, ◌∙◌}
use Rattle.tag_core.proofs.Reopenings.{numbers_below, own_numbers}
use Rattle.tag_core.proofs.reopens.prepare.Goals as goal

pub next_shape-shape-requires-clause-below : goal.next_shape-shape-requires-clause-below
next_shape-shape-requires-clause-below g c i x at =
    let s = c.args.settled.now in numbers_below s.tags.shape s.callers.items s.totals s.known i x
    (ap (λ (z : List (Caller g.row.R.Denot)). get_elem? z i) (sym c.as_slice.ensures.value) ∙ at)

pub next_shape-shape-requires-clause-once : goal.next_shape-shape-requires-clause-once
next_shape-shape-requires-clause-once g c i j a b e f same =
    let s = c.args.settled.now in let here = sym c.as_slice.ensures.value in
    own_numbers s.tags.shape s.callers.items s.totals s.known i j a b
    (ap (λ (z : List (Caller g.row.R.Denot)). get_elem? z i) here ∙ e)
    (ap (λ (z : List (Caller g.row.R.Denot)). get_elem? z j) here ∙ f) same
