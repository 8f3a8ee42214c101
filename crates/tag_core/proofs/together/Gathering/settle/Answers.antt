-- The load finds the records of all callers, so that one history shows them; the sums over them were kept all along.
use Rattle.std.specs.Prelude.{◌+◌, ◌-◌, ◌≤◌}
use Rattle.tag_core.proofs.Uses.{AreSettled, arith, gathered, has_record, HasRecords, Shape, subst, Totals}
use Rattle.tag_core.proofs.SeatMoves.{some_words}
use Rattle.tag_core.proofs.Settlings.{settle_allowed, totals_same}
use Rattle.tag_core.proofs.together.Gathering.settle.Given as given
use Rattle.tag_core.proofs.together.Gathering.settle.Goals.{After-load}
use Rattle.tag_core.proofs.together.Gathering.settle.Goals as goal

pub load-requires : goal.load-requires
load-requires g c =
    let m = c.args.map.now in let a = c.args.self in (
      c.requires.map,
      some_words m,
      settle_allowed g.row.R.Denot m.table.shared.key m.table.shared.table_id.slots a.seat.id a.seat.me,
    )

-- what one history showed
settled_here : {g : given.Over} (c : After-load g)
    → (totals : Totals) × AreSettled c.args.map.now.shape (gathered c.args.self) totals
settled_here {g} c =
    let R = g.row.R.Denot in let rs = gathered c.args.self in let first = c.requires.first in
    subst (λ (z : Shape). HasRecords z.callers rs → (totals : Totals) × AreSettled z rs totals)
    first.2 (c.load.ensures.2.1 first.0 first.1) (λ n l. has_record (λ r. r.number) rs n (c.requires.all n l))

-- what was given back and is held was won
enough : {g : given.Over} (c : After-load g) → c.args.self.back + c.args.self.held ≤ c.args.self.won
enough {g} c =
    let known = (settled_here c).1 in let a = known.got in let b = known.back in let d = known.held in
    let even = known.balance in let sums = c.args.self.sums in omega arith

pub overflow_sub-totals : goal.overflow_sub-totals
overflow_sub-totals g c = let e = enough c in omega arith

pub overflow_sub-totals-2 : goal.overflow_sub-totals-2
overflow_sub-totals-2 g c = let e = enough c in omega arith

pub returns-clause-settled : goal.returns-clause-settled
returns-clause-settled g c =
    let a = c.args.self in let told = settled_here c.before in let e = enough c.before in
    totals_same c.args.map.now.shape (gathered a) told.0
    (record { got = a.won; back = a.back; held = a.held; posted = a.won - a.back - a.held })
    told.1 a.sums.0 a.sums.1 a.sums.2 (omega arith)
