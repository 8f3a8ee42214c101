-- The callers keep their order and numbers, on the next map or their own, so each fits the shell of its hand again.
use Rattle.tag_pool.proofs.Uses.{All, ap, Caller, List, map, Pool, record_of, refl, reserved_of, subst, sym, ◌∙◌}
use Rattle.step_ledger.specs.Gather.{HasAll}
use Rattle.tag_core.specs.Callers.{IsCallerOf}
use Rattle.tag_core.specs.Gathering as tags
use Rattle.tag_pool.specs.Hands.{hands_of}
use Rattle.tag_pool.specs.Using.{NoneInUse}
use Rattle.tag_pool.proofs.Refits.{back_here, callers_own, callers_there, fit_back, fit_moved, own_again, resized_here}
use Rattle.tag_pool.proofs.pool.Pool.reopen.Goals as goal

pub go_on-requires-clause-own : goal.go_on-requires-clause-own
go_on-requires-clause-own g c =
    subst (All (IsCallerOf c.args.self.ordinary)) (sym {A = List (Caller g.row.R.Denot)} c.part-callers.ensures.callers)
    (callers_own c.args.self c.args.hands.items c.requires.own)

pub go_on-requires-clause-every : goal.go_on-requires-clause-every
go_on-requires-clause-every g c =
    subst (λ (z : List (Caller g.row.R.Denot)). HasAll (tags.numbers_of z) (hands_of c.args.self))
    (sym c.part-callers.ensures.callers)
    (callers_there c.args.self c.args.hands.items c.requires.own (hands_of c.args.self) c.requires.every)

pub go_on-requires-clause-unused : goal.go_on-requires-clause-unused
go_on-requires-clause-unused g c =
    subst (λ (z : List (Caller g.row.R.Denot)). NoneInUse (map record_of z))
    (sym c.part-callers.ensures.callers) c.requires.unused

pub unite-requires-clause-fit : goal.unite-requires-clause-fit
unite-requires-clause-fit g c =
    fit_moved c.args.self c.args.hands.items c.requires.own c.part-callers.result.0.items c.in-Ok-go_on.callers.items
    c.part-callers.result.1.items c.part-callers.ensures.callers c.part-callers.ensures.shells c.args.layout
    c.in-Ok-go_on.pool.ordinary c.in-Ok-go_on.ensures.ok

pub unite-requires-in-Err-clause-fit : goal.unite-requires-in-Err-clause-fit
unite-requires-in-Err-clause-fit g c =
    fit_back c.args.self c.args.hands.items c.requires.own c.part-callers.result.0.items c.in-Err.callers.items
    c.part-callers.result.1.items c.part-callers.ensures.callers c.part-callers.ensures.shells c.in-Err.ensures.err.1

pub returns-in-Ok-go_on-clause-ok : goal.returns-in-Ok-go_on-clause-ok
returns-in-Ok-go_on-clause-ok g c =
    let next = c.in-Ok-go_on.pool in
    resized_here c.args.self c.args.hands.items c.requires.own c.part-callers.result.0.items c.in-Ok-go_on.callers.items
    c.part-callers.result.1.items c.part-callers.ensures.callers c.part-callers.ensures.shells c.args.layout next.ordinary
    c.in-Ok-go_on.ensures.ok c.args.total next c.unite.result.items refl c.unite.ensures.callers c.unite.ensures.shells
    c.requires.layout c.in-Ok-go_on.ensures.rest

pub returns-in-Err-clause-err : goal.returns-in-Err-clause-err
returns-in-Err-clause-err g c = (
  c.in-Err.ensures.err.0,
  back_here c.args.self c.args.hands.items c.requires.own c.part-callers.result.0.items c.in-Err.callers.items
      c.part-callers.result.1.items c.part-callers.ensures.callers c.part-callers.ensures.shells c.in-Err.ensures.err.1
      c.unite-in-Err.result.items c.unite-in-Err.ensures.callers c.unite-in-Err.ensures.shells,
)

pub returns-in-Err-clause-own : goal.returns-in-Err-clause-own
returns-in-Err-clause-own g c =
    let same = c.in-Err.ensures.err.0 in
    own_again c.args.hands.items c.unite-in-Err.result.items (c.unite-in-Err.ensures.shells ∙ c.part-callers.ensures.shells)
    c.args.self c.in-Err.pool c.in-Err.callers.items c.requires.own c.unite-in-Err.ensures.callers c.in-Err.ensures.own
    (ap (λ (p : Pool g.row.R.Denot). p.reserved) same) (ap (λ (p : Pool g.row.R.Denot). reserved_of p) same)
