-- All callers settle with no tag in use; then they move to the next map, or are returned unchanged.
use Rattle.tag_core.specs.Reopening.{IsNext}
use Rattle.std.proofs.Common.{List, map, rules, subst, sym}
use Rattle.tag_core.specs.declared.map.Map.{Map}
use Rattle.tag_pool.specs.Using.{NoneInUse}
use Rattle.tag_core.specs.declared.record.Record.{Record}
use Rattle.tag_core.specs.Callers.{record_of}
use Rattle.tag_core.proofs.Settlings.{unchanged-records}
use Rattle.tag_core.proofs.Reopenings.{leads_on}
use Rattle.tag_pool.proofs.NextMaps.{none_used, reopened_after, goes_on_after}
use Rattle.tag_pool.proofs.resizes.next_map.next_map.Goals as goal

pub unreachable-requires : goal.unreachable-requires
unreachable-requires g c = let ok = c.settle.ensures.succeeds.1 c.requires.every in
    let not = c.in_default.is in search rules

pub reopen-requires-clause-unused : goal.reopen-requires-clause-unused
reopen-requires-clause-unused g c =
    let s = c.in-Ok.settled in let told = c.in-Ok.ensures in
    none_used s.tags.shape (map record_of s.callers.items) s.totals told.settled
    (subst (λ (z : List (Record g.row.R.Denot)). NoneInUse z)
    (sym (unchanged-records c.args.callers.items s.callers.items told.callers)) c.requires.unused)

pub returns-in-Ok-reopen-clause-ok : goal.returns-in-Ok-reopen-clause-ok
returns-in-Ok-reopen-clause-ok g c =
    let s = c.in-Ok.settled in let told = c.in-Ok.ensures in let went = c.in-Ok-reopen.ensures in
    let next : Map g.row.R.Denot = c.in-Ok-reopen.reopened.0 in record {
      next = subst (λ (z : Map g.row.R.Denot). IsNext c.args.layout z.shape next.shape) told.map went.next;
      goes_on = goes_on_after s c.args.tags c.args.callers.items next.shape told.map told.callers
          told.settled went.goes_on;
      callers = reopened_after next c.args.callers.items s.callers.items c.in-Ok-reopen.reopened.1.items
          told.callers went.callers;
      own = went.own;
      leads = leads_on c.args.tags next c.args.callers.items s told.map told.callers told.settled went.goes_on;
      free = went.free;
    }
