-- The records of all callers have the callers' numbers.
use Rattle.tag_core.proofs.Uses.{ap, Caller, HasAll, List, numbers, Record, refl, some_there, subst, sym, ℕ, ◌∙◌}
use Rattle.tag_core.proofs.Numbers.{numbers-records}
use Rattle.tag_core.proofs.map.Map.gather.Goals as goal

pub gather_each-all-requires-clause-some : goal.gather_each-all-requires-clause-some
gather_each-all-requires-clause-some g c = some_there (λ (x : Caller g.row.R.Denot). x.number) c.args.callers.items
    c.args.self.shape.callers (c.in_default.ensures.succeeds.0 refl) c.args.self.few.0

pub finish-requires-clause-all : goal.finish-requires-clause-all
finish-requires-clause-all g c = subst (λ (ns : List ℕ). HasAll ns c.args.self.shape.callers)
    (sym (ap (λ (rs : List (Record g.row.R.Denot)). numbers rs) c.gather_each-all.ensures.1
    ∙ numbers-records c.args.callers.items)) (c.in_default.ensures.succeeds.0 refl)
