-- The bound is that of the search on the map, and under round robin there is no step.
use Rattle.std.specs.Prelude.{◌≡◌, ◌≤◌, ◌+◌}
use Rattle.tag_pool.proofs.Uses.{ap, arith, Bool, Caller, false, length, record_of, refl, true}
use Rattle.tag_pool.specs.Sides.{most_steps}
use Rattle.tag_core.specs.Callers.{layout_of}
use Rattle.tag_pool.proofs.Getting.{got_few}
use Rattle.tag_pool.proofs.side.Side.get_batch.Goals as goal

pub returns-clause-bound : goal.returns-clause-bound
returns-clause-bound g c = let old = c.args.self.now.caller in let new = c.get_batch.new.caller in
    let most = most_steps (layout_of c.args.map.now) in
    elim (c.args.self.now.hint.round_robin) as
    (λ (b : Bool). c.args.self.now.hint.round_robin ≡ b → length (record_of new).steps ≤ most + length (record_of old).steps) [
      | true ↦ (λ t. let same = (c.get_batch.ensures.round_robin (search t)).1 in
          let e = ap (λ (a : Caller g.row.R.Denot). length (record_of a).steps) same in omega arith)
      | false ↦ (λ f. got_few _ most old new c.get_batch.result (λ found steps h. h.bound) (c.get_batch.ensures.steps f)
          c.get_batch.ensures.err)
    ] refl
