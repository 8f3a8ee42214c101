-- With the next map the pool has the total; without one it gets its own map back.
use Rattle.std.specs.Prelude.{◌+◌, ◌≡◌}
use Rattle.tag_pool.proofs.Uses.{ap, arith, Layout, Map, refl, subst, sym, ◌∙◌}
use Rattle.tag_core.specs.Callers.{layout_of}
use Rattle.tag_pool.proofs.SamePool.{same_pool}
use Rattle.tag_pool.proofs.pool.Pool.go_on.Goals as goal

pub invariant_of-pool : goal.invariant_of-pool
invariant_of-pool g c =
    let next = c.in-Ok.ensures.ok.next in
    let depth = ap (λ (l : Layout). l.depth) (next.layout_is ∙ c.requires.layout) in let low = c.requires.range.1 in record {
      reserved_is = c.args.self.reserved_is;
      total_is = omega arith;
      fits = c.requires.range.0;
      least = c.args.self.least;
      as_many = c.args.self.as_many ∙ sym next.callers_is;
    }

pub invariant_of-pool-in-Err : goal.invariant_of-pool-in-Err
invariant_of-pool-in-Err g c = let pool = c.args.self in let same = sym c.in-Err.ensures.err.0 in record {
  reserved_is = pool.reserved_is;
  total_is = subst (λ (m : Map g.row.R.Denot). pool.reserved_count + (layout_of m).depth ≡ pool.total) same pool.total_is;
  fits = pool.fits;
  least = pool.least;
  as_many = subst (λ (m : Map g.row.R.Denot). pool.reserved.shape.callers ≡ m.shape.callers) same pool.as_many;
}

pub returns-in-Ok-clause-rest : goal.returns-in-Ok-clause-rest
returns-in-Ok-clause-rest g c =
    let depth = ap (λ (l : Layout). l.depth) (c.in-Ok.ensures.ok.next.layout_is ∙ c.requires.layout) in
    let low = c.requires.range.1 in record {
      total_is = omega arith;
      split = refl;
      reserved = refl;
      least = refl;
      fill = refl;
    }

pub returns-in-Err-clause-err : goal.returns-in-Err-clause-err
returns-in-Err-clause-err g c =
    (same_pool c.args.self c.in-Err.ordinary c.in-Err.ensures.err.0 _ _ _ _ _, c.in-Err.ensures.err.1)
