-- A pool with its own ordinary map is the same pool.
use Rattle.std.specs.Prelude.{◌+◌, ◌≡◌, ◌≤◌}
use Rattle.std.proofs.Common.{subst, sym}
use Rattle.std.specs.Coded.{le_prop}
use native.Mathlib.Nat.{ℕ_set}
use Rattle.tag_core.specs.Callers.{layout_of}
use Rattle.tag_core.specs.declared.map.Map.{Map}
use Rattle.tag_layout.specs.declared.layout.TheConstants.{MAX_DEPTH}
use Rattle.tag_pool.specs.declared.pool.Pool.{Pool}

module _ {R : Type 0} (pool : Pool R) where
  -- the pool with this ordinary map in place of its own
  abbrev with_map : (m : Map R) → (layout_of pool.reserved).depth ≡ pool.reserved_count
      → pool.reserved_count + (layout_of m).depth ≡ pool.total → pool.total ≤ MAX_DEPTH → 1 ≤ pool.shallowest
      → pool.reserved.shape.callers ≡ m.shape.callers → Pool R
  with_map m r t f l a = record {
    reserved = pool.reserved;
    ordinary = m;
    reserved_count = pool.reserved_count;
    total = pool.total;
    shallowest = pool.shallowest;
    fill = pool.fill;
    reserved_is = r;
    total_is = t;
    fits = f;
    least = l;
    as_many = a;
  }

  -- with its own map it is the same pool
  pub same_pool : (m : Map R) → m ≡ pool.ordinary → (r : (layout_of pool.reserved).depth ≡ pool.reserved_count)
      (t : pool.reserved_count + (layout_of m).depth ≡ pool.total) (f : pool.total ≤ MAX_DEPTH) (l : 1 ≤ pool.shallowest)
      (a : pool.reserved.shape.callers ≡ m.shape.callers) → with_map m r t f l a ≡ pool
  same_pool m e r t f l a = subst (λ (m : Map R). (t : pool.reserved_count + (layout_of m).depth ≡ pool.total)
      (a : pool.reserved.shape.callers ≡ m.shape.callers) → with_map m r t f l a ≡ pool) (sym e)
      (λ t a. λ j. with_map pool.ordinary (ℕ_set _ _ r pool.reserved_is j) (ℕ_set _ _ t pool.total_is j)
      (le_prop f pool.fits j) (le_prop l pool.least j) (ℕ_set _ _ a pool.as_many j)) t a
