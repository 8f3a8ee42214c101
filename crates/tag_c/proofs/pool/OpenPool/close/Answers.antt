-- The spare hands belong to the tags that were shared.
use Rattle.std.specs.Prelude.{◌≡◌}
use Rattle.tag_c.proofs.Uses.{All, arc_value, HasHands, IfNone, IsHandOf, PoolState, subst}
use Rattle.tag_c.proofs.pool.OpenPool.close.Goals as goal

pub gather-requires : goal.gather-requires
gather-requires c = let shared : arc_value c.args.self.shared ≡ c.in-Ok.shared = (let is = c.in-Ok.ensures.ok in cc) in
    subst (λ (state : PoolState). All (IsHandOf state.tags) c.args.self.spare.items) shared c.args.self.own

pub invariant_of-result : goal.invariant_of-result
invariant_of-result c =
    let shared : arc_value c.args.self.shared ≡ arc_value c.in-Err.shared = (let is = c.in-Err.ensures.err in cc) in
    record {
      own = subst (λ (state : PoolState). All (IsHandOf state.tags) c.args.self.spare.items) shared c.args.self.own;
    }

pub returns-in-Ok-clause-lost : goal.returns-in-Ok-clause-lost
returns-in-Ok-clause-lost c =
    let shared : c.in-Ok.shared ≡ arc_value c.args.self.shared = (let is = c.in-Ok.ensures.ok in cc) in
    subst (λ (state : PoolState). IfNone c.gather.result (¬ (HasHands state.tags c.args.self.spare.items))) shared
    c.gather.ensures.none
