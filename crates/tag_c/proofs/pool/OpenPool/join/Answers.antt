-- The hand comes from the pool, and the only call before it is returned moves its hints, if they are to be moved.
use Rattle.std.specs.Prelude.{◌≡◌, ◌≤◌}
use Rattle.tag_c.proofs.Uses.{ap, arc_value, arith, min, PoolState, subst, sym, ◌∙◌}
use Rattle.tag_c.proofs.Joining.{gives_as_it_was, gives_placed}
use Rattle.tag_c.proofs.Owners.{same_pool}
use Rattle.tag_c.proofs.pool.OpenPool.join.Goals as goal
use Rattle.tag_c.proofs.pool.OpenPool.join.Goals.{then-placed, else-placed}

pub invariant_of-result : goal.invariant_of-result
invariant_of-result c = let shared = arc_value c.in-Ok.shared in let hand = c.if-placed.hand in record {
  own =
      elim c.if-placed.branch [
        | then-placed w ↦ same_pool w.deref.result.now shared w.place.new.hand hand w.deref.ensures w.hand-is
            w.place.ensures.hand.0
        | else-placed w ↦ same_pool (arc_value c.args.self.now.shared) shared c.in-Some.hand hand (sym c.in-Ok.ensures)
            w.hand-is c.in-Some.ensures.own
      ];
}

pub invariant_of-result-2 : goal.invariant_of-result-2
invariant_of-result-2 c = let shared = arc_value c.in-Ok.shared in let hand = c.with_keeping-cache.result.hand in
    let is = c.with_keeping-cache.ensures.hand in record {
      own =
          elim c.if-placed.branch [
            | then-placed w ↦ same_pool w.deref.result.now shared w.place.new.hand hand w.deref.ensures (is ∙ w.hand-is)
                w.place.ensures.hand.0
            | else-placed w ↦ same_pool (arc_value c.args.self.now.shared) shared c.in-Some.hand hand
                (sym c.in-Ok.ensures) (is ∙ w.hand-is) c.in-Some.ensures.own
          ];
    }

pub returns-then-deref-eq0-clause-ok : goal.returns-then-deref-eq0-clause-ok
returns-then-deref-eq0-clause-ok c = let old = c.args.self.now in let new = c.next_hand.new.self in
    let found = c.in-Some.hand in let takes = c.in-Some.ensures.takes in (
      c.in-Ok.ensures,
      ap (λ (state : PoolState). state.cache.most) (sym c.in-Ok.ensures ∙ sym c.deref-2.ensures) ∙ c.if-deref-eq0.true,
      elim c.if-placed.branch [
        | then-placed w ↦ gives_placed c.args.placed old new found c.if-placed.hand takes w.if-placed.true
            w.place.new.hand w.hand-is w.deref.result.now.tags
            (ap (λ (state : PoolState). state.tags) (w.deref.ensures ∙ c.in-Ok.ensures)) w.place.ensures.placed
        | else-placed w ↦ gives_as_it_was c.args.placed old new found c.if-placed.hand takes w.if-placed.false w.hand-is
      ],
    )

pub returns-clause-ok : goal.returns-clause-ok
returns-clause-ok c = let made = c.with_keeping-cache.ensures in let old = c.args.self.now in
    let new = c.next_hand.new.self in let found = c.in-Some.hand in let takes = c.in-Some.ensures.takes in
    let hand = c.with_keeping-cache.result.hand in
    let at : c.deref-2.result.now ≡ arc_value old.shared = c.deref-2.ensures ∙ c.in-Ok.ensures in
    let most : c.deref-3.result.now ≡ arc_value old.shared = c.deref-3.ensures ∙ c.in-Ok.ensures in
    let keeping : c.deref-4.result.now ≡ arc_value old.shared = c.deref-4.ensures ∙ c.in-Ok.ensures in (
      c.in-Ok.ensures,
      (let some : 1 ≤ c.deref-2.result.now.cache.most = omega (arith, c.if-deref-eq0.false) in
          subst (λ (state : PoolState). 1 ≤ state.cache.most) at some),
      made.none,
      made.most ∙ ap (λ (state : PoolState). min state.cache.most 64) most,
      made.keeping ∙ ap (λ (state : PoolState). state.cache.keeping) keeping,
      elim c.if-placed.branch [
        | then-placed w ↦ gives_placed c.args.placed old new found hand takes w.if-placed.true w.place.new.hand
            (made.hand ∙ w.hand-is) w.deref.result.now.tags
            (ap (λ (state : PoolState). state.tags) (w.deref.ensures ∙ c.in-Ok.ensures)) w.place.ensures.placed
        | else-placed w ↦ gives_as_it_was c.args.placed old new found hand takes w.if-placed.false
            (made.hand ∙ w.hand-is)
      ],
    )
