-- A hand shares its tags with the cell that it is taken from, and the cell belongs to these tags, so the hand does.
use Rattle.std.specs.Prelude.{◌++◌, ◌∷◌, ◌≡◌}
use Rattle.tag_c.proofs.Uses.{[], All, All-get_or, All-push, IsHandOf, subst, sym, ◌∙◌}
use Rattle.tag_c.proofs.Collected.{one_more}
use Rattle.tag_c.proofs.Owners.{one_owner}
use Rattle.tag_c.proofs.pool_state.PoolState.collect.Goals as goal
use Rattle.tag_c.proofs.pool_state.PoolState.collect.Goals.{in-Some, in_default}

pub loop-cell-preserved : goal.loop-cell-preserved
loop-cell-preserved c = let was = c.loop-cell.invariant in let tags = c.args.self.now.tags in let own = IsHandOf tags in
    let cells = subst (All own) (sym c.deref-cell-items.ensures.value) c.args.self.now.own in
    let cell = subst own (sym c.cell-item.is) (All-get_or own c.deref-cell-items.result.now c.loop-cell.cell-index
    c.cell-item.result c.loop-cell-test.true cells) in
    elim c.match-take_from.branch [
      | in-Some w ↦ let hand = w.in-Some.hand in
          let items : c.match-take_from.hands.items ≡ c.loop-cell.hands.items ++ hand ∷ [] =
          (let is = w.hands-is in let push = w.push_reserved.ensures.items in cc) in record {
            own = subst (All own) (sym items) (All-push own c.loop-cell.hands.items hand was.own
                (one_owner tags c.cell-item.result hand w.in-Some.ensures cell));
            kept = (
              was.kept.0 ++ hand ∷ [],
              one_more c.args.spare.items was.kept.0 c.loop-cell.hands.items c.match-take_from.hands.items hand
                  was.kept.1 items,
            );
          }
      | in_default w ↦ let items : c.match-take_from.hands.items ≡ c.loop-cell.hands.items =
          (let is = w.hands-is in cc) in
          record { own = subst (All own) (sym items) was.own; kept = (was.kept.0, items ∙ was.kept.1) }
    ]
