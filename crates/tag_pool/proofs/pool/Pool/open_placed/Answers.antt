-- The hands that `open` returns are placed, and are otherwise unchanged.
use Rattle.std.specs.List.{AllZip}
use Rattle.std.proofs.lemmas.List.{with_items_is}
use Rattle.tag_pool.proofs.Uses.{Hand, List, subst, sym, ◌∙◌}
use Rattle.tag_pool.specs.Opening.{IsOpenPlaced}
use Rattle.tag_pool.specs.Placing.{IsPlaced}
use Rattle.tag_pool.proofs.Placed.{opens_placed}
use Rattle.tag_pool.proofs.pool.Pool.open_placed.Goals as goal

pub returns-clause-ok : goal.returns-clause-ok
returns-clause-ok g c = let pool = c.in_ok-pool.pool in let hands = c.in_ok-pool.hands in
    let placed = c.place_all.new.hands in let lent = c.as_mut_slice.ensures in
    subst (λ (l : List (Hand g.row.R.Denot)). IsOpenPlaced c.args.options pool l)
    (sym (with_items_is hands placed (c.place_all.auto.hands ∙ lent.len)))
    (opens_placed c.args.options pool hands.items placed c.in_ok-pool.ensures.ok
    (subst (λ (l : List (Hand g.row.R.Denot)). AllZip (IsPlaced pool) l placed) lent.value c.place_all.ensures))
