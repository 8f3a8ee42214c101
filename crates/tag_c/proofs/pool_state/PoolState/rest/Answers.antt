-- Each cell belongs to the same tags as the hand, so the hand fits into any of them.
use Rattle.tag_c.proofs.Uses.{All-get_or, arith, Hand, IsHandOf, subst, sym, ℕ}
use Rattle.tag_c.proofs.Owners.{sharing}
use Rattle.tag_c.proofs.pool_state.PoolState.rest.Goals as goal

pub put_into-requires : goal.put_into-requires
put_into-requires c = let tags = c.args.self.now.tags in let at = c.index.ensures in
    let own = All-get_or (IsHandOf tags) c.args.self.now.cells.items c.loop-i.i c.index.result.now
    (omega (arith, c.loop-i-test.true, c.len-i-end.ensures)) c.args.self.now.own in
    let cell : IsHandOf tags c.index.result.now = subst (λ (hand : Hand ℕ). IsHandOf tags hand) (sym at) own in
    sharing tags c.index.result.now c.loop-i.hand cell
    (subst (λ (hand : Hand ℕ). IsHandOf tags hand) (sym c.loop-i.invariant) c.requires)
