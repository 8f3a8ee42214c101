-- A hand shares its tags with the cell that it is taken from, and the cell belongs to these tags, so the hand does.
use Rattle.std.specs.Prelude.{◌-◌}
use Rattle.tag_c.proofs.Uses.{All-get_or, arith, Hand, IsHandOf, subst, sym, ℕ}
use Rattle.tag_c.proofs.Owners.{one_owner}
use Rattle.tag_c.proofs.pool_state.PoolState.take_hand.Goals as goal

pub returns-in-Some : goal.returns-in-Some
returns-in-Some c = let tags = c.args.self.now.tags in let at = c.index.ensures in
    let own = All-get_or (IsHandOf tags) c.args.self.now.cells.items (c.len.result - 1 - c.loop-i.i) c.index.result.now
    (omega (arith, c.loop-i-test.true, c.len-i-end.ensures, c.len.ensures)) c.args.self.now.own in
    let cell : IsHandOf tags c.index.result.now = subst (λ (hand : Hand ℕ). IsHandOf tags hand) (sym at) own in
    one_owner tags c.index.result.now c.in-Some.hand c.in-Some.ensures cell
