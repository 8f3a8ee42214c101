-- Those woken are those told.
use Rattle.tag_pool.proofs.Uses.{Some, subst, sym}
use Rattle.tag_bell.specs.declared.told.Told.{Told}
use Rattle.tag_pool.specs.Waits.{GetsUntil, UntilTold}
use Rattle.tag_pool.proofs.pool.Pool.block_for.Goals as goal

pub returns-clause-gets : goal.returns-clause-gets
returns-clause-gets g c = let win = c.win-answer in subst (λ (t : Told). GetsUntil c.args.self.now c.args.kind
    (UntilTold c.args.kind) ⊥ (Some win.result.0) t c.args.hand.now win.new.hand) (sym c.wake_told-woken.ensures) win.ensures.gets
