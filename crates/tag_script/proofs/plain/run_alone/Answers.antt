-- A run by the plain caller is a run in its world, since each of its answers is one in its world.
use Rattle.tag_script.proofs.Uses.{IsRun, List, Order, plain_world_of, PlainWorld, subst, ℕ}
use Rattle.tag_script.specs.Commands.{ObeysOrder, AreTotals}
use Rattle.tag_script.proofs.RunFacts.{run_as}
use Rattle.tag_script.proofs.plain.run_alone.Goals as goal

pub returns-in-Ok-clause-told : goal.returns-in-Ok-clause-told
returns-in-Ok-clause-told c =
    let orders : List Order = c.args.orders.now in let text : List ℕ = c.in-Ok.text.items in
    let told = run_as ObeysOrder AreTotals plain_world_of c.in_ok-world.world orders text c.in-Ok.ensures in record {
      layout = (plain_world_of c.in_ok-world.world).layout;
      setup = c.in_ok-world.ensures.setup;
      run = subst (λ (w : PlainWorld). IsRun ObeysOrder AreTotals w orders text) c.in_ok-world.ensures.opened told;
    }
