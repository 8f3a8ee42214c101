-- Nobody won a tag before the first map of a chain, and each caller made is one of the map's.
use Rattle.tag_core.proofs.Uses.{[], IsCallerOf, opened}
use Rattle.step_ledger.proofs.Numbers.{numbered_all}
use Rattle.tag_core.proofs.opens.lay_out.Goals as goal

pub returns-clause-own : goal.returns-clause-own
returns-clause-own g c = numbered_all _ (IsCallerOf c.in-Ok.map) c.in-Ok.map.shape.callers c.in_ok-callers.callers.items
    c.in_ok-callers.ensures (λ i caller is. is.0)

pub new_map-requires-clause-chain : goal.new_map-requires-clause-chain
new_map-requires-clause-chain g c = ∣ ([], opened c.requires.blank) ∣₁
