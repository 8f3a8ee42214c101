-- The number of a call is handed on as it is.
use Rattle.tag_c.proofs.Uses.{rules, Some}
use Rattle.tag_c.specs.Calls.{TellsBy}
use Rattle.tag_c.specs.Telling.{GetsBatch}
use Rattle.tag_c.specs.declared.object.Kind.TheVariants.{Member as IsMember, Cached as IsCached}
use Rattle.tag_c.proofs.Endings.{as_is}
use Rattle.tag_c.proofs.gets.tags_get_batch.Goals as goal

pub returns-in-Member-clause-calls : goal.returns-in-Member-clause-calls
returns-in-Member-clause-calls c = let call = c.get_batch in
    as_is (λ z. TellsBy (GetsBatch c.args.n c.args.won.now call.new.won) c.args.told.now call.new.told z
    c.args.hand.now.object.value (Some (record { kind = IsMember call.new.self }))) {code = call.result}
    call.type_inv (search rules)

pub returns-in-Cached-clause-calls : goal.returns-in-Cached-clause-calls
returns-in-Cached-clause-calls c = let call = c.get_batch-in-Cached in
    as_is (λ z. TellsBy (GetsBatch c.args.n c.args.won.now call.new.won) c.args.told.now call.new.told z
    c.args.hand.now.object.value (Some (record { kind = IsCached call.new.self }))) {code = call.result}
    call.type_inv (search rules)
