-- The tag went back in its set, and others of that set were told.
use Rattle.tag_c.proofs.Uses.{Bare, DoesClear, Err, refl}
use Rattle.tag_pool.specs.declared.kind.Kind.TheVariants.{Ordinary, Reserved}
use Rattle.tag_c.specs.Telling.{TellsOfKind}
use Rattle.tag_c.proofs.Clearing.{cleared}
use Rattle.tag_c.proofs.Endings.{refused}
use Rattle.tag_c.proofs.clears.MemberClearCalls.clear.Goals as goal

pub returns-in-Ok-Ordinary : goal.returns-in-Ok-Ordinary
returns-in-Ok-Ordinary c = let call = c.look_and_tell in (
  call.ensures.0,
  cleared c.args.tag c.in-Ok-Ordinary.field-0 Ordinary c.in-Ok-Ordinary.field-0-is call.type_inv c.deref.ensures
      c.in-Ok-Ordinary.ensures.does call.ensures.1,
)

pub returns-in-Ok-Reserved : goal.returns-in-Ok-Reserved
returns-in-Ok-Reserved c = let call = c.look_and_tell-in-Ok-Reserved in (
  call.ensures.0,
  cleared c.args.tag c.in-Ok-Reserved.field-0 Reserved c.in-Ok-Reserved.field-0-is call.type_inv c.deref.ensures
      c.in-Ok-Reserved.ensures.does call.ensures.1,
)

pub returns-in-Err : goal.returns-in-Err
returns-in-Err c = let tag = c.args.tag in let fault = c.in-Err.fault in (
  refl,
  refused (DoesClear tag) (TellsOfKind tag) {old = Bare c.args.self.now.hand} {new = Bare c.clear_quietly.new.hand} fault
      c.fault_code.ensures c.fault_code.type_inv c.deref.ensures (Err fault, refl, c.in-Err.ensures.does),
)
