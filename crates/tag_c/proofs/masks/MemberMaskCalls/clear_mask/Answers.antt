-- The tags went back, and others were told of as many.
use Rattle.std.specs.Prelude.{count_ones}
use Rattle.tag_c.proofs.Uses.{Bare, Err, Ok, refl}
use Rattle.tag_pool.specs.declared.kind.Kind.TheVariants.{Ordinary}
use Rattle.tag_c.specs.Calls.{DoesClearMask}
use Rattle.tag_c.specs.Telling.{Tells}
use Rattle.tag_c.proofs.Endings.{gave, refused}
use Rattle.tag_c.proofs.masks.MemberMaskCalls.clear_mask.Goals as goal

pub returns-in-Ok : goal.returns-in-Ok
returns-in-Ok c = let call = c.look_and_tell in (
  call.ensures.0,
  gave (DoesClearMask c.args.first c.args.mask) (Tells Ordinary) {old = Bare c.args.self.now.hand} {between = Bare c.clear_mask_quietly.new.hand}
      (count_ones c.args.mask) call.type_inv c.deref.ensures (Ok c.in-Ok.field-0, refl, c.in-Ok.ensures.does) call.ensures.1,
)

pub returns-in-Err : goal.returns-in-Err
returns-in-Err c = let fault = c.in-Err.fault in (
  refl,
  refused (DoesClearMask c.args.first c.args.mask) (Tells Ordinary) {old = Bare c.args.self.now.hand} {new = Bare c.clear_mask_quietly.new.hand} fault
      c.fault_code.ensures c.fault_code.type_inv c.deref.ensures (Err fault, refl, c.in-Err.ensures.does),
)
