-- What went back others were told of.
use Rattle.tag_c.proofs.Uses.{Caching}
use Rattle.tag_pool.specs.declared.kind.Kind.TheVariants.{Ordinary}
use Rattle.tag_c.specs.Calls.{DoesClearMask}
use Rattle.tag_c.specs.Telling.{Tells}
use Rattle.tag_c.proofs.Endings.{ended}
use Rattle.tag_c.proofs.masks.CachedMemberMaskCalls.clear_mask.Goals as goal

pub returns : goal.returns
returns c = let given = c.clear_mask_quietly-given in let call = c.end_giving in (
  call.ensures.0,
  ended (DoesClearMask c.args.first c.args.mask) (Tells Ordinary) {old = Caching c.args.self.now.cache} {between = Caching given.new.self}
      given.result call.type_inv c.deref.ensures given.ensures.does call.ensures.1,
)
