-- The kept tags that went back others were told of.
use Rattle.tag_c.proofs.Uses.{Caching}
use Rattle.tag_pool.specs.declared.kind.Kind.TheVariants.{Ordinary}
use Rattle.tag_c.specs.Calls.{DoesPost}
use Rattle.tag_c.specs.Telling.{Tells, TellsOfKept}
use Rattle.tag_c.proofs.Endings.{ended, ends_giving_as}
use Rattle.tag_c.proofs.values.CachedMemberSlotCalls.post.Goals as goal

pub returns : goal.returns
returns c = let given = c.post_quietly-given in let call = c.end_giving in (
  call.ensures.0,
  ended (DoesPost c.args.tag) TellsOfKept {old = Caching c.args.self.now.cache} {between = Caching given.new.self}
      given.result call.type_inv c.deref.ensures given.ensures.does
      (ends_giving_as (Tells Ordinary) TellsOfKept given.result (λ freed told tells. tells) call.ensures.1),
)
