-- What went back others were told of, in the set of the tag.
use Rattle.tag_c.proofs.Uses.{Caching, DoesClear}
use Rattle.tag_c.specs.Telling.{Tells, TellsOfKind}
use Rattle.tag_c.proofs.Endings.{ended, ends_giving_as, kind_in, tells_of_kind}
use Rattle.tag_c.proofs.cached.CachedMember.clear_any.Goals as goal

pub returns : goal.returns
returns c = let tag = c.args.tag in let given = c.clear_any-given in let call = c.end_giving in (
  call.ensures.0,
  ended (DoesClear tag) (TellsOfKind tag) {old = Caching c.args.self.now.cache} {between = Caching given.new.self}
      given.result call.type_inv c.deref.ensures given.ensures.does
      (ends_giving_as (Tells c.kind-kind.result) (TellsOfKind tag) given.result
      (λ freed told tells. tells_of_kind tag freed told (kind_in tag c.kind-kind.ensures c.deref-2.ensures) tells)
      call.ensures.1),
)
