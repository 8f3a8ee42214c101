-- A tag that has a place is an ordinary one, and is kept, so nothing else went back.
use Rattle.tag_c.proofs.Uses.{arc_value, Caching, DoesClear, reserved_of, sym}
use Rattle.tag_pool.specs.declared.kind.Kind.TheVariants.{Ordinary}
use Rattle.tag_pool.proofs.Numbering.{ordinary_above}
use Rattle.tag_cache.proofs.Reusing.{known_ordinary_of}
use Rattle.tag_c.specs.Telling.{TellsOfKind}
use Rattle.tag_c.proofs.Endings.{ends_of_kind, gave}
use Rattle.tag_c.proofs.clears.CachedMemberClearCalls.clear.Goals as goal

pub returns-then-has_place : goal.returns-then-has_place
returns-then-has_place c = let tag = c.args.tag in let member = c.args.self.now in
    let tags = (arc_value member.shared).tags in let call = c.look_and_tell in
    let place = c.has_place.ensures.0 c.if-has_place.true in
    let above = known_ordinary_of tags member.cache tag member.own place.known in (
      call.ensures.0,
      gave (DoesClear tag) (TellsOfKind tag) {old = Caching member.cache} {between = Caching c.clear_placed.new.self} 0
          call.type_inv c.deref.ensures c.clear_placed.ensures.does
          (ends_of_kind tag 0 Ordinary (sym (ordinary_above (reserved_of tags) tag above).kind) call.ensures.1),
    )
