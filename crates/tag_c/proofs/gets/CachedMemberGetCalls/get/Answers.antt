-- A kept tag is ordinary, so it is below the total and its number fits; to get it leaves none free.
use Rattle.tag_c.proofs.Uses.{Caching, DoesGet, Ok, refl, Some}
use Rattle.tag_pool.specs.declared.kind.Kind.TheVariants.{Ordinary}
use Rattle.tag_c.specs.Telling.{Tells}
use Rattle.tag_c.proofs.Looking.{gets_alone}
use Rattle.tag_c.proofs.Runs.{tag_fits}
use Rattle.tag_c.proofs.gets.CachedMemberGetCalls.get.Goals as goal

pub get_code-requires : goal.get_code-requires
get_code-requires c = tag_fits c.deref.result.now _
    (Ok (record { answer = Some c.get_kept-tag.result; left = 0 })) refl
    (λ tag. c.get_kept-tag.ensures.does.gets.ordinary tag)

pub returns : goal.returns
returns c = let kept = c.get_kept-tag in (
  refl,
  gets_alone DoesGet (Tells Ordinary) (Caching c.args.self.now.cache) (Caching kept.new.self)
      (Ok (record { answer = Some kept.result; left = 0 })) c.deref.ensures kept.ensures.does refl
      c.get_code.ensures.code c.get_code.type_inv,
)
