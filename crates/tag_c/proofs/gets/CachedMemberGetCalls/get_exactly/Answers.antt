-- The cache does what the call of `tag_cache` does, and the hand looks after what that left free of the tag's kind.
use Rattle.tag_c.proofs.Uses.{ap, Caching, refl, reserved_of, ◌∙◌}
use Rattle.tag_pool.specs.Sets.{kind_of}
use Rattle.tag_c.specs.Calls.{DoesGetExactly}
use Rattle.tag_c.specs.Telling.{TellsOfKind}
use Rattle.tag_c.proofs.Looking.{gets_tag, looks_of_kind}
use Rattle.tag_c.proofs.Runs.{each, exact_fits}
use Rattle.tag_c.proofs.gets.CachedMemberGetCalls.get_exactly.Goals as goal

pub get_code-requires : goal.get_code-requires
get_code-requires c = let get = c.get_exactly_quietly-found in let does = get.ensures.does in
    exact_fits c.deref.result.now c.args.tag _ get.result c.answer_and_left-answer.ensures.answer does.refusals.passes
    (each get.result (λ known gets. gets.only) does.gets)

pub returns : goal.returns
returns c = let get = c.get_exactly_quietly-found in let answer = c.answer_and_left-answer in
    let look = c.look_after in let tag = c.args.tag in
    let kind = c.kind-kind.ensures ∙ ap (λ s. kind_of (reserved_of s.tags) tag) c.deref-2.ensures in (
      look.ensures.0,
      gets_tag (DoesGetExactly tag) (TellsOfKind tag) (Caching c.args.self.now.cache) (Caching get.new.self)
          (Caching look.new.self.cache) get.result c.deref.ensures get.ensures.does answer.ensures.answer
          answer.ensures.left c.get_code.ensures.code c.get_code.type_inv refl (looks_of_kind tag kind look.ensures.1)
          look.type_inv,
    )
