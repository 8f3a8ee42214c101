-- The user holds the tag that it has just won, so the write succeeds; and the hand looks after what the get left free.
use Rattle.std.specs.Prelude.{◌≡◌}
use Rattle.tag_c.proofs.Uses.{ap, arc_value, Caching, inl, inr, refl, rules, ◌∙◌}
use Rattle.tag_pool.specs.declared.kind.Kind.TheVariants.{Ordinary}
use Rattle.tag_c.specs.Pairs.{DoesGetWrite}
use Rattle.tag_c.specs.Telling.{Tells}
use Rattle.tag_c.proofs.Looking.{gets_tag}
use Rattle.tag_c.proofs.Pairing.{gets_and_writes, WritesWon}
use Rattle.tag_c.proofs.Runs.{each, tag_fits}
use Rattle.tag_c.proofs.pairs.CachedMemberPairCalls.get_write.Goals as goal

pub get_code-requires : goal.get_code-requires
get_code-requires c = let get = c.get_quietly-found in
    tag_fits c.deref.result.now _ get.result c.answer_and_left-answer.ensures.answer
    (each get.result (λ known gets. gets.ordinary) get.ensures.does.gets)

pub returns : goal.returns
returns c = let get = c.get_quietly-found in let answer = c.answer_and_left-answer in let look = c.look_after in
    let self = c.args.self.now in let written = c.match-answer.self in
    let wrote : (written.shared ≡ self.shared) × WritesWon c.args.value answer.result.0 (arc_value self.shared).tags
    (Caching get.new.self) (Caching written.cache) = search (rules, inl, inr) in (
      look.ensures.0 ∙ wrote.0,
      gets_tag (DoesGetWrite c.args.value) (Tells Ordinary) (Caching self.cache) (Caching written.cache)
          (Caching look.new.self.cache) get.result refl
          (gets_and_writes get.result c.deref.ensures get.ensures.does answer.ensures.answer wrote.1)
          answer.ensures.answer answer.ensures.left c.get_code.ensures.code c.get_code.type_inv
          (ap (λ s. arc_value s) wrote.0) look.ensures.1 look.type_inv,
    )
