-- What finishes the get is with its first try the whole of it, and the hand looks after what that left free.
use Rattle.tag_c.proofs.Uses.{ap, arc_value, Bare, DoesGet, Ok, refl, ◌∙◌}
use Rattle.tag_pool.specs.declared.kind.Kind.TheVariants.{Ordinary}
use Rattle.tag_c.specs.Telling.{Tells}
use Rattle.tag_c.proofs.Begun.{tried_in}
use Rattle.tag_c.proofs.Looking.{gets_tag}
use Rattle.tag_c.proofs.Runs.{tag_fits}
use Rattle.tag_c.proofs.member.Member.finish_get.Goals as goal

pub finish_get-found-requires-clause-begun : goal.finish_get-found-requires-clause-begun
finish_get-found-requires-clause-begun c = let begun = c.requires in
    (begun.0.hand, tried_in c.args.rest begun.0 c.args.self.now c.deref.result.now c.deref.ensures begun.1)

pub get_code-requires : goal.get_code-requires
get_code-requires c = let begun = c.requires in let found = c.finish_get-found.result in
    tag_fits c.deref.result.now _ (Ok found) refl
    (c.finish_get-found.ensures.finishes begun.0.hand
    (tried_in c.args.rest begun.0 c.args.self.now c.deref.result.now c.deref.ensures begun.1)).gets.tag

pub returns : goal.returns
returns c = λ before tried. let get = c.finish_get-found in let look = c.look_after in
    let same = ap (λ s. arc_value s) tried.0 in (
      look.ensures.0 ∙ tried.0,
      gets_tag DoesGet (Tells Ordinary) (Bare before.hand) (Bare get.new.hand) (Bare look.new.self.hand)
          (Ok get.result) (c.deref.ensures ∙ same)
          (get.ensures.finishes before.hand
          (tried_in c.args.rest before c.args.self.now c.deref.result.now c.deref.ensures tried))
          refl refl c.get_code.ensures.code c.get_code.type_inv same look.ensures.1 look.type_inv,
    )
