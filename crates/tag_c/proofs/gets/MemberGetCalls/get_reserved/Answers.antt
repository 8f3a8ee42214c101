-- The hand does what the call of `tag_pool` does, and looks after what that left free.
use Rattle.tag_c.proofs.Uses.{Bare, refl}
use Rattle.tag_pool.specs.declared.kind.Kind.TheVariants.{Reserved}
use Rattle.tag_c.specs.Calls.{DoesGetReserved}
use Rattle.tag_c.specs.Telling.{Tells}
use Rattle.tag_c.proofs.Looking.{gets_tag}
use Rattle.tag_c.proofs.Runs.{each, tag_fits}
use Rattle.tag_c.proofs.gets.MemberGetCalls.get_reserved.Goals as goal

pub get_code-requires : goal.get_code-requires
get_code-requires c = let get = c.get_reserved_quietly-found in
    tag_fits c.deref.result.now _ get.result c.answer_and_left-answer.ensures.answer
    (each get.result (λ known gets. gets.tag) get.ensures.does.gets)

pub returns : goal.returns
returns c = let get = c.get_reserved_quietly-found in let answer = c.answer_and_left-answer in
    let look = c.look_after in (
      look.ensures.0,
      gets_tag DoesGetReserved (Tells Reserved) (Bare c.args.self.now.hand) (Bare get.new.hand)
          (Bare look.new.self.hand) get.result c.deref.ensures get.ensures.does answer.ensures.answer
          answer.ensures.left c.get_code.ensures.code c.get_code.type_inv refl look.ensures.1 look.type_inv,
    )
