-- The hand does what the call of `tag_pool` does, and looks after what that left free. The first tag of a
-- run is below the total, so its number fits.
use Rattle.std.specs.Prelude.{◌≡◌}
use Rattle.tag_c.proofs.Uses.{answer_of, ap, Bare, refl, rules, ◌∙◌}
use Rattle.tag_pool.specs.declared.kind.Kind.TheVariants.{Ordinary}
use Rattle.tag_c.specs.Calls.{DoesGetBatch}
use Rattle.tag_c.specs.Codes.{code_of_batch, code_of_found_batch}
use Rattle.tag_c.specs.Left.{left_of, won_of}
use Rattle.tag_c.specs.Telling.{Tells}
use Rattle.tag_c.proofs.Looking.{gets_and_looks}
use Rattle.tag_c.proofs.Runs.{batch_fits}
use Rattle.tag_c.proofs.gets.MemberGetCalls.get_batch.Goals as goal

pub batch_code-requires : goal.batch_code-requires
batch_code-requires c = let get = c.get_batch_quietly-found in let does = get.ensures.does in
    batch_fits c.deref.result.now c.args.self.now.hand get.new.hand get.result
    c.answer_and_left-answer.ensures.answer does.refusals.passes does.round_robin does.gets

pub returns : goal.returns
returns c = let get = c.get_batch_quietly-found in let answer = c.answer_and_left-answer in let look = c.look_after in
    let was = c.args.won.now in let won = c.match-answer.won in let code = c.batch_code in
    let is : won ≡ won_of (answer_of get.result) was = search rules in (
      look.ensures.0,
      gets_and_looks (DoesGetBatch c.args.n was won) code_of_found_batch left_of (Tells Ordinary)
          {old = Bare c.args.self.now.hand} {between = Bare get.new.hand} {new = Bare look.new.self.hand}
          {answer = get.result} c.deref.ensures (get.ensures.does, is) answer.ensures.left
          (code.ensures.code ∙ ap code_of_batch answer.ensures.answer) code.type_inv refl look.ensures.1 look.type_inv,
    )
