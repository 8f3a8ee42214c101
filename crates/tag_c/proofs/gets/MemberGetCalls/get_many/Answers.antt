-- The hand does what the call of `tag_pool` does, and looks after what that left free; a refused call leaves
-- the list as it was.
use Rattle.std.specs.Prelude.{◌<◌}
use Rattle.tag_c.proofs.Uses.{Bare, mag, refl, rules}
use Rattle.tag_pool.specs.declared.kind.Kind.TheVariants.{Ordinary}
use Rattle.tag_c.specs.Calls.{DoesGetMany}
use Rattle.tag_c.specs.Codes.{code_of_many}
use Rattle.tag_c.specs.Left.{left_of_many}
use Rattle.tag_c.specs.Telling.{Tells}
use Rattle.tag_c.proofs.Looking.{gets_and_looks}
use Rattle.tag_c.proofs.Unfilled.{many_unfilled}
use Rattle.tag_c.proofs.gets.MemberGetCalls.get_many.Goals as goal

pub returns-clause-calls : goal.returns-clause-calls
returns-clause-calls c = let get = c.get_many_quietly-answer in let code = c.many_code_and_left-code in
    let look = c.look_after in let small : mag code.result.0 < 2147483648 = search rules in (
      look.ensures.0,
      gets_and_looks (DoesGetMany c.args.tags.now get.new.tags) code_of_many left_of_many (Tells Ordinary)
          {old = Bare c.args.self.now.hand} {between = Bare get.new.hand} {new = Bare look.new.self.hand}
          {answer = get.result} c.deref.ensures get.ensures.does code.ensures.left code.ensures.code small refl
          look.ensures.1 look.type_inv,
    )

pub returns-clause-kept : goal.returns-clause-kept
returns-clause-kept c = many_unfilled (returns-clause-calls c).1
