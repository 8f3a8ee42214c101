-- The cache does what the call of `tag_cache` does, and the hand looks after what that left free; a refused call leaves
-- the list as it was.
use Rattle.std.specs.Prelude.{◌<◌}
use Rattle.tag_c.proofs.Uses.{Caching, mag, refl, rules}
use Rattle.tag_pool.specs.declared.kind.Kind.TheVariants.{Ordinary}
use Rattle.tag_c.specs.Calls.{DoesGetMany}
use Rattle.tag_c.specs.Codes.{code_of_many}
use Rattle.tag_c.specs.Left.{left_of_many}
use Rattle.tag_c.specs.Telling.{Tells}
use Rattle.tag_c.proofs.Looking.{gets_and_looks}
use Rattle.tag_c.proofs.Unfilled.{many_unfilled}
use Rattle.tag_c.proofs.gets.CachedMemberGetCalls.get_many.Goals as goal

pub returns-clause-calls : goal.returns-clause-calls
returns-clause-calls c = let get = c.get_many_quietly-answer in let code = c.many_code_and_left-code in
    let look = c.look_after in let small : mag code.result.0 < 2147483648 = search rules in (
      look.ensures.0,
      gets_and_looks (DoesGetMany c.args.tags.now get.new.tags) code_of_many left_of_many (Tells Ordinary)
          {old = Caching c.args.self.now.cache} {between = Caching get.new.self} {new = Caching look.new.self.cache}
          {answer = get.result} c.deref.ensures get.ensures.does code.ensures.left code.ensures.code small refl
          look.ensures.1 look.type_inv,
    )

pub returns-clause-kept : goal.returns-clause-kept
returns-clause-kept c = many_unfilled (returns-clause-calls c).1
