-- A quiet post leaves nothing to see to.
use Rattle.tag_c.proofs.Uses.{arc_value, Bare, refl}
use Rattle.tag_c.specs.Calls.{DoesPost}
use Rattle.tag_c.specs.Telling.{TellsOfKept}
use Rattle.tag_c.proofs.Endings.{ended, posted}
use Rattle.tag_c.proofs.values.MemberSlotCalls.post.Goals as goal

pub returns : goal.returns
returns c = let call = c.post_quietly in let through = call.ensures.1 in (
  call.ensures.0,
  ended (DoesPost c.args.tag) TellsOfKept {state = arc_value c.args.self.now.shared} {old = Bare c.args.self.now.hand}
      {between = Bare call.new.self.hand} through.0 call.type_inv refl through.2 (posted through.0 through.1),
)
