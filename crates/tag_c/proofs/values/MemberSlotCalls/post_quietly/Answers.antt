-- The hand does what the call of `tag_pool` does, and its number fits into 32 bits.
use Rattle.tag_c.proofs.Uses.{Bare, code_of_done, refl, sym, ◌∙◌}
use Rattle.tag_c.specs.Calls.{DoesPost}
use Rattle.tag_c.specs.Codes.{counted}
use Rattle.tag_c.proofs.Calling.{done_code, through}
use Rattle.tag_c.proofs.values.MemberSlotCalls.post_quietly.Goals as goal

pub returns : goal.returns
returns c = let call = c.post in (
  refl,
  through (DoesPost c.args.tag) code_of_done {old = Bare c.args.self.now.hand} {new = Bare call.new.hand}
      {answer = counted 0 call.result} (c.done_code.ensures ∙ sym (done_code 0 call.result)) c.done_code.type_inv
      c.deref.ensures (call.result, refl, call.ensures.does),
)
