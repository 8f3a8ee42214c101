-- Each pass appends the byte of the next offset.
use Rattle.tag_script.proofs.Uses.{[], held_byte, plain_world_of, rules, sym, ◌∙◌}
use Rattle.std.proofs.Common.{◌≡◌, ◌∷◌, ◌++◌}
use Rattle.tag_script.proofs.TextFacts.{map_range-next}
use Rattle.tag_script.proofs.plain_caller.PlainCaller.dump.Goals as goal

pub loop-offset-preserved : goal.loop-offset-preserved
loop-offset-preserved c =
    let pushed : c.push.new.self.items ≡ c.loop-offset.bytes.items ++ c.held_byte.result ∷ [] = search rules in
    pushed ∙ (λ z. c.loop-offset.invariant z ++ c.held_byte.ensures z ∷ [])
    ∙ sym (map_range-next (held_byte (plain_world_of c.args.self.now)) c.loop-offset.offset)
