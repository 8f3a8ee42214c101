-- The list has the bytes of the offsets so far, in order.
use Rattle.tag_script.proofs.Uses.{held_byte, map, plain_world_of, range}
use Rattle.std.proofs.Common.{◌≡◌}
use Rattle.tag_script.proofs.plain_caller.PlainCaller.dump.Given as goal

-- the list has the bytes of the offsets so far, in order
abbrev pub invariant-loop-offset : goal.invariant-loop-offset
invariant-loop-offset l = l.bytes.items ≡ map (held_byte (plain_world_of l.fn.self)) (range l.offset)
