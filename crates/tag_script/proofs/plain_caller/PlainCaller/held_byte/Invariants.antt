-- The byte is the sum of the values of the bits so far.
use Rattle.tag_script.proofs.Uses.{bit_value, plain_world_of, sum_below}
use Rattle.std.proofs.Common.{◌≡◌}
use Rattle.tag_script.proofs.plain_caller.PlainCaller.held_byte.Given as goal

-- the byte is the sum of the values of the bits so far
abbrev pub invariant-loop-bit : goal.invariant-loop-bit
invariant-loop-bit l = l.byte ≡ sum_below (bit_value (plain_world_of l.fn.self) l.offset) l.bit
