-- The hand does what the call of `tag_pool` does, and its number fits into 32 bits.
use Rattle.std.proofs.Common.{rules}
use Rattle.tag_c.proofs.Calling.{through}
use Rattle.tag_c.proofs.values.MemberSlotCalls.read.Goals as goal

pub returns-clause-calls : goal.returns-clause-calls
returns-clause-calls c = search (rules, through)
