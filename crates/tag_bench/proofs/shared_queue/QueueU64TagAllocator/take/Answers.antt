-- The hand holds the tag that it takes.
use Rattle.std.proofs.Common.{refl}
use Rattle.tag_bench.proofs.shared_queue.QueueU64TagAllocator.take.Goals as goal

pub returns-clause-held : goal.returns-clause-held
returns-clause-held c = λ _. c.in-Ok.ensures.does.takes.more.joined c.args.tag refl
