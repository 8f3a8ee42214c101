-- The thread holds the tag that its cache answers.
use Rattle.tag_bench.proofs.Cached.{holds_answer}
use Rattle.tag_bench.proofs.shared_cache.CachedTagAllocator.get.Goals as goal

pub returns-clause-held : goal.returns-clause-held
returns-clause-held c = holds_answer _ _ _ c.in-Ok.ensures.gets.gets.more
