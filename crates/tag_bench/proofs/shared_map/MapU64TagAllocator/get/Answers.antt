-- The caller holds the tag that it gains.
use Rattle.tag_bench.proofs.Gained.{holds_answer}
use Rattle.tag_bench.proofs.shared_map.MapU64TagAllocator.get.Goals as goal

pub returns-clause-held : goal.returns-clause-held
returns-clause-held c = holds_answer _ _ _ _ c.in_ok-get.ensures.gains
