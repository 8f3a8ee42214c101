-- Of the numbers of the tags so far, all are freed except those of the last run, whose bits are in the mask.
use Rattle.tag_pool.proofs.Uses.{numbers_of}
use Rattle.tag_pool.proofs.RunsSoFar.{SoFar}
use Rattle.tag_pool.proofs.clears.batches.give_all.Given as goal

abbrev pub invariant-loop-tag : goal.invariant-loop-tag
invariant-loop-tag g l = SoFar l.map (numbers_of l.first l.tags) l.tag-index l.fn.caller l.caller l.word l.mask
