-- The steps of the only caller find what its earlier steps left, and a batch get whose steps are quiet is the choice.
use Rattle.tag_search.proofs.AloneFacts.{alone_batch_choice}
use Rattle.tag_search.proofs.laws.alone_batches_choose.Goals as goal

pub returns : goal.returns
returns g c = alone_batch_choice _
