-- The steps are quiet, so the answer is the choice, and the tags of a choice are held afterwards.
use Rattle.tag_search.proofs.Uses.{Layout, reduced, word_of, ℕ}
use Rattle.tag_search.proofs.Held.{batch_get_held}
use Rattle.tag_search.proofs.plain.PlainPort.choose_batch.Goals as goal

pub returns-clause-held : goal.returns-clause-held
returns-clause-held c straight =
    let l : Layout = c.args.self.now.layout in let hint : ℕ = reduced l.depth c.args.hint.now.at in
    batch_get_held l c.args.n (word_of l hint) c.args.self.now c.get_batch.new.port c.in-Ok.answer
    (c.in-Ok.ensures.steps straight)
