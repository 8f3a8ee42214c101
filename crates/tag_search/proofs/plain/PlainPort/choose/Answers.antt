-- The steps are quiet, so the answer is the choice, and the tag of a choice is held afterwards.
use Rattle.tag_search.proofs.Uses.{Layout, plain_reach, reduced, word_of, ℕ}
use Rattle.tag_search.proofs.GetFacts.{plain_within}
use Rattle.tag_search.proofs.Held.{get_held}
use Rattle.tag_search.proofs.plain.PlainPort.choose.Goals as goal

pub returns-clause-held : goal.returns-clause-held
returns-clause-held c =
    let l : Layout = c.args.self.now.layout in let hint : ℕ = reduced l.depth c.args.hint.now.at in
    let round_robin = c.args.hint.now.round_robin in
    get_held l (word_of l hint) (plain_reach l round_robin hint) c.args.self.now c.get.new.port c.in-Ok.answer
    (plain_within l round_robin hint) c.in-Ok.ensures.steps
