-- The steps are quiet, so the answer is the choice, and the tag of a choice is held afterwards.
use Rattle.tag_search.proofs.Uses.{Layout, reduced, shallow_reach, word_of, ℕ}
use Rattle.tag_search.proofs.GetFacts.{shallow_within}
use Rattle.tag_search.proofs.Held.{get_held}
use Rattle.tag_search.proofs.plain.PlainPort.choose_shallow.Goals as goal

pub returns-clause-held : goal.returns-clause-held
returns-clause-held c =
    let l : Layout = c.args.self.now.layout in let hint : ℕ = reduced l.depth c.args.hint.now.at in
    get_held l (word_of l hint) (shallow_reach l c.args.depth hint) c.args.self.now c.get_shallow.new.port
    c.in-Ok.answer (shallow_within l c.args.depth hint) c.in-Ok.ensures.steps
