-- What follows the first try is with it a get, by which the hand gives nothing back.
use Rattle.tag_pool.proofs.Uses.{rules}
use Rattle.tag_pool.proofs.FirstTry.{finishes, rest_gets, rest_low, rest_same}
use Rattle.tag_pool.proofs.pool.Pool.finish_get.Goals as goal

pub invariant_of-side : goal.invariant_of-side
invariant_of-side g c = let begun = c.requires.begun in
    let same = rest_same c.args.self.now.ordinary begun.0.ordinary c.args.hand.now.ordinary c.args.rest
    c.finish-answer.result.answer begun.1.set.changed c.finish-answer.new.caller c.finish-answer.ensures.steps in search rules

pub ordinary_tag-answer-requires : goal.ordinary_tag-answer-requires
ordinary_tag-answer-requires g c = let begun = c.requires.begun in
    rest_low c.args.self.now.ordinary begun.0.ordinary c.args.hand.now.ordinary c.args.rest c.finish-answer.result.answer
    begun.1.set.changed c.finish-answer.new.caller c.finish-answer.ensures.steps c.finish-answer.ensures.caller

pub returns-clause-finishes : goal.returns-clause-finishes
returns-clause-finishes g c = λ before tried. let pool = c.args.self.now in let hand = c.args.hand.now in
    let made = c.finish-answer in
    finishes pool before hand c.args.rest tried _ made.result.answer c.ordinary_tag-answer.result made.result.left
    made.ensures.caller c.ordinary_tag-answer.ensures
    (rest_gets pool.ordinary before.ordinary _ hand.ordinary c.args.rest made.result tried.set.changed made.ensures.steps
    made.ensures.hint made.ensures.left)
