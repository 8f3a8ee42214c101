-- What the side that was lent gets in its set the hand gets.
use Rattle.tag_pool.proofs.Uses.{Gets, Option, subst, sym, with_side, ℕ}
use Rattle.tag_pool.proofs.LentGets.{lent_gets}
use Rattle.tag_pool.proofs.pool.Pool.get_in_quietly.Goals as goal

pub returns-clause-gets : goal.returns-clause-gets
returns-clause-gets g c = let pool = c.args.self.now in let hand = c.args.hand.now in let kind = c.args.kind in
    let new = c.get.new.self in
    subst (λ (o : Option ℕ). Gets pool kind o hand (with_side hand kind new)) (sym c.tag_in-answer.ensures)
    (lent_gets pool hand c.requires.hand kind c.map.result.now c.map.ensures c.side_mut.result.now new
    c.side_mut.ensures.value c.in_ok-answer.field-0.answer c.get.ensures.side.0 c.in_ok-answer.ensures.gets)
