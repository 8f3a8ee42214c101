-- The tag has its own number in one of the two sets, and what happens to it there happens to the tag.
use Rattle.tag_pool.proofs.Uses.{Ordinary, Reserved}
use Rattle.tag_pool.proofs.Clearing.{cleared, for_ordinary, for_reserved, refused}
use Rattle.tag_pool.proofs.pool.Pool.clear_quietly.Goals as goal

pub returns-in_err-clear-clause-does : goal.returns-in_err-clear-clause-does
returns-in_err-clear-clause-does g c =
    let pool = c.args.self.now in let hand = c.args.hand.now in let did = c.in_err-clear.ensures in
    let is = for_reserved pool hand c.requires.hand c.args.tag c.if-tag-hand.true in
    refused pool hand c.requires.hand Reserved _ _ is _ c.from_residual.result
    c.from_residual.ensures.1 did.refusals.first _ did.refusals.same

pub returns-then-tag-hand-clause-does : goal.returns-then-tag-hand-clause-does
returns-then-tag-hand-clause-does g c =
    let pool = c.args.self.now in let hand = c.args.hand.now in let did = c.in_ok-clear.ensures in
    let is = for_reserved pool hand c.requires.hand c.args.tag c.if-tag-hand.true in
    cleared pool hand c.requires.hand Reserved _ _ is did.refusals.passes _ did.puts did.back did.bound

pub returns-in_err-clear-2-clause-does : goal.returns-in_err-clear-2-clause-does
returns-in_err-clear-2-clause-does g c =
    let pool = c.args.self.now in let hand = c.args.hand.now in let did = c.in_err-clear-2.ensures in
    let is = for_ordinary pool hand c.requires.hand c.args.tag c.if-tag-hand.false in
    refused pool hand c.requires.hand Ordinary _ _ is _ c.from_residual-in_err-clear-2.result
    c.from_residual-in_err-clear-2.ensures.1 did.refusals.first _ did.refusals.same

pub returns-clause-does : goal.returns-clause-does
returns-clause-does g c =
    let pool = c.args.self.now in let hand = c.args.hand.now in let did = c.in_ok-clear-2.ensures in
    let is = for_ordinary pool hand c.requires.hand c.args.tag c.if-tag-hand.false in
    cleared pool hand c.requires.hand Ordinary _ _ is did.refusals.passes _ did.puts did.back did.bound
