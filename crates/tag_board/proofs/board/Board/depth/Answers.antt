-- The board knows the total and the number of reserved tags, and the ordinary ones are the rest.
use Rattle.std.proofs.Common.{◌≡◌, ◌-◌, arith, ap, sym, ◌∙◌}
use Rattle.tag_board.proofs.Uses.{Ordinary, state_of, depth_of}
use Rattle.tag_board.proofs.board.Board.depth.Goals as goal

pub returns-in-Ordinary : goal.returns-in-Ordinary
returns-in-Ordinary c =
    let s = state_of c.args.self.now in let p = c.args.self.now.sizes.0 in let q = c.args.self.now.sizes.1 in
    let z : c.args.self.now.total - c.args.self.now.reserved ≡ depth_of s Ordinary = omega arith in
    z ∙ ap (depth_of s) (sym c.in-Ordinary.is)

pub returns-in-Reserved : goal.returns-in-Reserved
returns-in-Reserved c =
    sym c.args.self.now.sizes.1 ∙ ap (depth_of (state_of c.args.self.now)) (sym c.in-Reserved.is)
