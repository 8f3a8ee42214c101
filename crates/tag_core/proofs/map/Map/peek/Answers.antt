-- The spot is one of the table's words.
use Rattle.tag_core.proofs.Uses.{arith, layout_of, ℕ}
use Rattle.tag_core.proofs.Stand.{word_in}
use Rattle.tag_core.proofs.map.Map.peek.Goals as goal

pub peek-requires : goal.peek-requires
peek-requires g c =
    let m = c.args.self.now in let i : ℕ = c.args.word in let inside = word_in (layout_of m) i c.requires in
    let is = c.word_spot.ensures in let wide = m.wide.0 in omega arith
