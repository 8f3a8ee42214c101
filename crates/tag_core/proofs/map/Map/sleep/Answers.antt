-- The caller's berth is one of the table's words.
use Rattle.tag_core.proofs.Uses.{arith, layout_of}
use Rattle.tag_core.proofs.FewCallers.{few}
use Rattle.tag_core.proofs.Stand.{berth_in}
use Rattle.tag_core.proofs.map.Map.sleep.Goals as goal

pub park-requires : goal.park-requires
park-requires g c =
    let m = c.args.self.now in let w = c.args.caller.now in
    let inside = berth_in (layout_of m) w.number (few m w c.requires.caller) in
    let is = c.berth_spot.ensures in let wide = m.wide.0 in omega arith
