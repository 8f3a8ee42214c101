-- The looks of the side that is lent are the hand's.
use Rattle.std.proofs.Common.{[], subst}
use Rattle.std.specs.Prelude.{◌∷◌}
use Rattle.tag_core.specs.Callers.{layout_of}
use Rattle.tag_core.specs.declared.map.Map.{Map}
use Rattle.tag_pool.specs.Looks.{FindsHeld, looks_from, MakesLooks}
use Rattle.tag_pool.specs.declared.side.Side.{Side}
use Rattle.tag_pool.proofs.InOneSet.{changes, holds_same}
use Rattle.tag_pool.proofs.pool.Pool.look_both.Goals as goal

pub returns-clause-looks : goal.returns-clause-looks
returns-clause-looks g c = changes c.args.hand.now c.args.kind c.side_mut.result.now c.look_both.new.self c.side_mut.ensures.value
    (MakesLooks (looks_from c.args.word (c.look_both.result ∷ []))) c.look_both.ensures.looks

pub returns-clause-same : goal.returns-clause-same
returns-clause-same g c = holds_same c.args.hand.now c.args.kind c.side_mut.result.now c.look_both.new.self c.side_mut.ensures.value
    c.look_both.ensures.same

pub returns-clause-held : goal.returns-clause-held
returns-clause-held g c =
    subst (λ (z : Map g.row.R.Denot × Side g.row.R.Denot). FindsHeld (layout_of z.0) z.1 c.args.word c.look_both.result)
    (λ j. (c.map.ensures j, c.side_mut.ensures.value j)) c.look_both.ensures.held
