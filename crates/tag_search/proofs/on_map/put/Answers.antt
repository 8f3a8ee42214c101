-- On a map of one caller the put is the newest step of the whole history, so it sets its place aside in the pool.
use Rattle.std.specs.Prelude.{◌<◌}
use Rattle.tag_search.proofs.Uses.{layout_of, place_of, Shape, subst, word_of}
use Rattle.tag_search.proofs.AloneCallers.{own_put, place_small}
use Rattle.tag_search.proofs.on_map.put.Goals as goal

pub returns-clause-alone : goal.returns-clause-alone
returns-clause-alone g c = let m = c.args.map.now in let l = layout_of m in let tag = c.args.tag in
    let low : tag < l.depth = subst (λ (k : Shape). tag < k.layout.depth) c.requires.caller.1 c.requires.held.0 in
    own_put c.args.caller.now c.put.new.caller (word_of l tag) (place_of l tag) c.put.ensures.step.0
    (place_small l tag low m.small.1) c.put.ensures.step.1
