-- The mask is the bit of the held tag alone, and the step is added to the caller's own list.
use Rattle.std.specs.Prelude.{◌<◌, ◌^◌, ◌≡◌}
use Rattle.tag_search.proofs.Uses.{alone_named, Holds, is_one, layout_of, less_like, place_of, place_of-below, Shape, subst, sym, word_of, word_of-below, ℕ}
use Rattle.std.proofs.Math.Pow.{pow-lt}
use Rattle.tag_search.proofs.AloneCallers.{own_give, place_small}
use Rattle.tag_search.proofs.on_map.give.Goals as goal

pub give-requires-clause-within : goal.give-requires-clause-within
give-requires-clause-within g c =
    let l = layout_of c.args.map.now in let tag = c.args.tag in
    let low : tag < l.depth = subst (λ (k : Shape). tag < k.layout.depth) c.requires.caller.1 c.requires.held.0 in
    rw (c.word_of.ensures.value, c.bit_of.ensures.value, c.layout-layout.ensures)
    (word_of-below l tag low, pow-lt (place_of-below l tag low))

pub give-requires-clause-held : goal.give-requires-clause-held
give-requires-clause-held g c = λ other below named.
    let is : other ≡ c.args.tag = alone_named c.args.map.now.shape c.args.map.now.small.1 c.args.tag other
    (rw (c.word_of.ensures.value, c.bit_of.ensures.value, c.layout-layout.ensures) at named) in
    subst (λ (t : ℕ). Holds c.args.caller.now t) (sym is) c.requires.held

pub returns-clause-alone : goal.returns-clause-alone
returns-clause-alone g c =
    let m = c.args.map.now in let l = layout_of m in let tag = c.args.tag in
    let low : tag < l.depth = subst (λ (k : Shape). tag < k.layout.depth) c.requires.caller.1 c.requires.held.0 in
    let step = rw (c.word_of.ensures.value, c.bit_of.ensures.value, c.layout-layout.ensures) at c.give.ensures.step in
    own_give c.args.caller.now c.give.new.caller (word_of l tag) (2 ^ place_of l tag) step.0
    (pow-lt (place_small l tag low m.small.1)) step.1

pub returns-clause-released : goal.returns-clause-released
returns-clause-released g c =
    let m = c.args.map.now in let tag = c.args.tag in less_like (is_one m.shape m.small.1 tag)
    (rw (c.word_of.ensures.value, c.bit_of.ensures.value, c.layout-layout.ensures) at c.give.ensures.released)
