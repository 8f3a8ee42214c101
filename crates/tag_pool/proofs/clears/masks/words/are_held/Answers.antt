-- The tags of one word are held exactly if those are that the bits name at their places in the word.
use Rattle.tag_pool.proofs.Uses.{IsInMask, Shape, subst, ℕ}
use Rattle.tag_pool.proofs.MaskPlaced.{is_placed, holds_placed, placed_holds}
use Rattle.tag_pool.proofs.clears.masks.words.are_held.Goals as goal

pub returns : goal.returns
returns g c = let first : ℕ = c.args.first in let mask : ℕ = c.args.mask in let last : ℕ = c.args.last in
    let map = c.args.map.now in let caller = c.args.caller.now in let word = c.word_of-word.result in
    let here = c.placed.result in
    let at = is_placed c.layout-layout.result map.shape.layout c.layout-layout.ensures first mask last word
    c.word_of.result here c.word_of-word.ensures.value c.word_of.ensures.value c.if-word_of-word.false
    c.placed.ensures.within c.placed.ensures.bits in (
      λ t. holds_placed map caller c.requires.caller first mask last word here c.ranges.mask.fits c.requires.last.0 at
          (c.holds_all.ensures.0 t),
      λ all. c.holds_all.ensures.1 (λ t is. placed_holds map caller c.requires.caller first mask last word here
          c.ranges.mask.fits c.requires.last.0 at all t
          (subst (λ (z : Shape). IsInMask z.layout word here t) c.requires.caller.1 is)),
    )
