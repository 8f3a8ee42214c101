-- Each word's tags are tested at once: those before it are held, and those past the last word are none of the mask's.
use Rattle.std.specs.Prelude.{◌≡◌}
use Rattle.tag_pool.proofs.Uses.{ap, arith, Layout, rules, word_of, ℕ, ◌∙◌}
use Rattle.tag_core.specs.Callers.{Holds}
use Rattle.tag_pool.proofs.MaskTags.{place_one}
use Rattle.tag_pool.proofs.MaskParts.{start_le}
use Rattle.tag_pool.proofs.MaskHolds.{all_in, each_in, near, last_below, holds_more, holds_part}
use Rattle.tag_pool.proofs.clears.masks.words.are_held_across.Goals as goal

pub loop-word-init : goal.loop-word-init
loop-word-init g c = λ t one low. let l = c.args.map.now.shape.layout in let first : ℕ = c.args.first in
    let from : c.word_of-from.result ≡ word_of l first = c.word_of-from.ensures.value
    ∙ ap (λ (x : Layout). word_of x first) c.layout-layout.ensures in
    let is = place_one first c.args.mask t one in let high = is.0 in
    let le = start_le l first c.word_of-from.result (omega (arith, from)) in absurd (omega arith)

pub part_in-requires-clause-near : goal.part_in-requires-clause-near
part_in-requires-clause-near g c = let test = c.loop-word-test.true in let to = c.word_of-to.ensures.value in
    near c.layout-layout.result c.args.first c.args.mask c.args.last c.loop-word.word c.ranges.mask.fits
    c.requires.last.0 (omega arith)

pub returns-then-not-holds_all : goal.returns-then-not-holds_all
returns-then-not-holds_all g c = (
  λ t. absurd (let z = t in cc),
  λ all. absurd (let n = c.if-not-holds_all.true in
      let e = c.holds_all.ensures.1 (holds_part c.args.map.now c.args.caller.now c.requires.caller c.layout-layout.result
      c.layout-layout.ensures c.args.first c.args.mask c.loop-word.word c.part_in.result c.part_in.ensures.bits
      (each_in c.args.first c.args.mask c.ranges.mask.fits (Holds c.args.caller.now) all)) in cc),
)

pub loop-word-preserved : goal.loop-word-preserved
loop-word-preserved g c = holds_more c.args.map.now c.args.caller.now c.requires.caller c.layout-layout.result
    c.layout-layout.ensures c.args.first c.args.mask c.loop-word.word c.part_in.result c.part_in.ensures.bits
    (c.holds_all.ensures.0 (search rules)) c.loop-word.invariant

pub returns : goal.returns
returns g c = let l = c.args.map.now.shape.layout in let last : ℕ = c.args.last in
    let to : c.word_of-to.result ≡ word_of l last = c.word_of-to.ensures.value
    ∙ ap (λ (x : Layout). word_of x last) c.layout-layout.ensures in
    let stop = c.loop-word-test.false in (
      λ t. all_in c.args.first c.args.mask c.ranges.mask.fits (Holds c.args.caller.now) (λ u one.
          c.loop-word.invariant u one (last_below l c.args.first c.args.mask last c.loop-word.word u c.requires.last.0
          (omega arith) one)),
      λ h. search rules,
    )
