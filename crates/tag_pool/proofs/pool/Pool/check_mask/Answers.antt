-- The mask's highest bit is that of its last tag, below which are all others.
use Rattle.std.specs.Prelude.{◌+◌, ◌<◌, ◌≤◌}
use Rattle.tag_pool.proofs.Uses.{All, ap, arith, Layout, layout_of, Ordinary, refl, rules, ℕ}
use Rattle.tag_pool.specs.Masks.{tags_in}
use Rattle.tag_pool.specs.Sides.{Holds}
use Rattle.tag_pool.proofs.MaskChecks.{checked}
use Rattle.tag_pool.proofs.MaskHolds.{is_last}
use Rattle.tag_pool.proofs.pool.Pool.check_mask.Goals as goal

pub ilog2-requires : goal.ilog2-requires
ilog2-requires g c = (checked c.args.self.now c.args.hand.now c.requires.hand c.args.first c.args.mask c.ranges.mask.fits
    c.if-mask-eq0.false c.in-Some.first c.in-Some.mask (c.in-Some.ensures.ordinary.0 refl) c.in-Some.ensures.numbers.1
    c.in-Some.ensures.ones c.in-Some.ensures.small).some

pub returns-then-first-depth : goal.returns-then-first-depth
returns-then-first-depth g c =
    let high : (layout_of c.args.self.now Ordinary).depth ≤ c.in-Some.first = let t = c.if-first-depth.true in
    let d = c.depth-depth.ensures.value in let e = ap (λ (l : Layout). l.depth) c.layout.ensures in omega arith in record {
      refusals = (checked c.args.self.now c.args.hand.now c.requires.hand c.args.first c.args.mask c.ranges.mask.fits
          c.if-mask-eq0.false c.in-Some.first c.in-Some.mask (c.in-Some.ensures.ordinary.0 refl)
          c.in-Some.ensures.numbers.1 c.in-Some.ensures.ones c.in-Some.ensures.small).past_first high;
    }

pub returns-then-last-depth : goal.returns-then-last-depth
returns-then-last-depth g c = let last : ℕ = c.in-Some.first + c.ilog2.result in
    let is = is_last c.in-Some.first c.in-Some.mask c.ilog2.result c.ilog2.ensures.power_le c.ilog2.ensures.next_power_gt in
    let high : (layout_of c.args.self.now Ordinary).depth ≤ last = let t = c.if-last-depth.true in
    let d = c.depth-depth.ensures.value in let e = ap (λ (l : Layout). l.depth) c.layout.ensures in omega arith in record {
      refusals = (checked c.args.self.now c.args.hand.now c.requires.hand c.args.first c.args.mask c.ranges.mask.fits
          c.if-mask-eq0.false c.in-Some.first c.in-Some.mask (c.in-Some.ensures.ordinary.0 refl)
          c.in-Some.ensures.numbers.1 c.in-Some.ensures.ones c.in-Some.ensures.small).past_last last is high;
    }

pub are_held-requires-clause-last : goal.are_held-requires-clause-last
are_held-requires-clause-last g c = (
  is_last c.in-Some.first c.in-Some.mask c.ilog2.result c.ilog2.ensures.power_le c.ilog2.ensures.next_power_gt,
  let t = c.if-last-depth.false in let d = c.depth-depth.ensures.value in
      let e = ap (λ (l : Layout). l.depth) c.layout.ensures in omega arith,
)

pub returns-then-not-are_held : goal.returns-then-not-are_held
returns-then-not-are_held g c = let last : ℕ = c.in-Some.first + c.ilog2.result in
    let is = is_last c.in-Some.first c.in-Some.mask c.ilog2.result c.ilog2.ensures.power_le c.ilog2.ensures.next_power_gt in
    let low : last < (layout_of c.args.self.now Ordinary).depth = let t = c.if-last-depth.false in
    let d = c.depth-depth.ensures.value in let e = ap (λ (l : Layout). l.depth) c.layout.ensures in omega arith in
    let not : ¬ (All (Holds c.args.hand.now.ordinary) (tags_in c.in-Some.first c.in-Some.mask)) = λ all.
    let z = c.are_held.ensures.1 all in let n = c.if-not-are_held.true in cc in record {
      refusals = (checked c.args.self.now c.args.hand.now c.requires.hand c.args.first c.args.mask c.ranges.mask.fits
          c.if-mask-eq0.false c.in-Some.first c.in-Some.mask (c.in-Some.ensures.ordinary.0 refl)
          c.in-Some.ensures.numbers.1 c.in-Some.ensures.ones c.in-Some.ensures.small).not_held last is low not;
    }

pub returns : goal.returns
returns g c = let last : ℕ = c.in-Some.first + c.ilog2.result in
    let is = is_last c.in-Some.first c.in-Some.mask c.ilog2.result c.ilog2.ensures.power_le c.ilog2.ensures.next_power_gt in
    let low : last < (layout_of c.args.self.now Ordinary).depth = let t = c.if-last-depth.false in
    let d = c.depth-depth.ensures.value in let e = ap (λ (l : Layout). l.depth) c.layout.ensures in omega arith in record {
      refusals = (checked c.args.self.now c.args.hand.now c.requires.hand c.args.first c.args.mask c.ranges.mask.fits
          c.if-mask-eq0.false c.in-Some.first c.in-Some.mask (c.in-Some.ensures.ordinary.0 refl)
          c.in-Some.ensures.numbers.1 c.in-Some.ensures.ones c.in-Some.ensures.small).held last is low
          (c.are_held.ensures.0 (search rules));
    }
