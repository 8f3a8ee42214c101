-- A get that found no tag leaves a hand that can wait, and one that is refused leaves all as it was.
use Rattle.std.specs.Prelude.{◌≤◌}
use Rattle.tag_c.proofs.Uses.{ap, arith, inr, layout_of, Option, subst, ℕ}
use Rattle.tag_layout.specs.Layout.{Layout}
use Rattle.tag_c.specs.Rounds.{GetsOver}
use Rattle.tag_c.proofs.Going.{refused_first, waits_after}
use Rattle.tag_c.proofs.rounds.caching.begin_over.Goals as goal

pub returns-in-None-clause-begins : goal.returns-in-None-clause-begins
returns-in-None-clause-begins c = let pool = c.args.pool.now in let old = c.args.cache.now in let kind = c.args.kind in
    let new = c.get_over.new.cache in let does = c.in-Ok.ensures in let answer = c.in-Ok.found.answer in (
      c.if-is_over.false,
      waits_after pool old new kind answer c.in-None.is does.refusals.passes.0 does.gets,
      inr (subst (λ (a : Option ℕ). GetsOver pool kind a old new) c.in-None.is does.gets),
    )

pub returns-in-Err-clause-refusals : goal.returns-in-Err-clause-refusals
returns-in-Err-clause-refusals c = let pool = c.args.pool.now in let kind = c.args.kind in
    let deep = ap (λ (l : Layout). l.depth) c.layout.ensures in let value = c.depth.ensures.value in
    let some : 1 ≤ (layout_of pool kind).depth = omega (arith, c.if-depth-eq0.false) in
    refused_first pool c.args.cache.now c.get_over.new.cache kind c.args.is_over c.in-Err.fault c.if-is_over.false some
    c.in-Err.ensures.refusals
