-- A sweep that finds nothing changes nothing, and one that finds a mask empties the cleared set and frees its places.
use Rattle.std.specs.Prelude.{◌<◌, ◌^◌, ◌∷◌}
use Rattle.tag_search.proofs.Uses.{[], arith, IsIn, LookAside, set, Spill, spilled, subst, Swap, without, WritesBits, ℕ}
use Rattle.tag_search.proofs.Seen.{seen, reads_word, reads_aside}
use Rattle.tag_search.proofs.PlainFacts.{sweeps_none, ran_sweep}
use Rattle.tag_search.proofs.Writings.{writes_without, tidy_sweep}
use Rattle.tag_search.proofs.plain_steps.PlainPortPort.sweep.Goals as goal

pub returns-then-mask-eq0-clause-steps : goal.returns-then-mask-eq0-clause-steps
returns-then-mask-eq0-clause-steps c =
    let p = seen c.self.inside in let i = c.args.word in let mask = c.index-mask.result.now in
    rw (← c.self.view_is) (sweeps_none p i mask
    (reads_aside p _ c.self.view_is c.self.invariant i c.requires.word mask c.index-mask.ensures) c.if-mask-eq0.true)

pub invariant_of-self : goal.invariant_of-self
invariant_of-self c =
    let p = seen c.self.inside in
    let i = c.args.word in let mask = c.index-mask.result.now in let found = c.index_mut-2.result.now in
    let fits : found < 2 ^ 64 = omega arith in let narrow : mask < 2 ^ 64 = omega arith in
    tidy_sweep p i mask mask found c.self.invariant
    (reads_word p _ c.self.view_is c.self.invariant i c.requires.word found c.index_mut-2.ensures.value)
    (reads_aside p _ c.self.view_is c.self.invariant i c.requires.word mask c.index-mask.ensures) fits narrow

pub returns-clause-word : goal.returns-clause-word
returns-clause-word c =
    let p = seen c.self.inside in
    let i = c.args.word in let mask = c.index-mask.result.now in let found = c.index_mut-2.result.now in
    let has = reads_word p _ c.self.view_is c.self.invariant i c.requires.word found c.index_mut-2.ensures.value in
    let set_aside = reads_aside p _ c.self.view_is c.self.invariant i c.requires.word mask c.index-mask.ensures in
    let fits : found < 2 ^ 64 = omega arith in let narrow : mask < 2 ^ 64 = omega arith in
    rw (← c.self.view_is)
    (subst (λ (x : ℕ). WritesBits p.word (set p.word i (without found mask)) i (IsIn x) 0) set_aside.is
    (writes_without p.word i found mask has fits narrow))

pub returns-clause-steps : goal.returns-clause-steps
returns-clause-steps c =
    let p = seen c.self.inside in
    let i = c.args.word in let mask = c.index-mask.result.now in let found = c.index_mut-2.result.now in
    let has = reads_word p _ c.self.view_is c.self.invariant i c.requires.word found c.index_mut-2.ensures.value in
    let set_aside = reads_aside p _ c.self.view_is c.self.invariant i c.requires.word mask c.index-mask.ensures in
    let fits : mask < 2 ^ 64 = omega arith in
    rw (← c.self.view_is) (record {
      steps = LookAside i mask ∷ Swap i mask ∷ Spill i mask found ∷ [];
      added = ran_sweep p i mask found has set_aside;
      holds = spilled c.if-mask-eq0.false c.if-mask-eq0.false fits;
    })
