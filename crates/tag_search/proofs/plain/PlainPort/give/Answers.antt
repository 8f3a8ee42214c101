-- A give clears bits of one word at places that are not set aside, so the words stay tidy.
use Rattle.std.specs.Prelude.{◌<◌, ◌^◌, ◌≡◌}
use Rattle.tag_search.proofs.Uses.{arith, bit_at, IsTaken, length, length-set, Plain, set, subst, sym, without, ℕ}
use Rattle.tag_search.proofs.Seen.{seen, reads_word}
use Rattle.tag_search.proofs.PlainFacts.{ran_give}
use Rattle.tag_search.proofs.PlainPools.{ran_give_pool}
use Rattle.tag_search.proofs.Writings.{writes_without, tidy_clear}
use Rattle.tag_search.proofs.plain.PlainPort.give.Goals as goal

pub invariant_of-self : goal.invariant_of-self
invariant_of-self c =
    let p = seen c.self.inside in
    let i = c.args.word in let mask = c.args.mask in let found = c.index_mut.result.now in
    let has = reads_word p _ c.self.view_is c.self.invariant i c.requires.word found c.index_mut.ensures.value in
    let fits : found < 2 ^ 64 = omega arith in let narrow : mask < 2 ^ 64 = omega arith in
    let taken : (place : ℕ) → bit_at mask place ≡ 1 → IsTaken p i place =
    subst (λ (x : Plain). (place : ℕ) → bit_at mask place ≡ 1 → IsTaken x i place) (sym c.self.view_is)
    c.requires.taken in
    tidy_clear p (set p.word i (without found mask)) p.aside i mask c.self.invariant
    (length-set p.word i (without found mask)) (λ _. length p.aside)
    (writes_without p.word i found mask has fits narrow) (λ j k one. one)
    (λ k one is_in. let no = (taken k is_in).not_aside in absurd (omega arith))

pub returns-clause-word : goal.returns-clause-word
returns-clause-word c =
    let p = seen c.self.inside in
    let i = c.args.word in let mask = c.args.mask in let found = c.index_mut.result.now in
    let has = reads_word p _ c.self.view_is c.self.invariant i c.requires.word found c.index_mut.ensures.value in
    let fits : found < 2 ^ 64 = omega arith in let narrow : mask < 2 ^ 64 = omega arith in
    rw (← c.self.view_is) (writes_without p.word i found mask has fits narrow)

pub returns-clause-pool : goal.returns-clause-pool
returns-clause-pool c =
    let p = seen c.self.inside in
    let i = c.args.word in let mask = c.args.mask in let found = c.index_mut.result.now in
    let has = reads_word p _ c.self.view_is c.self.invariant i c.requires.word found c.index_mut.ensures.value in
    let narrow : mask < 2 ^ 64 = omega arith in
    rw (← c.self.view_is) (ran_give_pool p (record p { word = set p.word i (without found mask) }) i mask found narrow
    (ran_give p i mask found has))

pub returns-clause-step : goal.returns-clause-step
returns-clause-step c =
    let p = seen c.self.inside in let i = c.args.word in let found = c.index_mut.result.now in
    let has = reads_word p _ c.self.view_is c.self.invariant i c.requires.word found c.index_mut.ensures.value in
    let is = has.is in rw (← c.self.view_is, ← is) (ran_give p i c.args.mask found has)
