-- A claim sets bits of one word within its depth, so the words stay tidy and every other bit is unchanged.
use Rattle.tag_search.proofs.Uses.{bit_or, IsWithin, length-set, Plain, set, subst, sym}
use Rattle.tag_search.proofs.Seen.{seen, reads_word}
use Rattle.tag_search.proofs.PlainFacts.{ran_claim}
use Rattle.tag_search.proofs.Writings.{writes_or, tidy_claim}
use Rattle.tag_search.proofs.plain_steps.PlainPortPort.claim.Goals as goal

pub invariant_of-self : goal.invariant_of-self
invariant_of-self c =
    let p = seen c.self.inside in
    let i = c.args.word in let mask = c.args.mask in let found = c.index-found.result.now in
    let has = reads_word p _ c.self.view_is c.self.invariant i c.requires.word found c.index-found.ensures in
    let fits : IsWithin p.layout i mask = subst (λ (x : Plain). IsWithin x.layout i mask) (sym c.self.view_is)
    c.requires.mask in
    tidy_claim p (set p.word i (bit_or found mask)) i mask c.self.invariant (length-set p.word i (bit_or found mask))
    fits (writes_or p.word i found mask has)

pub returns-clause-word : goal.returns-clause-word
returns-clause-word c =
    let p = seen c.self.inside in let i = c.args.word in let found = c.index-found.result.now in
    let has = reads_word p _ c.self.view_is c.self.invariant i c.requires.word found c.index-found.ensures in
    rw (← c.self.view_is) (writes_or p.word i found c.args.mask has)

pub returns-clause-step : goal.returns-clause-step
returns-clause-step c =
    let p = seen c.self.inside in let i = c.args.word in let found = c.index-found.result.now in
    let has = reads_word p _ c.self.view_is c.self.invariant i c.requires.word found c.index-found.ensures in
    rw (← c.self.view_is) (ran_claim p i c.args.mask found has)
