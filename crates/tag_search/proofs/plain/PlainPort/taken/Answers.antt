-- The bit of the tag in the word is whether it is taken, and the bit in the cleared set whether it is aside.
use Rattle.std.specs.Prelude.{◌<◌, ◌≡◌}
use Rattle.tag_search.proofs.Uses.{ap, get_or, place_of, Plain, refl, subst, word_of, ℕ, ◌∙◌}
use Rattle.tag_search.proofs.Seen.{seen, reads_word, reads_aside}
use Rattle.tag_search.proofs.PlainFacts.{tells_taken, tells_free}
use Rattle.tag_search.proofs.PlainPools.{busy_iff}
use Rattle.tag_search.proofs.plain.PlainPort.taken.Goals as goal

pub returns-then-index-bit-ne0-clause-taken : goal.returns-then-index-bit-ne0-clause-taken
returns-then-index-bit-ne0-clause-taken c =
    let p = seen c.self.inside in let r = c.word_of-word.result in
    let e : r ≡ word_of p.layout c.args.tag = c.word_of-word.ensures.value in
    let near = c.word_of-word.ensures.within in
    let is = (reads_word p p refl c.self.invariant r near c.index.result.now c.index.ensures).is
    ∙ ap (λ (x : ℕ). get_or p.word x 0) e in
    let a = c.index-then-index-bit-ne0 in
    let is' = (reads_aside p p refl c.self.invariant r near a.result.now a.ensures).is
    ∙ ap (λ (x : ℕ). get_or p.aside x 0) e in
    rw (← c.self.view_is) (tells_taken p (word_of p.layout c.args.tag) (place_of p.layout c.args.tag) c.index.result.now
    a.result.now c.bit_of-bit.result c.bit_of-bit.ensures.value is is' c.if-index-bit-ne0.true)

pub returns-then-index-bit-ne0-clause-busy : goal.returns-then-index-bit-ne0-clause-busy
returns-then-index-bit-ne0-clause-busy c =
    busy_iff _ _ _ _ (subst (λ (p : Plain). place_of p.layout c.args.tag < 64) c.self.view_is
    c.bit_of-bit.ensures.width)
    (returns-then-index-bit-ne0-clause-taken c)

pub returns-else-index-bit-ne0-clause-taken : goal.returns-else-index-bit-ne0-clause-taken
returns-else-index-bit-ne0-clause-taken c =
    let p = seen c.self.inside in let r = c.word_of-word.result in
    let is =
    (reads_word p p refl c.self.invariant r c.word_of-word.ensures.within c.index.result.now c.index.ensures).is
    ∙ ap (λ (x : ℕ). get_or p.word x 0) c.word_of-word.ensures.value in
    rw (← c.self.view_is) (tells_free p (word_of p.layout c.args.tag) (place_of p.layout c.args.tag) c.index.result.now
    c.bit_of-bit.result c.bit_of-bit.ensures.value is c.if-index-bit-ne0.false)

pub returns-else-index-bit-ne0-clause-busy : goal.returns-else-index-bit-ne0-clause-busy
returns-else-index-bit-ne0-clause-busy c =
    busy_iff _ _ _ _ (subst (λ (p : Plain). place_of p.layout c.args.tag < 64) c.self.view_is
    c.bit_of-bit.ensures.width)
    (returns-else-index-bit-ne0-clause-taken c)
