-- A put sets one bit of a cleared set, at a place that is taken, so the words stay tidy.
use Rattle.std.specs.Prelude.{◌^◌, ◌∷◌, ◌≡◌}
use Rattle.tag_search.proofs.Uses.{[], ap, bit_at, bit_or, get_or, IsTaken, length-set, place_of, Plain, Put, refl, RunsAlone, set, subst, sym, word_of, ℕ, ◌∙◌}
use Rattle.tag_search.proofs.Seen.{seen, reads_aside}
use Rattle.tag_search.proofs.PlainFacts.{ran_put_at}
use Rattle.tag_search.proofs.PlainPools.{ran_put_pool}
use Rattle.tag_search.proofs.Writings.{writes_place, tidy_put}
use Rattle.tag_search.proofs.plain.PlainPort.put.Goals as goal

pub invariant_of-self : goal.invariant_of-self
invariant_of-self c =
    let p = seen c.self.inside in let k : ℕ = place_of p.layout c.args.tag in
    let r = c.word_of-word.result in let bit = c.bit_of-bit.result in let found = c.index_mut.result.now in
    let has = reads_aside p p refl c.self.invariant r c.word_of-word.ensures.within found c.index_mut.ensures.value in
    let taken : IsTaken p (word_of p.layout c.args.tag) k =
    subst (λ (x : Plain). IsTaken x (word_of x.layout c.args.tag) (place_of x.layout c.args.tag)) (sym c.self.view_is)
    c.requires.taken in
    let was : bit_at (get_or p.word r 0) k ≡ 1 = subst (λ (x : ℕ). bit_at (get_or p.word x 0) k ≡ 1)
    (sym c.word_of-word.ensures.value) taken.taken in
    tidy_put p (set p.aside r (bit_or found bit)) r k c.self.invariant (length-set p.aside r (bit_or found bit)) was
    (writes_place p.aside r r found bit k (λ _. r) c.bit_of-bit.ensures.value has)

pub returns-clause-aside : goal.returns-clause-aside
returns-clause-aside c =
    let p = seen c.self.inside in
    let r = c.word_of-word.result in let bit = c.bit_of-bit.result in let found = c.index_mut.result.now in
    let has = reads_aside p p refl c.self.invariant r c.word_of-word.ensures.within found c.index_mut.ensures.value in
    rw (← c.self.view_is)
    (writes_place p.aside r (word_of p.layout c.args.tag) found bit (place_of p.layout c.args.tag)
    c.word_of-word.ensures.value c.bit_of-bit.ensures.value has)

pub returns-clause-pool : goal.returns-clause-pool
returns-clause-pool c =
    let p = seen c.self.inside in let i : ℕ = word_of p.layout c.args.tag in
    let k : ℕ = place_of p.layout c.args.tag in
    let r = c.word_of-word.result in let bit = c.bit_of-bit.result in let found = c.index_mut.result.now in
    let has = reads_aside p p refl c.self.invariant r c.word_of-word.ensures.within found c.index_mut.ensures.value in
    rw (← c.self.view_is) (ran_put_pool p (record p { aside = set p.aside r (bit_or found bit) }) i k found
    c.bit_of-bit.ensures.width
    (ran_put_at p i r k bit found c.word_of-word.ensures.value c.bit_of-bit.ensures.value has))

pub returns-clause-step : goal.returns-clause-step
returns-clause-step c =
    let p = seen c.self.inside in let i : ℕ = word_of p.layout c.args.tag in
    let k : ℕ = place_of p.layout c.args.tag in
    let r = c.word_of-word.result in let bit = c.bit_of-bit.result in let found = c.index_mut.result.now in
    let has = reads_aside p p refl c.self.invariant r c.word_of-word.ensures.within found c.index_mut.ensures.value in
    let e : r ≡ i = c.word_of-word.ensures.value in rw (← c.self.view_is)
    (subst (λ (x : ℕ). RunsAlone p (Put i (2 ^ k) x ∷ []) (record p { aside = set p.aside r (bit_or found bit) }))
    (has.is ∙ ap (λ (x : ℕ). get_or p.aside x 0) e) (ran_put_at p i r k bit found e c.bit_of-bit.ensures.value has))
