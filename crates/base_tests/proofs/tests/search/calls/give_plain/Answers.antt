-- The mask is the bit of the taken tag alone.
use Rattle.base_tests.proofs.Uses.{ap, bit_at, IsTaken, Layout, one_shl, place_of, pow_below, subst, sym, word_depth, word_of, ℕ, ◌∙◌}
use Rattle.std.proofs.Common.{◌≡◌, ◌<◌}
use Rattle.tag_search.proofs.OneTag.{one_place}
use Rattle.base_tests.proofs.tests.search.calls.give_plain.Goals as goal

pub give-requires-clause-mask : goal.give-requires-clause-mask
give-requires-clause-mask c =
    let l = c.args.plain.now.layout in let tag = c.args.tag in let place = c.place_of.result in
    let same : c.layout-layout.result ≡ l = c.layout-layout.ensures.value in
    let word : c.word_of-word.result ≡ word_of l tag = c.word_of-word.ensures.value
    ∙ ap (λ (x : Layout). word_of x tag) same in
    let inside : place < word_depth l (word_of l tag) =
    subst (λ (x : Layout). place < word_depth x (word_of x tag)) same c.place_of.ensures.within in
    rw (one_shl place 64 c.place_of.ensures.bound)
    (pow_below place _ (subst (λ (w : ℕ). place < word_depth l w) (sym word) inside))

pub give-requires-clause-taken : goal.give-requires-clause-taken
give-requires-clause-taken c = λ k one.
    let l = c.args.plain.now.layout in let tag = c.args.tag in let place = c.place_of.result in
    let same : c.layout-layout.result ≡ l = c.layout-layout.ensures.value in
    let word : c.word_of-word.result ≡ word_of l tag = c.word_of-word.ensures.value
    ∙ ap (λ (x : Layout). word_of x tag) same in
    let at : place ≡ place_of l tag = c.place_of.ensures.value ∙ ap (λ (x : Layout). place_of x tag) same in
    let is : k ≡ place = one_place place k
    (subst (λ (m : ℕ). bit_at m k ≡ 1) (one_shl place 64 c.place_of.ensures.bound) one) in
    subst (λ (w : ℕ). IsTaken c.args.plain.now w k) (sym word)
    (subst (λ (p : ℕ). IsTaken c.args.plain.now (word_of l tag) p) (sym (is ∙ at)) c.requires.taken)
