-- Each bit of the shifted mask is one of the batch, and stands at that tag's place.
use Rattle.tag_bench.proofs.Uses.{ap, arith, bit_at, eqb-true, Layout, layout_of, mod_below, place_of, subst, sym, word_bits, word_of, ℕ, ◌∙◌}
use Rattle.std.proofs.Common.{◌≡◌, ◌+◌, ◌-◌, ◌*◌, ◌%◌, ◌^◌, ◌<◌, ◌==◌}
use Rattle.tag_layout.proofs.PlaceFacts.{word_bits-le, word_bits-pos, tag_at-back}
use Rattle.tag_core.specs.Callers.{Holds}
use Rattle.tag_search.proofs.OneTag.{both_true}
use Rattle.tag_bench.proofs.Shifts.{bit-of_shifted}
use Rattle.tag_bench.proofs.batches.give_run.Goals as goal

pub give-requires-clause-held : goal.give-requires-clause-held
give-requires-clause-held c = λ tag below named.
    let l = layout_of c.args.map.now in let first = c.args.first in let p = c.place_of.result in
    let q = place_of l tag in
    let same : c.layout-layout.result ≡ l = c.layout-layout.ensures in
    let word : c.word_of-word.result ≡ word_of l first = c.word_of-word.ensures.value
    ∙ ap (λ (x : Layout). word_of x first) same in
    let at : p ≡ place_of l first = c.place_of.ensures.value ∙ ap (λ (x : Layout). place_of x first) same in
    let both = both_true (word_of l tag == c.word_of-word.result) (bit_at (c.args.won * 2 ^ p % 2 ^ 64) q == 1) named in
    let here : word_of l tag ≡ word_of l first = eqb-true (word_of l tag) c.word_of-word.result both.0 ∙ word in
    let low : q < word_bits l = mod_below tag (word_bits l) (word_bits-pos l) in
    let small : q < 64 = let few = word_bits-le l c.args.map.now.small.1 in omega arith in
    let bit = bit-of_shifted c.args.won p q small (eqb-true (bit_at (c.args.won * 2 ^ p % 2 ^ 64) q) 1 both.1) in
    let is : tag ≡ first + (q - p) =
    let ours = tag_at-back l tag in let theirs = tag_at-back l first in
    let one : word_of l tag * word_bits l ≡ word_of l first * word_bits l = ap (λ (w : ℕ). w * word_bits l) here in
    omega (arith, bit.0) in
    subst (λ (t : ℕ). Holds c.args.caller.now t) (sym is) (c.requires.held (q - p) bit.1)
