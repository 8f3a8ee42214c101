-- The least clear place of 64 is that of the word, if the word uses it.
use Rattle.std.specs.Prelude.{◌<◌, ◌^◌, ◌≡◌}
use Rattle.std.proofs.Math.Nat.{div-eq_of_lt}
use Rattle.tag_search.proofs.Uses.{ap, arith, dec_lt, dite, rules, word_bits, word_bits-le, ℕ}
use Rattle.tag_search.proofs.LowestClear.{lowest_clear, lowest_found, set_below}
use Rattle.tag_search.proofs.place.first_free.Goals as goal

pub returns-then-place-shift-ne0-clause-free : goal.returns-then-place-shift-ne0-clause-free
returns-then-place-shift-ne0-clause-free c place h1 h2 =
    let found : ℕ = lowest_clear c.args.bits c.ranges.bits.fits in let s = c.shift-shift.ensures in
    let few = word_bits-le c.args.layout (omega arith) in
    let bits : 2 ^ c.shift-shift.result ≡ word_bits c.args.layout = ap (λ n. 2 ^ n) s.value in
    dite (dec_lt place found)
    (λ before. set_below c.args.bits c.ranges.bits.fits place before (omega arith))
    (λ past. let none = div-eq_of_lt (let low : found < 2 ^ c.shift-shift.result = omega arith in low) in
    absurd (omega (arith, c.if-place-shift-ne0.true)))

pub returns-then-word-shift-clause-free : goal.returns-then-word-shift-clause-free
returns-then-word-shift-clause-free c place h1 h2 =
    let s = c.shift-shift.ensures in let few = word_bits-le c.args.layout (omega arith) in
    set_below c.args.bits c.ranges.bits.fits place (search rules) (omega arith)

pub returns-clause-free : goal.returns-clause-free
returns-clause-free c =
    let s = c.shift-shift.ensures in let few = word_bits-le c.args.layout (omega arith) in
    let bits : 2 ^ c.shift-shift.result ≡ word_bits c.args.layout = ap (λ n. 2 ^ n) s.value in
    let low : lowest_clear c.args.bits c.ranges.bits.fits < 2 ^ c.shift-shift.result = search rules in
    let is = lowest_found c.args.bits c.ranges.bits.fits (omega arith) in search rules

pub returns-clause-width : goal.returns-clause-width
returns-clause-width c =
    let s = c.shift-shift.ensures in let few = word_bits-le c.args.layout (omega arith) in
    let bits : 2 ^ c.shift-shift.result ≡ word_bits c.args.layout = ap (λ n. 2 ^ n) s.value in
    let low : lowest_clear c.args.bits c.ranges.bits.fits < 2 ^ c.shift-shift.result = search rules in omega arith
