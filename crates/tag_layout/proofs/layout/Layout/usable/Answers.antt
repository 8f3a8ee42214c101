-- The low ones of a word are the places that it uses.
use Rattle.std.specs.Prelude.{◌-◌, ◌/◌, ◌^◌, ◌≡◌, ◌≤◌}
use Rattle.tag_layout.proofs.Uses.{ap, arith, bit_at, bit_at_ones, bit_at_ones_above, dec_lt, dite, ones_shr, pow_pos, word_depth, ℕ, ◌∙◌}
use Rattle.tag_layout.proofs.layout.Layout.usable.Goals as goal

-- the mask is one less than the power
mask : (depth : ℕ) → depth ≤ 64 → 18446744073709551615 / 2 ^ (64 - depth) ≡ 2 ^ depth - 1
mask depth h = ones_shr 64 (64 - depth) (omega arith) ∙ (let e : 64 - (64 - depth) ≡ depth = omega arith in
    ap (λ d. 2 ^ d - 1) e)

pub returns-clause-value : goal.returns-clause-value
returns-clause-value c =
    let is = mask c.word_depth.result c.word_depth.ensures.within.1 in let some = pow_pos c.word_depth.result in
    let e : 2 ^ c.word_depth.result ≡ 2 ^ word_depth c.args.self c.args.word =
    ap (λ d. 2 ^ d) c.word_depth.ensures.value in omega arith

pub returns-clause-bits : goal.returns-clause-bits
returns-clause-bits c place =
    let is = mask c.word_depth.result c.word_depth.ensures.within.1 in
    let value = c.word_depth.ensures.value in (
      λ set. dite (dec_lt place c.word_depth.result) (λ h. omega arith) (λ no. let none =
          bit_at_ones_above c.word_depth.result place (omega arith) in let bit = ap (λ m. bit_at m place) is in
          absurd (omega arith)),
      λ h. ap (λ m. bit_at m place) is ∙ bit_at_ones c.word_depth.result place (omega arith),
    )
