-- A share by one multiplication.
use Rattle.std.proofs.Common.{◌≡◌, ℕ, ◌*◌, ◌/◌, ◌^◌, ◌≤◌, min, arith, ap, ◌∙◌}
use Rattle.tag_layout.proofs.ShareFacts.{product_fits, div-by_reciprocal, mul-le-mul}
use Rattle.tag_layout.proofs.layout.Layout.share_of.Goals as goal

pub overflow_mul-result : goal.overflow_mul-result
overflow_mul-result c =
    let d : ℕ = c.args.self.depth in
    let fits : c.from.result * c.from-2.result ≤ d * d =
    mul-le-mul c.from.result c.from-2.result d d (omega arith) (omega arith) in
    let below = product_fits (c.from.result * c.from-2.result) d c.requires.depth (omega arith) fits in
    let is = ap (λ r. c.from.result * c.from-2.result * r) c.requires.reciprocal in omega arith

pub returns : goal.returns
returns c =
    let d : ℕ = c.args.self.depth in
    let fits : c.from.result * c.from-2.result ≤ d * d =
    mul-le-mul c.from.result c.from-2.result d d (omega arith) (omega arith) in
    let shallow : c.from.result ≡ min c.args.shallow d = omega arith in
    let tags : c.from-2.result ≡ c.args.tags = omega arith in
    ap (λ r. c.from.result * c.from-2.result * r / 2 ^ 40) c.requires.reciprocal
    ∙ div-by_reciprocal (c.from.result * c.from-2.result) d c.requires.depth (omega arith) fits
    ∙ ap (λ x. x * c.from-2.result / d) shallow ∙ ap (λ x. min c.args.shallow d * x / d) tags
