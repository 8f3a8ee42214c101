-- The low bits of a tag are its place.
use Rattle.std.specs.Prelude.{◌<◌, ◌≤◌}
use Rattle.tag_layout.proofs.Uses.{ap, arith, Layout, place_of, subst, sym, tag_at, word_depth, word_of, ℕ, ◌∙◌}
use Rattle.tag_layout.proofs.PlaceFacts.{word_bits-le, low_bits, place_of-below, tag_at-back}
use Rattle.tag_layout.proofs.layout.Layout.place_of.Goals as goal

pub returns-clause-value : goal.returns-clause-value
returns-clause-value c = low_bits c.args.tag c.self.inside.shift c.self.invariant.1
    ∙ ap (λ (l : Layout). place_of l c.args.tag) c.self.view_is

pub returns-clause-within : goal.returns-clause-within
returns-clause-within c =
    subst (λ (x : ℕ). x < word_depth c.args.self (word_of c.args.self c.args.tag)) (sym (returns-clause-value c))
    (place_of-below c.args.self c.args.tag c.requires)

pub returns-clause-back : goal.returns-clause-back
returns-clause-back c = ap (tag_at c.args.self (word_of c.args.self c.args.tag)) (returns-clause-value c)
    ∙ tag_at-back c.args.self c.args.tag

pub returns-clause-bound : goal.returns-clause-bound
returns-clause-bound c =
    let below = returns-clause-within c in
    let few = word_bits-le c.args.self (subst (λ (l : Layout). l.shift ≤ 6) c.self.view_is c.self.invariant.1) in
    omega arith
