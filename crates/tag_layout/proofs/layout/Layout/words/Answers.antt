-- The words use all tags.
use Rattle.std.specs.Prelude.{◌+◌, ◌-◌, ◌/◌, ◌^◌}
use Rattle.tag_layout.proofs.Uses.{ap, arith, one_shl, sum_below, word_depth, words, ◌∙◌}
use Rattle.tag_layout.proofs.PlaceFacts.{word_depths-sum}
use Rattle.tag_layout.proofs.layout.Layout.words.Goals as goal

pub returns-clause-filled : goal.returns-clause-filled
returns-clause-filled c =
    ap (sum_below (word_depth c.args.self)) (ap (λ x. (c.self.inside.depth + x - 1) / 2 ^ c.self.inside.shift)
    (one_shl c.self.inside.shift 32 (omega arith)) ∙ ap words c.self.view_is)
    ∙ word_depths-sum c.args.self
