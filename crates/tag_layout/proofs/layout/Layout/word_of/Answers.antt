-- A tag below the depth stands in a word that there is.
use Rattle.std.specs.Prelude.{◌/◌, ◌<◌, ◌^◌}
use Rattle.tag_layout.proofs.Uses.{Layout, subst, sym, words}
use Rattle.tag_layout.proofs.PlaceFacts.{word_of-below}
use Rattle.tag_layout.proofs.layout.Layout.word_of.Goals as goal

pub returns-clause-within : goal.returns-clause-within
returns-clause-within c =
    subst (λ (l : Layout). c.args.tag / 2 ^ l.shift < words c.args.self) (sym c.self.view_is)
    (word_of-below c.args.self c.args.tag c.requires)
