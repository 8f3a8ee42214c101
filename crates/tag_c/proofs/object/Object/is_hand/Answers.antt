-- An object that is a hand is a hand of the tags that it shares.
use Rattle.tag_c.proofs.Uses.{arc_value, IsMemberIn, Kind, refl, subst, sym}
use Rattle.tag_c.proofs.object.Object.is_hand.Goals as goal

pub returns-in-Member : goal.returns-in-Member
returns-in-Member c = let tags = (arc_value c.in-Member.field-0.shared).tags in
    ((λ _. (tags, subst (λ (kind : Kind). IsMemberIn tags kind) (sym c.in-Member.is) refl)), (λ _. refl))

pub returns-in-Cached : goal.returns-in-Cached
returns-in-Cached c = let tags = (arc_value c.in-Cached.field-0.shared).tags in
    ((λ _. (tags, subst (λ (kind : Kind). IsMemberIn tags kind) (sym c.in-Cached.is) refl)), (λ _. refl))
