-- An object that is a pool is a pool of the tags that it shares.
use Rattle.tag_c.proofs.Uses.{arc_value, IsPoolIn, Kind, refl, subst, sym}
use Rattle.tag_c.proofs.object.Object.has_all_hands.Goals as goal

pub returns-in-Pool-clause-ok : goal.returns-in-Pool-clause-ok
returns-in-Pool-clause-ok c = let tags = (arc_value c.in-Pool.pool.shared).tags in
    (tags, subst (λ (kind : Kind). IsPoolIn tags kind) (sym c.in-Pool.is) refl)
