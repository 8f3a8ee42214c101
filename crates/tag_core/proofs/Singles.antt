-- A state's place tells its tag.
use Rattle.std.specs.Prelude.{◌≡◌}
use Rattle.tag_core.proofs.Uses.{ap, Record, Shape, sym, ℕ, ◌∙◌}
use Rattle.tag_core.specs.Spacing.{state_at}
use Rattle.tag_core.proofs.Stand.{state_at_one}

-- two tags whose states stand at one place, by the layouts of two records that are the same
pub same_state : {R : Type 0} (k : Shape) (r r' : Record R) (u u' : ℕ) → r.shape ≡ k → r ≡ r'
    → state_at k.layout u ≡ state_at r'.shape.layout u' → u ≡ u'
same_state k r r' u u' shape same e = state_at_one k.layout u u'
    (e ∙ ap (λ (z : Shape). state_at z.layout u') (ap (λ z. z.shape) (sym same) ∙ shape))
