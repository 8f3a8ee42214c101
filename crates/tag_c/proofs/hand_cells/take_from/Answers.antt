-- The hand that was in the cell fits the claim, and the claim is one of this cell, so both have the same tags.
use Rattle.tag_c.proofs.Uses.{Hand, SharesTags, subst, ℕ}
use Rattle.tag_c.proofs.hand_cells.take_from.Goals as goal

pub returns : goal.returns
returns c = subst (λ (tag : Hand ℕ). SharesTags tag c.in_ok-hand.field-0.hand) c.turn-found.ensures.2
    c.in_ok-hand.ensures
