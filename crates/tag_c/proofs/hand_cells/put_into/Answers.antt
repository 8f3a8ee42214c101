-- The turn found the cell vacant, so this thread alone may put a hand there, and this hand fits.
use Rattle.tag_c.proofs.Uses.{arith, Hand, refl, SharesTags, subst, sym, ℕ}
use Rattle.tag_c.proofs.hand_cells.put_into.Goals as goal

pub put-requires : goal.put-requires
put-requires c = (
  (c.turn-found.ensures.0 c.if-found-ne-VACANT.false).0 refl,
  omega arith,
  refl,
  subst (λ (tag : Hand ℕ). SharesTags tag c.args.hand) (sym c.turn-found.ensures.2) c.requires,
)
