-- The caller is returned unchanged, and nothing else of the side changed meanwhile.
use Rattle.tag_pool.proofs.Uses.{Caller, subst}
use Rattle.tag_core.specs.Callers.{IsUnchanged}
use Rattle.tag_pool.specs.Loans.{side_before}
use Rattle.tag_pool.proofs.StillSame.{unchanged_side}
use Rattle.tag_pool.proofs.loans.LentSide.take_back.Goals as goal

pub returns-clause-unchanged : goal.returns-clause-unchanged
returns-clause-unchanged g c =
    unchanged_side (side_before c.args.self) _
    (subst (λ (w : Caller g.row.R.Denot). IsUnchanged w c.give_back-caller.result) c.args.self.lent
    c.give_back-caller.ensures.unchanged) c.args.self.same.0
