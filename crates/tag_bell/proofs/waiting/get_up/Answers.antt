-- The caller gets up, and then leaves all who wait. Its berth shows whether it was told.
use Rattle.std.specs.Prelude.{false, true}
use Rattle.std.proofs.lemmas.Bool.{false≢true}
use Rattle.tag_bell.proofs.Uses.{ap, Berth, Bool, IsTold, IsTrue, Listed, refl, same_waiter, subst, Told, Up, Waiter, waits_as, ⊎_elim}
use Rattle.tag_bell.proofs.Entering.{has_got_up, has_left}
use Rattle.tag_bell.proofs.Rung.{owes_no_more, steps_added}
use Rattle.tag_bell.proofs.waiting.get_up.Goals as goal

pub leave-requires-clause-last : goal.leave-requires-clause-last
leave-requires-clause-last g c = let up = c.get_up-berth in
    has_got_up 0 up.result c.args.caller.now up.new.caller up.new.caller up.ensures.step

pub returns-clause-steps : goal.returns-clause-steps
returns-clause-steps g c = let up = c.get_up-berth in let left = c.leave.ensures.step in record {
  found = up.result;
  all = left.0;
  only = has_left left.0 up.result c.args.caller.now up.new.caller c.leave.new.caller up.ensures.step left.1;
  told = c.is_told.ensures;
}

pub returns-clause-up : goal.returns-clause-up
returns-clause-up g c = ap waits_as (steps_added _ c.args.caller.now c.leave.new.caller (returns-clause-steps g c).only)

-- one that was not told was not told as such a waiter
never : (kind : Waiter) (b : Berth) → (IsTold (λ waiter. true) b → IsTrue false) → ¬ IsTold (same_waiter kind) b
never kind Up not told = told
never kind (Listed waiter turn) not told = told
never kind (Told waiter turn) not told = false≢true (not refl)

pub returns-clause-owes : goal.returns-clause-owes
unfolding returns-clause-steps
returns-clause-owes g c is kind = let steps = returns-clause-steps g c in
    owes_no_more kind _ c.args.caller.now c.leave.new.caller steps.only (λ spot e owes. ⊎_elim
    (λ told. absurd (never kind steps.found (λ any. subst (λ (b : Bool). IsTrue b) is (c.is_told.ensures.1 any)) told))
    (λ before. before) owes)
