-- The caller lists itself with the turn that it kept, or takes the next one and joins all who wait first.
use Rattle.std.specs.Prelude.{◌≡◌, ◌≢◌, None, Option, Some, ℕ}
use Rattle.tag_bell.proofs.Uses.{refl}
use Rattle.tag_bell.proofs.Entering.{lists_again, lists_anew}
use Rattle.tag_bell.proofs.waiting.list_self.Goals as goal

-- what is no turn is none
is_none : (kept : Option ℕ) → ((turn : ℕ) → kept ≢ Some turn) → kept ≡ None
is_none None not = refl
is_none (Some turn) not = absurd (not turn refl)

pub returns-in-Some-clause-steps : goal.returns-in-Some-clause-steps
returns-in-Some-clause-steps g c = lists_again c.args.waiter c.args.turn c.own_turn.result c.args.caller.now
    c.own_turn.new.caller c.enlist.new.caller c.own_turn.ensures.finds _ c.enlist.result c.in-Some.is c.enlist.ensures.step

pub returns-clause-steps : goal.returns-clause-steps
returns-clause-steps g c = lists_anew c.args.waiter c.args.turn c.own_turn.result c.args.caller.now
    c.own_turn.new.caller c.enlist-2.new.caller c.own_turn.ensures.finds c.take_turn-turn.result c.enter.ensures.step.0
    c.enlist-2.result c.take_turn-turn.new.caller c.enter.new.caller (is_none c.own_turn.result c.in_default.not-Some)
    c.take_turn-turn.ensures.step c.enter.ensures.step.1 c.enlist-2.ensures.step
