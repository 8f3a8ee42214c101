-- These looks come before the tells, and the sleepers before the listeners.
use Rattle.std.specs.Prelude.{◌*◌, ◌+◌, ◌≡◌}
use Rattle.tag_bell.proofs.Uses.{arith, bit_at, bit_at-lt, bit_at_or, bit_or, Caller, count_ones, IsDoneWith, Listener, max, MAX_CALLERS, record_of, refl, same_waiter, Sleeper, subst, TellsInTurn, Waiter, ℕ, ◌∙◌}
use Rattle.tag_bell.specs.declared.told.Told.{Told}
use Rattle.tag_bell.specs.Lines.{nobody_of, those_of}
use Rattle.tag_bell.specs.Telling.{IsDoneOutside}
use Rattle.tag_bell.proofs.Goes.{by_kind, goes_after, goes_both, goes_line, goes_owes, goes_round, goes_waits, turns_both}
use Rattle.tag_bell.proofs.Coming.{goes_sleepers}
use Rattle.tag_bell.proofs.Rung.{tells_within}
use Rattle.tag_bell.proofs.telling.tell_listed.Goals as goal

-- done with those outside each of two masks, it is done with those outside both
outside_both : {R : Type 0} (caller : Caller R) (sleepers listeners : ℕ) → IsDoneOutside Sleeper sleepers caller
    → IsDoneOutside Listener listeners caller → (kind : Waiter)
    → IsDoneOutside kind (bit_or sleepers listeners) caller
outside_both caller sleepers listeners s l kind e off = both kind
  where
    either : bit_at (bit_or sleepers listeners) e ≡ max (bit_at sleepers e) (bit_at listeners e)
    either = bit_at_or sleepers listeners e

    both : (kind : Waiter) → IsDoneWith (same_waiter kind) (record_of caller).steps e
    both Sleeper = s e (λ on. let is = either in let low = bit_at-lt listeners e in off (omega arith))
    both Listener = l e (λ on. let is = either in let low = bit_at-lt sleepers e in off (omega arith))

pub look_again-requires-clause-others : goal.look_again-requires-clause-others
look_again-requires-clause-others g c = outside_both c.args.caller.now c.args.masks.now.sleepers
    c.args.masks.now.listeners c.requires.sleepers c.requires.listeners

pub tell_sleepers-sleepers-requires-clause-round : goal.tell_sleepers-sleepers-requires-clause-round
tell_sleepers-sleepers-requires-clause-round g c = let look = c.look_again in
    goes_round MAX_CALLERS nobody_of c.args.caller.now look.new.caller look.ensures.goes c.requires.round

pub tell_in_turn-listeners-requires-clause-round : goal.tell_in_turn-listeners-requires-clause-round
tell_in_turn-listeners-requires-clause-round g c =
    let look = c.look_again in let first = c.tell_sleepers-sleepers in
    goes_round _ _ look.new.caller first.new.caller first.ensures.goes
    (goes_round MAX_CALLERS nobody_of c.args.caller.now look.new.caller look.ensures.goes c.requires.round)

pub tell_in_turn-listeners-requires-clause-line : goal.tell_in_turn-listeners-requires-clause-line
tell_in_turn-listeners-requires-clause-line g c =
    let look = c.look_again in let first = c.tell_sleepers-sleepers in
    goes_line _ _ look.new.caller first.new.caller first.ensures.goes Listener (λ e. Unit {0})
    look.new.found.masks.listeners look.new.found.turns look.ensures.lines.of_listeners

pub returns-clause-done : goal.returns-clause-done
returns-clause-done g c = let first = c.tell_sleepers-sleepers in let next = c.tell_in_turn-listeners in
    by_kind next.new.caller
    (goes_owes _ _ first.new.caller next.new.caller next.ensures.goes Sleeper first.ensures.done) next.ensures.done

pub returns-clause-told : goal.returns-clause-told
returns-clause-told g c =
    let look = c.look_again in let first = c.tell_sleepers-sleepers in let next = c.tell_in_turn-listeners in
    let s = count_ones look.new.found.masks.sleepers in let l = count_ones look.new.found.masks.listeners in
    let few = look.ensures.few in let a = c.args.caller.now in let d = first.new.caller in let e = next.new.caller in
    tells_within (MAX_CALLERS + s + l) (2 * MAX_CALLERS) _ a e (omega arith) (goes_both (MAX_CALLERS + s) l
    (those_of Sleeper first.result) (those_of Listener next.result) a d e (goes_after MAX_CALLERS s nobody_of
    (those_of Sleeper first.result) a look.new.caller d look.ensures.goes first.ensures.goes (λ kind. refl))
    next.ensures.goes (record { sleepers = first.result; listeners = next.result }) refl refl refl refl)

pub returns-clause-turns : goal.returns-clause-turns
returns-clause-turns g c =
    let look = c.look_again in let first = c.tell_sleepers-sleepers in let next = c.tell_in_turn-listeners in
    let s = count_ones look.new.found.masks.sleepers in let l = count_ones look.new.found.masks.listeners in
    let a = c.args.caller.now in let d = first.new.caller in let e = next.new.caller in
    let told : Told = record { sleepers = first.result; listeners = next.result } in
    subst (λ (most : ℕ). TellsInTurn most told a e) c.max-most.ensures
    (turns_both (MAX_CALLERS + s) l (those_of Sleeper first.result) (those_of Listener next.result) a d e
    (goes_after MAX_CALLERS s nobody_of (those_of Sleeper first.result) a look.new.caller d look.ensures.goes
    first.ensures.goes (λ kind. refl)) next.ensures.goes c.max-most.result told
    (goes_sleepers l (those_of Listener next.result) d e next.ensures.goes next.ensures.coming c.max-most.result
    first.result first.ensures.most) next.ensures.most)

pub returns-clause-waits : goal.returns-clause-waits
returns-clause-waits g c =
    let look = c.look_again in let first = c.tell_sleepers-sleepers in let next = c.tell_in_turn-listeners in
    goes_waits _ _ first.new.caller next.new.caller next.ensures.goes
    ∙ goes_waits _ _ look.new.caller first.new.caller first.ensures.goes
    ∙ goes_waits MAX_CALLERS nobody_of c.args.caller.now look.new.caller look.ensures.goes
