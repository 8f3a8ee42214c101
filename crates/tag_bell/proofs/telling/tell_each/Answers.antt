-- Where nobody is to be told, the looks end what the caller has to see to; else they come before what is told.
use Rattle.std.specs.Prelude.{◌*◌, ◌≡◌, ◌≤◌, ◌⊎◌, max, min}
use Rattle.tag_bell.proofs.Uses.{[], arith, Caller, count_ones, inl, inr, IsCallerOf, IsDoneWith, Listener, MAX_CALLERS, record_of, same_waiter, Sleeper, ℕ, ⊎_elim, ◌∙◌}
use Rattle.tag_core.specs.declared.map.Map.{Map}
use Rattle.tag_bell.specs.declared.found.Masks.{Masks}
use Rattle.tag_bell.specs.Coming.{coming_in, room_of}
use Rattle.tag_bell.specs.Lines.{nobody_of}
use Rattle.tag_bell.specs.Telling.{IsDoneOutside}
use Rattle.tag_bell.proofs.Choosing.{turn_after}
use Rattle.tag_bell.proofs.Coming.{no_room, room_is, tells_nobody}
use Rattle.tag_bell.proofs.Goes.{by_kind, done_all, goes_nobody, goes_round, goes_waits}
use Rattle.tag_bell.proofs.ListBits.{no_bit}
use Rattle.tag_bell.proofs.Rung.{tells_after}
use Rattle.tag_bell.proofs.telling.tell_each.Goals as goal

-- the caller is done with each listener, and with each sleeper, if there is room for one
record NobodyToTell {R : Type 0} (caller : Caller R) : Type 0 where
  sleepers : (room_of caller ≡ 0) ⊎ ((e : ℕ) → IsDoneWith (same_waiter Sleeper) (record_of caller).steps e)
  listeners : (e : ℕ) → IsDoneWith (same_waiter Listener) (record_of caller).steps e

nobody_to_tell : {R : Type 0} (m : Map R) (caller : Caller R) (masks : Masks) → IsCallerOf m caller
    → IsDoneOutside Sleeper masks.sleepers caller → IsDoneOutside Listener masks.listeners caller
    → masks.coming ≡ coming_in (record_of caller).steps
    → (masks.listeners ≡ 0) × ((masks.sleepers ≡ 0) ⊎ (m.shape.layout.depth ≤ count_ones masks.coming))
    → NobodyToTell caller
nobody_to_tell m caller masks own s l come none = record {
  sleepers = ⊎_elim (λ empty. inr (λ e. s e (no_bit masks.sleepers empty e)))
      (λ enough. inl (let room = room_is m caller own masks.coming come in omega arith)) none.1;
  listeners = λ e. l e (no_bit masks.listeners none.0 e);
}

pub returns-then-has_nobody_to_tell-clause-done : goal.returns-then-has_nobody_to_tell-clause-done
returns-then-has_nobody_to_tell-clause-done g c =
    let look = c.look_at_each-masks in let is = look.ensures in let new = look.new.caller in
    let none = nobody_to_tell c.args.map.now new look.result is.caller is.sleepers is.listeners is.coming
    (c.has_nobody_to_tell.ensures.0 c.if-has_nobody_to_tell.true) in
    let round = goes_round MAX_CALLERS nobody_of c.args.caller.now new is.goes c.requires.round in
    by_kind new (⊎_elim (no_room new) (done_all Sleeper new round) none.sleepers)
    (done_all Listener new round none.listeners)

pub returns-then-has_nobody_to_tell-clause-turns : goal.returns-then-has_nobody_to_tell-clause-turns
returns-then-has_nobody_to_tell-clause-turns g c =
    let look = c.look_at_each-masks in let is = look.ensures in let new = look.new.caller in
    let none = nobody_to_tell c.args.map.now new look.result is.caller is.sleepers is.listeners is.coming
    (c.has_nobody_to_tell.ensures.0 c.if-has_nobody_to_tell.true) in
    let most = max c.args.freed 1 in record {
      first = is.goes.steps;
      round = [];
      only = is.goes.only;
      tells_none = is.goes.told_is;
      are = tt;
      in_turn = is.goes.in_turn;
      of_sleepers = tells_nobody (min most (room_of new)) c.none.result.sleepers Sleeper new c.none.ensures.0
          (⊎_elim (λ full. inl (omega arith)) (λ done. inr done) none.sleepers);
      of_listeners = tells_nobody most c.none.result.listeners Listener new c.none.ensures.1 (inr none.listeners);
    }

pub returns-then-has_nobody_to_tell-clause-waits : goal.returns-then-has_nobody_to_tell-clause-waits
returns-then-has_nobody_to_tell-clause-waits g c = let look = c.look_at_each-masks in
    goes_waits MAX_CALLERS nobody_of c.args.caller.now look.new.caller look.ensures.goes

pub tell_listed-requires-clause-round : goal.tell_listed-requires-clause-round
tell_listed-requires-clause-round g c = let look = c.look_at_each-masks in
    goes_round MAX_CALLERS nobody_of c.args.caller.now look.new.caller look.ensures.goes c.requires.round

pub returns-clause-told : goal.returns-clause-told
returns-clause-told g c = let look = c.look_at_each-masks in let tell = c.tell_listed in let old = c.args.caller.now in
    tells_after MAX_CALLERS (2 * MAX_CALLERS) tell.result old look.new.caller tell.new.caller
    (goes_nobody MAX_CALLERS old look.new.caller look.ensures.goes) tell.ensures.told

pub returns-clause-turns : goal.returns-clause-turns
returns-clause-turns g c = let look = c.look_at_each-masks in let tell = c.tell_listed in
    let goes = look.ensures.goes in turn_after (max c.args.freed 1) tell.result c.args.caller.now look.new.caller
    tell.new.caller goes.steps goes.only goes.in_turn goes.told_is tell.ensures.turns

pub returns-clause-waits : goal.returns-clause-waits
returns-clause-waits g c = let look = c.look_at_each-masks in let tell = c.tell_listed in
    tell.ensures.waits ∙ goes_waits MAX_CALLERS nobody_of c.args.caller.now look.new.caller look.ensures.goes
