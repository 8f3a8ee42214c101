-- Where nobody waits, the look ends what the caller has to see to; else it comes before what is told.
use Rattle.std.specs.Prelude.{◌*◌, ◌+◌, ◌∷◌, ◌≡◌}
use Rattle.tag_bell.proofs.Uses.{[], Adds, ap, arith, Bell, bit_at, bit_at-lt, bit_at-zero, Caller, inr, IsDoneWith, IsInRound, List, Listener, LookAll, max, MAX_CALLERS, nobody, OnlyAdds, record_of, refl, same_waiter, Sleeper, Step, subst, sym, Tells, Waiter, ℕ, ◌∙◌}
use Rattle.tag_bell.specs.Coming.{coming_in}
use Rattle.tag_bell.proofs.Choosing.{turn_after}
use Rattle.tag_bell.proofs.Coming.{tells_nobody}
use Rattle.tag_bell.proofs.Rung.{owes_no_spot, rung, steps_added, tells_after, tells_within}
use Rattle.tag_bell.proofs.telling.see_to.Goals as goal

module _ {R : Type 0} (waiting : ℕ) (old mid : Caller R) (did : Adds (Bell (LookAll waiting)) old mid) where
  looked : OnlyAdds (Bell (LookAll waiting) ∷ []) old mid
  looked = rung (LookAll waiting) old mid did

  own : (record_of mid).steps ≡ Bell (LookAll waiting) ∷ (record_of old).steps
  own = steps_added (Bell (LookAll waiting) ∷ []) old mid looked

  in_round : IsInRound (record_of mid).steps
  in_round = subst (λ (s : List (Step R)). IsInRound s) (sym own) tt

  done_with : (kind : Waiter) (e : ℕ) → bit_at waiting e ≡ 0 → IsDoneWith (same_waiter kind) (record_of mid).steps e
  done_with kind e off = subst (λ (s : List (Step R)). IsDoneWith (same_waiter kind) s e) (sym own) off

  look_tells : Tells 1 nobody old mid
  look_tells = record {
    steps = Bell (LookAll waiting) ∷ [];
    only = looked;
    few = omega arith;
    sleepers = refl;
    listeners = refl;
  }

nobody_there : (waiting : ℕ) → waiting ≡ 0 → (e : ℕ) → bit_at waiting e ≡ 0
nobody_there waiting none e = ap (λ (n : ℕ). bit_at n e) none ∙ bit_at-zero e

pub returns-then-waiting-eq0-clause-done : goal.returns-then-waiting-eq0-clause-done
returns-then-waiting-eq0-clause-done g c kind = let look = c.look_all-waiting in let old = c.args.caller.now in
    owes_no_spot kind (Bell (LookAll look.result) ∷ []) old look.new.caller
    (looked look.result old look.new.caller look.ensures.step)
    (λ spot e owes. owes.0 (nobody_there look.result c.if-waiting-eq0.true e))

pub returns-then-waiting-eq0-clause-told : goal.returns-then-waiting-eq0-clause-told
returns-then-waiting-eq0-clause-told g c = let look = c.look_all-waiting in record {
  steps = Bell (LookAll look.result) ∷ [];
  only = looked look.result c.args.caller.now look.new.caller look.ensures.step;
  few = omega arith;
  sleepers = c.none.ensures.0;
  listeners = c.none.ensures.1;
}

pub returns-then-waiting-eq0-clause-turns : goal.returns-then-waiting-eq0-clause-turns
returns-then-waiting-eq0-clause-turns g c = let look = c.look_all-waiting in
    let done = λ (kind : Waiter) (e : ℕ). done_with look.result c.args.caller.now look.new.caller look.ensures.step kind e
    (nobody_there look.result c.if-waiting-eq0.true e) in record {
      first = Bell (LookAll look.result) ∷ [];
      round = [];
      only = looked look.result c.args.caller.now look.new.caller look.ensures.step;
      tells_none = λ kind. refl;
      are = tt;
      in_turn = tt;
      of_sleepers = tells_nobody _ c.none.result.sleepers Sleeper look.new.caller c.none.ensures.0
          (inr (done Sleeper));
      of_listeners = tells_nobody _ c.none.result.listeners Listener look.new.caller c.none.ensures.1
          (inr (done Listener));
    }

pub tell_each-requires-clause-round : goal.tell_each-requires-clause-round
tell_each-requires-clause-round g c = let look = c.look_all-waiting in
    in_round look.result c.args.caller.now look.new.caller look.ensures.step

pub tell_each-requires-clause-coming : goal.tell_each-requires-clause-coming
tell_each-requires-clause-coming g c = let look = c.look_all-waiting in
    ap coming_in (own look.result c.args.caller.now look.new.caller look.ensures.step)

pub tell_each-requires-clause-others : goal.tell_each-requires-clause-others
tell_each-requires-clause-others g c kind e off = let look = c.look_all-waiting in let low = bit_at-lt look.result e in
    done_with look.result c.args.caller.now look.new.caller look.ensures.step kind e (omega arith)

pub returns-clause-told : goal.returns-clause-told
returns-clause-told g c = let look = c.look_all-waiting in let old = c.args.caller.now in
    tells_within (1 + 3 * MAX_CALLERS) (3 * MAX_CALLERS + 1) c.tell_each.result old c.tell_each.new.caller (omega arith)
    (tells_after 1 (3 * MAX_CALLERS) c.tell_each.result old look.new.caller c.tell_each.new.caller
    (look_tells look.result old look.new.caller look.ensures.step) c.tell_each.ensures.told)

pub returns-clause-turns : goal.returns-clause-turns
returns-clause-turns g c = let look = c.look_all-waiting in let old = c.args.caller.now in
    turn_after (max c.args.freed 1) c.tell_each.result old look.new.caller c.tell_each.new.caller
    (Bell (LookAll look.result) ∷ []) (looked look.result old look.new.caller look.ensures.step) tt (λ kind. refl)
    c.tell_each.ensures.turns
