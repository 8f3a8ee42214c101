-- Parts of a round, one after another.
use Rattle.std.specs.Prelude.{◌++◌, ◌+◌, ◌∷◌, ◌≡◌, ◌≤◌, length}
use Rattle.std.proofs.lemmas.List.{append-nil}
use Rattle.tag_bell.proofs.Uses.{[], Adds, ap, AreInTurn, arith, Bell, Berth, bit_or, Bool, Caller, cond, false, HoldsSame, IsDoneWith, IsInRound, length-append, List, Listener, LookAt, newly_told, nobody, OnlyAdds, OwesNothing, record_of, refl, same_waiter, Sleeper, Step, subst, sym, Tell, Tells, TellsInTurn, TellsMost, told_in, true, Waiter, WaitsAsBefore, ℕ, ◌∙◌}
use Rattle.tag_bell.specs.declared.told.Told.{Told}
use Rattle.tag_bell.specs.Calls.{OwesNoMore}
use Rattle.tag_bell.specs.Lines.{GoesOn, IsLine, nobody_of, those_of}
use Rattle.tag_bell.specs.Order.{MayPass}
use Rattle.tag_bell.specs.Rounds.{IsRound}
use Rattle.tag_bell.specs.Telling.{TellsSleepers}
use Rattle.tag_bell.proofs.Choosing.{in_turn_both}
use Rattle.tag_bell.proofs.Lines.{done_owes, line_on, round_on, waits_on}
use Rattle.tag_bell.proofs.Rounds.{still}
use Rattle.tag_bell.proofs.Rung.{added_after, owes_no_more, owes_no_spot, rung, steps_added, told-after, told-before, waits_same}

-- it holds the same after two calls that keep what it holds
pub same_held : {R : Type 0} (a b c : Caller R) → HoldsSame a b → HoldsSame b c → HoldsSame a c
same_held a b c first next = record {
  kept = λ tag has. let was = first.kept tag has in let now = next.kept tag was.0 in (now.0, now.1 ∙ was.1);
  none_else = λ tag has. first.none_else tag (next.none_else tag has);
}

module _ {R : Type 0} where
  round_both : (ys xs : List (Step R)) → IsRound ys → IsRound xs → IsRound (ys ++ xs)
  round_both [] xs are more = more
  round_both (Bell (LookAt whom b) ∷ ys) xs are more = round_both ys xs are more
  round_both (Bell (Tell whom w t b) ∷ ys) xs are more = round_both ys xs are more
  round_both (step ∷ ys) xs are more = absurd are

  module _ (m n : ℕ) (first next : Waiter → ℕ) (a b c : Caller R)
      (before : GoesOn m first a b) (after : GoesOn n next b c)
    where
      turns : AreInTurn (after.steps ++ before.steps) (record_of a).steps
      turns = in_turn_both after.steps before.steps (record_of a).steps
          (subst (λ (s : List (Step R)). AreInTurn after.steps s) (steps_added before.steps a b before.only)
          after.in_turn) before.in_turn

      few : length (after.steps ++ before.steps) ≤ m + n
      few = let one = before.few in let two = after.few in omega (arith, length-append after.steps before.steps)

      -- after a part by which nobody was told
      pub goes_after : ((kind : Waiter) → first kind ≡ 0) → GoesOn (m + n) next a c
      goes_after none = record {
        steps = after.steps ++ before.steps;
        only = added_after before.steps after.steps a b c before.only after.only;
        are = round_both after.steps before.steps after.are before.are;
        few = few;
        in_turn = turns;
        told_is = λ kind. told-before kind after.steps before.steps (before.told_is kind ∙ none kind)
            ∙ after.told_is kind;
      }

      -- sleepers, and then listeners
      pub goes_both : (told : Told) → first Sleeper ≡ told.sleepers → first Listener ≡ 0 → next Sleeper ≡ 0
          → next Listener ≡ told.listeners → Tells (m + n) told a c
      goes_both told s ns nl l = record {
        steps = after.steps ++ before.steps;
        only = added_after before.steps after.steps a b c before.only after.only;
        few = few;
        sleepers = sym (told-after Sleeper after.steps before.steps (after.told_is Sleeper ∙ nl)
            ∙ before.told_is Sleeper ∙ s);
        listeners = sym (told-before Listener after.steps before.steps (before.told_is Listener ∙ ns)
            ∙ after.told_is Listener ∙ l);
      }

      pub turns_both : (most : ℕ) (told : Told) → TellsSleepers most told.sleepers c
          → TellsMost most Listener told.listeners c → TellsInTurn most told a c
      turns_both most told s l = let all = after.steps ++ before.steps in record {
        first = [];
        round = all;
        only = subst (λ (s : List (Step R)). OnlyAdds s a c) (sym (append-nil all))
            (added_after before.steps after.steps a b c before.only after.only);
        tells_none = λ kind. refl;
        are = round_both after.steps before.steps after.are before.are;
        in_turn = subst (λ (s : List (Step R)). AreInTurn s (record_of a).steps) (sym (append-nil all)) turns;
        of_sleepers = s;
        of_listeners = l;
      }

  -- in a round it has nothing to see to if it is done with each
  pub done_all : (kind : Waiter) (caller : Caller R) → IsInRound (record_of caller).steps
      → ((e : ℕ) → IsDoneWith (same_waiter kind) (record_of caller).steps e) → OwesNothing kind caller
  done_all kind caller now done = owes_no_spot kind [] caller caller (record { known = refl; same_map = refl })
      (λ spot e. done_owes (same_waiter kind) e (record_of caller).steps spot now (done e))

  pub by_kind : (caller : Caller R) → OwesNothing Sleeper caller → OwesNothing Listener caller → (kind : Waiter)
      → OwesNothing kind caller
  by_kind caller s l Sleeper = s
  by_kind caller s l Listener = l

  -- a part by which nobody was told
  pub goes_nobody : (m : ℕ) (a b : Caller R) → GoesOn m nobody_of a b → Tells m nobody a b
  goes_nobody m a b goes = record {
    steps = goes.steps;
    only = goes.only;
    few = goes.few;
    sleepers = sym (goes.told_is Sleeper);
    listeners = sym (goes.told_is Listener);
  }

  -- what a part of a round keeps
  module _ (m : ℕ) (told : Waiter → ℕ) (a b : Caller R) (goes : GoesOn m told a b) where
    pub goes_round : IsInRound (record_of a).steps → IsInRound (record_of b).steps
    goes_round now = subst (λ (s : List (Step R)). IsInRound s) (sym (steps_added goes.steps a b goes.only))
        (round_on goes.steps (record_of a).steps goes.are now)

    pub goes_waits : WaitsAsBefore a b
    goes_waits = waits_same goes.steps a b goes.only (waits_on goes.steps (record_of a).steps goes.are)

    pub goes_owes : (kind : Waiter) → OwesNoMore kind a b
    goes_owes kind = owes_no_more kind goes.steps a b goes.only
        (λ spot e. still (same_waiter kind) (record_of a).steps spot e goes.steps goes.are)

    pub goes_line : (waiter : Waiter) (here : ℕ → Type 0) (mask : ℕ) (turns : List ℕ)
        → IsLine waiter here mask turns (record_of a).steps → IsLine waiter here mask turns (record_of b).steps
    goes_line waiter here mask turns line = subst (λ (s : List (Step R)). IsLine waiter here mask turns s)
        (sym (steps_added goes.steps a b goes.only))
        (line_on waiter here mask turns goes.steps (record_of a).steps goes.are line)

  -- one tell more, in its turn
  module _ (m : ℕ) (waiter : Waiter) (told : ℕ) (a b c : Caller R) (before : GoesOn m (those_of waiter told) a b)
      (whom turn : ℕ) (found : Berth) (did : Adds (Bell (Tell whom waiter turn found)) b c)
      (pass : (e : ℕ) → MayPass (same_waiter waiter) (record_of b).steps turn e) where
    counted : (same : Bool) (was now : ℕ) → was ≡ cond same told 0
        → cond same (bit_or was now) was ≡ cond same (bit_or told now) 0
    counted true was now is = ap (λ (n : ℕ). bit_or n now) is
    counted false was now is = is

    pub goes_tell : GoesOn (m + 1) (those_of waiter (bit_or told (newly_told whom waiter turn found))) a c
    goes_tell = record {
      steps = Bell (Tell whom waiter turn found) ∷ before.steps;
      only = added_after before.steps (Bell (Tell whom waiter turn found) ∷ []) a b c before.only
          (rung (Tell whom waiter turn found) b c did);
      are = before.are;
      few = let few = before.few in omega arith;
      in_turn = (
        λ e. subst (λ (s : List (Step R)). MayPass (same_waiter waiter) s turn e)
            (steps_added before.steps a b before.only) (pass e),
        before.in_turn,
      );
      told_is = λ kind. counted (same_waiter kind waiter) (told_in kind before.steps)
          (newly_told whom waiter turn found) (before.told_is kind);
    }

  -- no step, and one look
  pub goes_none : (m : ℕ) (told : Waiter → ℕ) (a : Caller R) → ((kind : Waiter) → told kind ≡ 0) → GoesOn m told a a
  goes_none m told a none = record {
    steps = [];
    only = record { known = refl; same_map = refl };
    are = tt;
    few = omega arith;
    in_turn = tt;
    told_is = λ kind. sym (none kind);
  }

  pub goes_look : (whom : ℕ) (found : Berth) (a b : Caller R) → Adds (Bell (LookAt whom found)) a b
      → GoesOn 1 nobody_of a b
  goes_look whom found a b did = record {
    steps = Bell (LookAt whom found) ∷ [];
    only = rung (LookAt whom found) a b did;
    are = tt;
    few = omega arith;
    in_turn = tt;
    told_is = λ kind. refl;
  }

  pub goes_within : (m n : ℕ) (told : Waiter → ℕ) (a b : Caller R) → m ≤ n → GoesOn m told a b → GoesOn n told a b
  goes_within m n told a b le goes = let few = goes.few in record {
    steps = goes.steps;
    only = goes.only;
    are = goes.are;
    few = omega arith;
    in_turn = goes.in_turn;
    told_is = goes.told_is;
  }

none_either : (b : Bool) (n : ℕ) → n ≡ 0 → cond b n 0 ≡ 0
none_either true n none = none
none_either false n none = refl

-- if these are nobody, nobody is among them
pub those_none : (waiter : Waiter) (callers : ℕ) → callers ≡ 0 → (kind : Waiter) → those_of waiter callers kind ≡ 0
those_none waiter callers none kind = none_either (same_waiter kind waiter) callers none
