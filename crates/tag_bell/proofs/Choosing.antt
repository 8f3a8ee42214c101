-- Calls whose steps come one after another: whom they told, and in which order.
use Rattle.std.specs.Prelude.{◌++◌, ◌+◌, ◌∷◌, ◌≡◌, ◌≤◌}
use Rattle.tag_bell.proofs.Uses.{[], append_assoc, AreInTurn, arith, Bell, Caller, Enlist, Enter, GetUp, Leave, length-append, List, Listener, LookAll, LookAt, nobody, OnlyAdds, Post, ReadNote, record_of, refl, same_waiter, Sleeper, Step, subst, sym, Take, TakeTurn, Tell, Tells, TellsInTurn, told_in, Waiter, Word, ℕ, ◌∙◌}
use Rattle.tag_bell.specs.declared.told.Told.{Told}
use Rattle.tag_bell.specs.Looks.{AreOnWords, OnlyLooks}
use Rattle.tag_bell.specs.Order.{MayPass}
use Rattle.tag_bell.proofs.Rung.{added_after, steps_added, told-after}

module _ {R : Type 0} where
  -- steps on words tell nobody
  words_tell : (kind : Waiter) (xs : List (Step R)) → AreOnWords xs → told_in kind xs ≡ 0
  words_tell kind [] are = refl
  words_tell kind (Word step ∷ xs) are = words_tell kind xs are
  words_tell kind (step ∷ xs) are = absurd are

  words_in_turn : (xs own : List (Step R)) → AreOnWords xs → AreInTurn xs own
  words_in_turn [] own are = tt
  words_in_turn (Word step ∷ xs) own are = words_in_turn xs own are
  words_in_turn (step ∷ xs) own are = absurd are

  are_both : (ys xs : List (Step R)) → AreOnWords ys → AreOnWords xs → AreOnWords (ys ++ xs)
  are_both [] xs are more = more
  are_both (Word step ∷ ys) xs are more = are_both ys xs are more
  are_both (step ∷ ys) xs are more = absurd are

  -- steps in turn before others in turn
  pub in_turn_both : (ys xs own : List (Step R)) → AreInTurn ys (xs ++ own) → AreInTurn xs own
      → AreInTurn (ys ++ xs) own
  in_turn_both [] xs own turn more = more
  in_turn_both (Word step ∷ ys) xs own turn more = in_turn_both ys xs own turn more
  in_turn_both (Post tag note value ∷ ys) xs own turn more = in_turn_both ys xs own turn more
  in_turn_both (Take tag found value ∷ ys) xs own turn more = in_turn_both ys xs own turn more
  in_turn_both (ReadNote tag found ∷ ys) xs own turn more = in_turn_both ys xs own turn more
  in_turn_both (Bell (Enter caller found) ∷ ys) xs own turn more = in_turn_both ys xs own turn more
  in_turn_both (Bell (Leave caller found) ∷ ys) xs own turn more = in_turn_both ys xs own turn more
  in_turn_both (Bell (LookAll found) ∷ ys) xs own turn more = in_turn_both ys xs own turn more
  in_turn_both (Bell (TakeTurn found) ∷ ys) xs own turn more = in_turn_both ys xs own turn more
  in_turn_both (Bell (Enlist caller waiter t found) ∷ ys) xs own turn more = in_turn_both ys xs own turn more
  in_turn_both (Bell (LookAt whom found) ∷ ys) xs own turn more = in_turn_both ys xs own turn more
  in_turn_both (Bell (Tell whom waiter t found) ∷ ys) xs own turn more = (
    λ e. subst (λ (s : List (Step R)). MayPass (same_waiter waiter) s t e) (sym (append_assoc ys xs own)) (turn.0 e),
    in_turn_both ys xs own turn.1 more,
  )
  in_turn_both (Bell (GetUp caller found) ∷ ys) xs own turn more = in_turn_both ys xs own turn more

  -- looks tell nobody
  pub looks_tell : (most : ℕ) (a b : Caller R) → OnlyLooks most a b → Tells most nobody a b
  looks_tell most a b looks = record {
    steps = looks.steps;
    only = looks.only;
    few = looks.few;
    sleepers = sym (words_tell Sleeper looks.steps looks.are);
    listeners = sym (words_tell Listener looks.steps looks.are);
  }

  -- looks after looks
  pub looks_after : (first most : ℕ) (a b c : Caller R) → OnlyLooks first a b → OnlyLooks most b c
      → OnlyLooks (first + most) a c
  looks_after first most a b c before after = let few = before.few in let few' = after.few in record {
    steps = after.steps ++ before.steps;
    only = added_after before.steps after.steps a b c before.only after.only;
    few = omega (arith, length-append after.steps before.steps);
    are = are_both after.steps before.steps after.are before.are;
  }

  pub looks_within : (most more : ℕ) (a b : Caller R) → most ≤ more → OnlyLooks most a b → OnlyLooks more a b
  looks_within most more a b le looks =
      let few = looks.few in record { steps = looks.steps; only = looks.only; few = omega arith; are = looks.are }

  -- a call that told in turn after steps that told nobody
  pub turn_after : (most : ℕ) (told : Told) (a b c : Caller R) (xs : List (Step R)) → OnlyAdds xs a b
      → AreInTurn xs (record_of a).steps → ((kind : Waiter) → told_in kind xs ≡ 0) → TellsInTurn most told b c
      → TellsInTurn most told a c
  turn_after most told a b c xs only turn none tells = let all = tells.round ++ tells.first in record {
    first = tells.first ++ xs;
    round = tells.round;
    only = subst (λ (s : List (Step R)). OnlyAdds s a c) (append_assoc tells.round tells.first xs)
        (added_after xs all a b c only tells.only);
    tells_none = λ kind. told-after kind tells.first xs (tells.tells_none kind) ∙ none kind;
    are = tells.are;
    in_turn = subst (λ (s : List (Step R)). AreInTurn s (record_of a).steps) (append_assoc tells.round tells.first xs)
        (in_turn_both all xs (record_of a).steps
        (subst (λ (s : List (Step R)). AreInTurn all s) (steps_added xs a b only) tells.in_turn) turn);
    of_sleepers = tells.of_sleepers;
    of_listeners = tells.of_listeners;
  }

  pub turn_after_looks : (most n : ℕ) (told : Told) (a b c : Caller R) → OnlyLooks n a b → TellsInTurn most told b c
      → TellsInTurn most told a c
  turn_after_looks most n told a b c looks =
      turn_after most told a b c looks.steps looks.only (words_in_turn looks.steps (record_of a).steps looks.are)
      (λ kind. words_tell kind looks.steps looks.are)
