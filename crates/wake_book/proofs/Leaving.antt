-- A waiter leaves its group by an exchange of the group's word: where it won, the waiter stands nowhere and may lower
-- the active count, and where it lost, the waiter stands as before.
use Rattle.std.specs.Prelude.{◌∷◌, ◌≡◌, ◌≢◌}
use Rattle.wake_book.proofs.Uses.{[], ap, arith, cond, GroupStep, inl, inr, IsCalledFor, IsLeave, IsWayOut, Left, List, looked, Lower, Me, moved_by, nat_eq, None, own_view, raised, record_of, Records, refl, Some, stand, stand_code, Stepped, steps_of, subst, suc, sym, Unwoken, Use, Waiter, with_step}
use Rattle.wake_book.proofs.Uses.{Withdraw, Woken, ℕ, ◌∙◌}
use Rattle.wake_book.proofs.GroupSteps.{yes_of, no_of}
use Rattle.wake_book.proofs.Waiters.{Promises, made, made_steps, after}

-- the waiter stands nowhere after this step if it found what it expected, and as before if not
record StepsOut (x : GroupStep) (expected found : ℕ) : Type 0 where
  stands : (l : List GroupStep) → stand (x ∷ l) ≡ cond (nat_eq found expected) 0 (stand l)
  raises : (l : List GroupStep) → raised (x ∷ l) ≡ raised l
  moves : moved_by x ≡ 0

-- a use of a grant and a withdrawal are such steps
steps_out : (g expected found : ℕ) (x : GroupStep) → IsCalledFor g expected found x → StepsOut x expected found
steps_out g expected found x called = elim called [
  | inl u ↦ subst (λ (y : GroupStep). StepsOut y expected found) (sym u.1)
      (record { stands = λ l. refl; raises = λ l. refl; moves = refl })
  | inr w ↦ subst (λ (y : GroupStep). StepsOut y expected found) (sym w.1)
      (record { stands = λ l. refl; raises = λ l. refl; moves = refl })
]

-- the exchange that the word expected calls for
abbrev pub Exchanges : (w : Waiter) (g expected found : ℕ) → Me (Unit {0}) (Records GroupStep) → Type 0
Exchanges w g expected found me = (x : GroupStep) × IsCalledFor g expected found x × Stepped x w.seat.me me

module _ (w : Waiter) (g expected found : ℕ) (me : Me (Unit {0}) (Records GroupStep))
    (did : Exchanges w g expected found me) where
  abbrev before : List GroupStep
  before = steps_of w.seat.me.0

  exit : StepsOut did.0 expected found
  exit = steps_out g expected found did.0 did.1

  -- what the waiter knows after the exchange
  pub tried : me ≡ (own_view (with_step did.0 (record_of w)), [])
  tried = made (record_of w) w.seat.me me w.knows did.0 did.2

  -- its list
  pub tried_steps : steps_of me.0 ≡ did.0 ∷ before
  tried_steps = made_steps (record_of w) w.seat.me me w.knows did.0 did.2

  -- it stands as before
  pub lost : found ≢ expected → Promises w.number w.standing w.next w.moved me
  lost missed =
      let stays = exit.stands before ∙ no_of found expected 0 (stand before) missed in
      let moves = w.moves.0 in let none = exit.moves in
      after (record_of w) w.seat.me me w.knows did.0 did.2 w.standing w.next w.moved
      (w.stands.0 ∙ sym stays, exit.raises before ∙ w.stands.1, w.stands.2) w.within (omega arith) w.moves.1

  module _ (won : found ≡ expected) where
    -- it stands nowhere
    pub gone : stand (did.0 ∷ before) ≡ 0
    gone = exit.stands before ∙ yes_of found expected 0 (stand before) won

    -- and is active
    pub up : w.standing ≡ Some g → raised (did.0 ∷ before) ≡ 1
    up stood = let code : stand_code w.standing ≡ suc g = ap stand_code stood in
        exit.raises before ∙ w.stands.1 ∙ omega arith

    module _ (n : ℕ) (me' : Me (Unit {0}) (Records GroupStep)) (lowered : Stepped (Lower n) me me') where
      left_steps : steps_of me'.0 ≡ Lower n ∷ did.0 ∷ before
      left_steps = made_steps (with_step did.0 (record_of w)) me me' tried (Lower n) lowered

      -- it stands nowhere
      pub left : Promises w.number None w.next w.moved me'
      left = let moves = w.moves.0 in let none = exit.moves in
          after (with_step did.0 (record_of w)) me me' tried (Lower n) lowered None w.next w.moved
          (sym gone, refl, omega arith) w.within (omega arith) w.moves.1

      -- and the look before the exchange makes of these steps a way to leave
      pub leaves : (steps : List GroupStep) (outcome : Left) (next : ℕ) → before ≡ looked g expected steps
          → IsWayOut expected outcome next → IsLeave g steps (steps_of me'.0) outcome
      leaves steps Woken next look calls = let is : did.0 ≡ Use g expected expected = elim did.1 [
        | inl u ↦ u.1 ∙ ap (Use g expected) won
        | inr w ↦ absurd (omega (arith, calls.0, w.0))
      ] in (
        n,
        expected,
        before,
        (0, steps, refl, look),
        calls.0,
        left_steps ∙ ap (λ (y : GroupStep). Lower n ∷ y ∷ before) is,
      )
      leaves steps Unwoken next look calls = let is : did.0 ≡ Withdraw g expected expected = elim did.1 [
        | inl u ↦ absurd (omega (arith, calls.0, u.0))
        | inr w ↦ w.1 ∙ ap (Withdraw g expected) won
      ] in (
        n,
        expected,
        before,
        (0, steps, refl, look),
        calls.0,
        left_steps ∙ ap (λ (y : GroupStep). Lower n ∷ y ∷ before) is,
      )
