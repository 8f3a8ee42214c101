-- What a round shows of whom a caller still has to see to.
use Rattle.std.specs.Prelude.{◌++◌, ◌∷◌}
use Rattle.std.proofs.Common.{⊎_elim}
use Rattle.tag_bell.proofs.Uses.{[], Bell, Bool, inl, inr, List, LookAll, LookAt, Owes, Saw, Spot, Step, Tell, Waiter, ℕ}
use Rattle.tag_bell.specs.Order.{FoundAs}
use Rattle.tag_bell.specs.Rounds.{HasTried, IsRound, MeetsTold, OneRoundIsEnough}

module _ {R : Type 0} (kinds : Waiter → Bool) (own : List (Step R)) (spot : Spot) (e : ℕ) where
  -- what it found in a round it has seen since it began to have to see to the spot
  saw : (round : List (Step R)) → IsRound round → (w : Waiter) (t : ℕ) → FoundAs round e w t → Saw kinds (round ++ own) spot e w t
  saw [] are w t found = absurd found
  saw (Bell (LookAt whom found) ∷ older) are w t (inl there) = inl there
  saw (Bell (LookAt whom found) ∷ older) are w t (inr there) = inr (saw older are w t there)
  saw (Bell (Tell whom waiter turn found) ∷ older) are w t there = saw older are w t there
  saw (step ∷ older) are w t there = absurd are

  -- whoever has to see to something after a round had to before
  pub still : (round : List (Step R)) → IsRound round → Owes kinds (round ++ own) spot e → Owes kinds own spot e
  still [] are owes = owes
  still (Bell (LookAt whom found) ∷ older) are owes = still older are owes.1
  still (Bell (Tell whom waiter turn found) ∷ older) are owes = still older are owes.2
  still (step ∷ older) are owes = absurd are

  met : (round : List (Step R)) → IsRound round → MeetsTold kinds round → ¬ Owes kinds (round ++ own) spot e
  met [] are told owes = told
  met (Bell (LookAt whom found) ∷ older) are (inl told) owes = owes.0.0 told
  met (Bell (LookAt whom found) ∷ older) are (inr told) owes = met older are told owes.1
  met (Bell (Tell whom waiter turn found) ∷ older) are (inl told) owes = owes.0.0 told
  met (Bell (Tell whom waiter turn found) ∷ older) are (inr told) owes = met older are told owes.2
  met (step ∷ older) are told owes = absurd are

  tried : (round : List (Step R)) → IsRound round → HasTried kinds round e → ¬ Owes kinds (round ++ own) spot e
  tried [] are none owes = none
  tried (Bell (LookAt whom found) ∷ older) are (inl up) owes = up.1 (owes.0.1 up.0)
  tried (Bell (LookAt whom found) ∷ older) are (inr before) owes = tried older are before owes.1
  tried (Bell (Tell whom waiter turn found) ∷ older) are (inl there) owes = owes.1 there.0 (saw older are waiter turn there.1)
  tried (Bell (Tell whom waiter turn found) ∷ older) are (inr before) owes = tried older are before owes.2
  tried (step ∷ older) are none owes = absurd are

pub one_round : {R : Type 0} → OneRoundIsEnough R
one_round kinds own round found are either spot e owes = ⊎_elim
    (λ told. met kinds (Bell (LookAll found) ∷ own) spot e round are told owes)
    (λ each. tried kinds (Bell (LookAll found) ∷ own) spot e round are
    (each e (still kinds (Bell (LookAll found) ∷ own) spot e round are owes).0) owes) either
