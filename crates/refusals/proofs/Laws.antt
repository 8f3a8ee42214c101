-- The laws of refusals: a call has one answer.
use Rattle.std.proofs.Common.{◌≡◌, [], ◌∷◌, inl, inr, sym, ◌∙◌}
use Rattle.refusals.specs.Refusals.{Checks, FailsFirst, PassesAll}

-- where all checks pass none fails
pub unfailed : {Fault : Type 0} (checks : Checks Fault) (told : Fault) → PassesAll checks → ¬ (FailsFirst checks told)
unfailed [] told passes fails = fails
unfailed ((check, fault) ∷ later) told passes (inl fails) = fails.0 passes.0
unfailed ((check, fault) ∷ later) told passes (inr fails) = unfailed later told passes.1 fails.1

-- one fault alone is that of the first check that fails
pub failed_once : {Fault : Type 0} (checks : Checks Fault) (told other : Fault)
    → FailsFirst checks told → FailsFirst checks other → told ≡ other
failed_once [] told other fails also = absurd fails
failed_once ((check, fault) ∷ later) told other (inl fails) (inl also) = fails.1 ∙ sym also.1
failed_once ((check, fault) ∷ later) told other (inl fails) (inr also) = absurd (fails.0 also.0)
failed_once ((check, fault) ∷ later) told other (inr fails) (inl also) = absurd (also.0 fails.0)
failed_once ((check, fault) ∷ later) told other (inr fails) (inr also) = failed_once later told other fails.1 also.1
