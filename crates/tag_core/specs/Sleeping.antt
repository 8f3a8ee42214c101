-- What a caller has seen that may sleep.
use Rattle.std.specs.Prelude.{◌∷◌, ◌≡◌, List, true}
use Rattle.tag_core.specs.declared.bell_step.BellStep.TheVariants.{LookAt}
use Rattle.tag_core.specs.declared.berth.Berth.{Berth}
use Rattle.tag_core.specs.declared.caller.Caller.{Caller}
use Rattle.tag_core.specs.declared.step.Step.{Step}
use Rattle.tag_core.specs.declared.step.Step.TheVariants.{Bell}
use Rattle.tag_core.specs.Berths.{IsListed}
use Rattle.tag_core.specs.Callers.{record_of}

-- the caller's last step was a look at its own berth, in which it found itself listed so
pub record FoundItselfListed {R : Type 0} (berth : Berth) (caller : Caller R) : Type 0 where
  pub older : List (Step R)
  pub look : (record_of caller).steps ≡ Bell (LookAt (record_of caller).number berth) ∷ older
  pub listed : IsListed (λ waiter. true) berth
