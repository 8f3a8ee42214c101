-- When a call is refused, and what it answers then.
use Rattle.std.specs.Prelude.{◌≡◌, ◌⊎◌, ⊤, List, [], ◌∷◌, Result, IfErr, OnOk, OnErr}

-- what a call checks, in this order, and the fault that it answers if the check fails
abbrev pub Checks : Type 0 → Type 1
Checks Fault = List (Type 0 × Fault)

-- this is the fault of the first check that fails
abbrev pub FailsFirst : {Fault : Type 0} → Checks Fault → Fault → Type 0
FailsFirst [] told = ⊥
FailsFirst ((passes, fault) ∷ later) told = (¬ passes × (told ≡ fault)) ⊎ (passes × FailsFirst later told)

-- every check passes
abbrev pub PassesAll : {Fault : Type 0} → Checks Fault → Type 0
PassesAll [] = ⊤
PassesAll ((passes, fault) ∷ later) = passes × PassesAll later

-- the call succeeds if every check passes, and otherwise answers the fault of the first that fails and changes nothing
pub record RefusesBy {Answer Fault : Type 0} (checks : Checks Fault) (unchanged : Type 0)
    (result : Result Answer Fault) : Type 0 where
  pub first : IfErr result (FailsFirst checks)
  pub passes : OnOk result (PassesAll checks)
  pub same : OnErr result unchanged

-- the same of a call that takes memory, and may run out of it after all checks passed
pub record RefusesOrRunsOut {Answer Fault : Type 0} (checks : Checks Fault) (memory : Fault)
    (result : Result Answer Fault) : Type 0 where
  pub first : IfErr result (λ told. FailsFirst checks told ⊎ (PassesAll checks × (told ≡ memory)))
  pub passes : OnOk result (PassesAll checks)
