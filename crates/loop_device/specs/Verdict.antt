-- Whether each I/O line of a log was carried out once.
use Rattle.std.specs.Prelude.{◌≡◌, ℕ, ◌<◌, ◌≤◌, ◌==◌, List, map}
use Rattle.std.specs.List.{All, Contains, count_by}
use Rattle.loop_device.specs.declared.io.Io.{Io}
use Rattle.loop_device.specs.declared.io.Done.{Done}
use Rattle.loop_device.specs.declared.fault.PlayFault.{PlayFault}
use Rattle.loop_device.specs.declared.fault.PlayFault.TheVariants.{Memory, Setup, Lost, Twice, Spurious, Totals}

-- each item that was carried out is an I/O line of the log
abbrev pub AreOfLog : List Io → List Done → Type 0
AreOfLog ios done = All (λ d. Contains ios d.io) done

-- how many of the items carry out the line
abbrev pub times : List Done → ℕ → ℕ
times done line = count_by (λ d. d.io.line == line) done

-- the items carry out each I/O line once, and no other line
pub record CarriesEachOnce (ios : List Io) (done : List Done) : Type 0 where
  pub known : AreOfLog ios done
  pub once : All (λ io. times done io.line ≡ 1) ios

-- the least line that is carried out more than once
pub record IsTwice (ios : List Io) (done : List Done) (line : ℕ) : Type 0 where
  pub known : AreOfLog ios done
  pub among : Contains (map (λ io. io.line) ios) line
  pub twice : 1 < times done line
  pub least : All (λ io. io.line < line → times done io.line ≤ 1) ios

-- the least line that is not carried out, if none is carried out more than once
pub record IsLost (ios : List Io) (done : List Done) (line : ℕ) : Type 0 where
  pub known : AreOfLog ios done
  pub none_twice : All (λ io. times done io.line ≤ 1) ios
  pub among : Contains (map (λ io. io.line) ios) line
  pub lost : times done line ≡ 0
  pub least : All (λ io. io.line < line → 0 < times done io.line) ios

-- what the fault says of the items
abbrev pub IsPlayFault : List Io → List Done → PlayFault → Type 0
IsPlayFault ios done Memory = Unit {0}
IsPlayFault ios done Setup = ⊥
IsPlayFault ios done (Lost line) = IsLost ios done line
IsPlayFault ios done (Twice line) = IsTwice ios done line
IsPlayFault ios done Spurious = ¬ (AreOfLog ios done)
IsPlayFault ios done Totals = ⊥
