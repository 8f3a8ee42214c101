-- What a play reports, and how it is judged.
use Rattle.std.specs.Prelude.{◌≡◌, ◌≢◌, ◌⊎◌, true, false, List, length}
use Rattle.tag_model.specs.declared.totals.Totals.{Totals}
use Rattle.loop_device.specs.declared.fault.PlayFault.{PlayFault}
use Rattle.loop_device.specs.declared.fault.PlayFault.TheVariants.{Memory, Setup, Lost, Twice, Spurious}
use Rattle.loop_device.specs.declared.fault.PlayFault.TheVariants as variants
use Rattle.loop_device.specs.declared.io.Done.{Done}
use Rattle.loop_device.specs.declared.io.Io.{Io}
use Rattle.loop_device.specs.declared.report.Report.{Report}
use Rattle.loop_device.specs.declared.workers.Faults.{Faults}
use Rattle.loop_device.specs.History.{IsHistory}
use Rattle.loop_device.specs.Requests.{IsLineOf}
use Rattle.loop_device.specs.Verdict.{AreOfLog, CarriesEachOnce, IsTwice, IsLost}

-- the totals of a play that got and gave back one tag for each line
abbrev pub totals_of : List Io → Totals
totals_of ios = record { got = length ios; back = length ios; held = 0; posted = 0 }

-- what was carried out is a history with each I/O line once and no other; one tag got and given back for each line
pub record IsPlayed (ios : List Io) (report : Report) : Type 0 where
  pub lawful : IsHistory report.done.items
  pub once : CarriesEachOnce ios report.done.items
  pub totals : report.totals ≡ totals_of ios

-- no thread ran into a fault that the history does not show
pub record IsClean (faults : Faults) : Type 0 where
  pub memory : faults.memory ≡ false
  pub spurious : faults.spurious ≡ false

-- no thread ran out of memory, and one met a spurious completion or the items are not all of the log
pub record IsSpurious (ios : List Io) (done : List Done) (faults : Faults) : Type 0 where
  pub memory : faults.memory ≡ false
  pub cause : (faults.spurious ≡ true) ⊎ ¬ (AreOfLog ios done)

-- what the fault says of the play: of several faults the first in the order Memory, Spurious, Twice, Lost, Totals
abbrev pub IsJudged : List Io → List Done → Totals → Faults → PlayFault → Type 0
IsJudged ios done totals faults Memory = Unit {0}
IsJudged ios done totals faults Setup = ⊥
IsJudged ios done totals faults (Lost line) = IsClean faults × IsLost ios done line
IsJudged ios done totals faults (Twice line) = IsClean faults × IsTwice ios done line
IsJudged ios done totals faults Spurious = IsSpurious ios done faults
IsJudged ios done totals faults variants.Totals =
    IsClean faults × CarriesEachOnce ios done × (totals ≢ totals_of ios)

-- a line that the fault names is an I/O line of the log
abbrev pub NamesLine : List Io → PlayFault → Type 0
NamesLine ios Memory = Unit {0}
NamesLine ios Setup = Unit {0}
NamesLine ios (Lost line) = IsLineOf ios line
NamesLine ios (Twice line) = IsLineOf ios line
NamesLine ios Spurious = Unit {0}
NamesLine ios variants.Totals = Unit {0}
