-- The output for a log: the line of its first fault, or the text of an outcome that a play of it may have.
use Rattle.std.specs.Prelude.{◌≡◌, ◌≢◌, ◌↔◌, ℕ, Bool, true, false, ◌==◌, List, ◌++◌, length, count_by, Result, Ok, Err, IfOk, IfErr, codes}
use Rattle.loop_device.specs.declared.fault.LogCause.TheVariants as causes
use Rattle.loop_device.specs.declared.fault.LogFault.{LogFault}
use Rattle.loop_device.specs.declared.fault.PlayFault.{PlayFault}
use Rattle.loop_device.specs.declared.fault.PlayFault.TheVariants.{Memory, Setup, Lost, Twice, Spurious}
use Rattle.loop_device.specs.declared.fault.PlayFault.TheVariants as variants
use Rattle.loop_device.specs.declared.io.Done.{Done as DoneLine}
use Rattle.loop_device.specs.declared.io.Io.{Io}
use Rattle.loop_device.specs.declared.io.IoKind.{IoKind}
use Rattle.loop_device.specs.declared.io.IoKind.TheVariants.{Read, Write, Trim, Sync, Datasync}
use Rattle.loop_device.specs.declared.io.Log.{Log}
use Rattle.loop_device.specs.declared.report.Report.{Report}
use Rattle.loop_device.specs.declared.setup.Setup.{Setup as SetupAsked}
use Rattle.loop_device.specs.LogFaults.{number_of_cause, place_of_fault}
use Rattle.loop_device.specs.Logs.{IsLogOf, IsLogFault}
use Rattle.loop_device.specs.TimedLogs.{IsTimedLogOf, IsTimedLogFault}
use Rattle.loop_device.specs.Playing.{IsPlayed, NamesLine}
use Rattle.loop_device.specs.Setups.{IsLegal}
use Rattle.tag_lines.specs.declared.refusal.Place.{Place}
use Rattle.tag_lines.specs.declared.refusal.Place.TheVariants.{Whole, Line}
use Rattle.tag_model.specs.declared.totals.Totals.{Totals}
use Rattle.tag_script.specs.declared.ending.Ending.{Ending}
use Rattle.tag_script.specs.declared.ending.Ending.TheVariants.{Done}
use Rattle.tag_script.specs.Refusals.{IsRefusedAt}
use Rattle.tag_runs.specs.declared.options.PlayOptions.{PlayOptions}
use Rattle.tag_pool.specs.Texts.{field}

-- the index of a kind in a report
abbrev pub number_of_kind : IoKind → ℕ
number_of_kind Read = 0
number_of_kind Write = 1
number_of_kind Trim = 2
number_of_kind Sync = 3
number_of_kind Datasync = 4

-- the two kinds are the same
abbrev pub is_kind : IoKind → IoKind → Bool
is_kind wanted kind = number_of_kind wanted == number_of_kind kind

-- the number of items that carry out a line of this kind
abbrev pub count_of : IoKind → List DoneLine → ℕ
count_of kind done = count_by (λ d. is_kind kind d.io.kind) done

-- a line of some words and a number
abbrev pub line_of : List ℕ → ℕ → List ℕ
line_of words number = field words number ++ codes "\n"

-- the lines that count the five kinds
abbrev pub kinds_lines : List DoneLine → List ℕ
kinds_lines done =
    line_of (codes "reads=") (count_of Read done) ++ line_of (codes "writes=") (count_of Write done)
    ++ line_of (codes "trims=") (count_of Trim done) ++ line_of (codes "syncs=") (count_of Sync done)
    ++ line_of (codes "datasyncs=") (count_of Datasync done)

-- the lines of the four totals of tags
abbrev pub totals_lines : Totals → List ℕ
totals_lines t =
    line_of (codes "got=") t.got ++ line_of (codes "back=") t.back ++ line_of (codes "held=") t.held
    ++ line_of (codes "posted=") t.posted

-- the eleven lines of a report
abbrev pub report_text : Log → Report → List ℕ
report_text log report =
    line_of (codes "names=") (length log.names.items) ++ kinds_lines report.done.items
    ++ line_of (codes "waits=") log.waits ++ totals_lines report.totals

-- the line that reports a malformed line of a log
abbrev pub log_fault_text : LogFault → List ℕ
log_fault_text fault = field (codes "line ") fault.line ++ line_of (codes " refused ") (number_of_cause fault.cause)

-- the line that says why a log was not played, with the number of a line of the log if there is one
abbrev pub play_fault_text : PlayFault → List ℕ
play_fault_text Memory = line_of (codes "play refused ") 1
play_fault_text Setup = line_of (codes "play refused ") 2
play_fault_text (Lost line) = field (codes "play refused ") 3 ++ line_of (codes " line ") line
play_fault_text (Twice line) = field (codes "play refused ") 4 ++ line_of (codes " line ") line
play_fault_text Spurious = line_of (codes "play refused ") 5
play_fault_text variants.Totals = line_of (codes "play refused ") 5

-- the outcomes that a play may have: a report on all I/O lines, a refused setup exactly if it is not legal, or another
-- fault except running out of memory, which names no line that is not one of them
pub record MayComeTo (setup : SetupAsked) (ios : List Io) (outcome : Result Report PlayFault) : Type 0 where
  pub played : IfOk outcome (IsPlayed ios)
  pub setup_refused : (outcome ≡ Err Setup) ↔ ¬ (IsLegal setup)
  pub no_memory : outcome ≢ Err Memory
  pub names : IfErr outcome (NamesLine ios)

-- the text of an outcome
abbrev pub outcome_text : Log → Result Report PlayFault → List ℕ
outcome_text log (Ok report) = report_text log report
outcome_text log (Err fault) = play_fault_text fault

-- the line of the log that a play's fault is about, if there is one
abbrev pub place_of_play : PlayFault → Place
place_of_play Memory = Whole
place_of_play Setup = Whole
place_of_play (Lost line) = Line line
place_of_play (Twice line) = Line line
place_of_play Spurious = Whole
place_of_play variants.Totals = Whole

-- a report is done, and any fault is a refusal for what is wrong
abbrev pub EndsIn : Result Report PlayFault → Ending → Type 0
EndsIn (Ok report) ending = ending ≡ Done
EndsIn (Err fault) ending = IsRefusedAt (place_of_play fault) ending

-- the log that a text describes, with times or without
abbrev pub IsRead : Bool → List ℕ → Log → Type 0
IsRead true = IsTimedLogOf
IsRead false = IsLogOf

-- why a text is no log, with times or without
abbrev pub IsUnread : Bool → List ℕ → LogFault → Type 0
IsUnread true = IsTimedLogFault
IsUnread false = IsLogFault

-- the output for an input, and how it ends: the line of its first fault, with a refusal for its wrong word, otherwise the
-- outcome of a play
pub data Reports (o : PlayOptions) (input : List ℕ) : List ℕ → Ending → Type 0 where
  faulty : (fault : LogFault) (ending : Ending) → IsUnread o.with_times input fault → fault.cause ≢ causes.Memory
      → IsRefusedAt (place_of_fault o.with_times fault) ending → Reports o input (log_fault_text fault) ending
  played : (log : Log) (outcome : Result Report PlayFault) (ending : Ending) → IsRead o.with_times input log
      → MayComeTo o.setup log.ios.items outcome → EndsIn outcome ending
      → Reports o input (outcome_text log outcome) ending
