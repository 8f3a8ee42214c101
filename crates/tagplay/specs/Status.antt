-- How the program stops without a completed run, and its exit status.
use Rattle.std.specs.Prelude.{◌≡◌, ◌≢◌, ◌⊎◌, ℕ, Bool, false, List, Result, Ok, Err, ⊤}
use Rattle.clap.specs.Words.{IsAmong, Text, fault_of}
use Rattle.clap.specs.declared.error.kind.ErrorKind.{ErrorKind}
use Rattle.clap.specs.declared.error.kind.ErrorKind.TheVariants.{DisplayHelp, DisplayVersion, OutOfMemory}
use Rattle.tag_runs.specs.Input.{is_read}
use Rattle.tag_runs.specs.declared.fault.RunFault.TheVariants.{Memory, Read, Write, TooLong}
use Rattle.tag_script.specs.declared.ending.Ending.{Ending}
use Rattle.tag_script.specs.declared.ending.Ending.TheVariants.{Done, Refused}
use Rattle.tagplay.specs.CommandLine.{command_line}
use Rattle.tagplay.specs.declared.stop.Stop.{Stop}
use Rattle.tagplay.specs.declared.stop.Stop.TheVariants.{CommandLine, Run}

-- the status of a command line without a run: 0 if it asks for help or the version, 2 if it is mistaken
pub record IsStatusOf (kind : ErrorKind) (status : ℕ) : Type 0 where
  pub shown : (kind ≡ DisplayHelp) ⊎ (kind ≡ DisplayVersion) → status ≡ 0
  pub mistaken : kind ≢ DisplayHelp → kind ≢ DisplayVersion → status ≡ 2

-- the program stops so for an error of `clap` of this kind
abbrev pub IsStopFor : ErrorKind → Stop → Type 0
IsStopFor kind (CommandLine status) = (kind ≢ OutOfMemory) × IsStatusOf kind status
IsStopFor kind (Run Memory) = kind ≡ OutOfMemory
IsStopFor kind (Run Read) = ⊥
IsStopFor kind (Run Write) = ⊥
IsStopFor kind (Run TooLong) = ⊥

-- a parse of the words has a fault of this status
pub record IsRefused (words : List Text) (status : ℕ) : Type 0 where
  pub kind : ErrorKind
  pub fault : IsAmong kind (fault_of command_line words)
  pub ends : IsStatusOf kind status

-- the words stop the program before a run: they are refused, or memory ran out
abbrev pub StopsBefore : List Text → Stop → Type 0
StopsBefore words (CommandLine status) = IsRefused words status
StopsBefore words (Run Memory) = ⊤
StopsBefore words (Run Read) = ⊥
StopsBefore words (Run Write) = ⊥
StopsBefore words (Run TooLong) = ⊥

-- the outcome is a fault of the reader
abbrev pub is_read_stop : {A : Type 0} → Result A Stop → Bool
is_read_stop (Ok value) = false
is_read_stop (Err (CommandLine status)) = false
is_read_stop (Err (Run fault)) = is_read fault

-- 0 done, 1 refused, the status of the command line, or 3 for any fault of a run
abbrev pub status_of : Result Ending Stop → ℕ
status_of (Ok Done) = 0
status_of (Ok (Refused refusal)) = 1
status_of (Err (CommandLine status)) = status
status_of (Err (Run fault)) = 3
