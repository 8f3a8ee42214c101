-- Progress in reading an I/O log with times.
use Rattle.std.specs.Prelude.{◌≡◌, ℕ, ◌≤◌, List, Err}
use Rattle.tag_lines.specs.Lines.{line_words}
use Rattle.loop_device.specs.declared.fault.LogCause.{LogCause}
use Rattle.loop_device.specs.declared.fault.LogFault.{LogFault}
use Rattle.loop_device.specs.declared.timed_reader.TimedReader.{TimedReader}
use Rattle.loop_device.specs.LogLines.{entry_of, TellsCause}
use Rattle.loop_device.specs.LogProgress.{progress_of, ReadsLine}
use Rattle.loop_device.specs.TimedLogs.{IsTimed, timed_entry}

-- the line has a time, not less than the last one, and says behind it what it says without
pub record IsBehind (last : ℕ) (line : List ℕ) (time : ℕ) (plain : List ℕ) : Type 0 where
  pub timed : IsTimed line time plain
  pub later : last ≤ time
  pub says : (names : List (List ℕ)) (number : ℕ)
      → timed_entry last names number (line_words line) ≡ entry_of names number (line_words plain)

-- the line is faulty for this cause before it says anything without its time
abbrev pub LacksTime : ℕ → List ℕ → LogCause → Type 0
LacksTime last line cause =
    (names : List (List ℕ)) (number : ℕ) → timed_entry last names number (line_words line) ≡ Err cause

-- the line has a time, and without it is not faulty, and was read
pub record ReadsTimed (old : TimedReader) (line : List ℕ) (new : TimedReader) : Type 0 where
  pub plain : List ℕ
  pub timed : IsTimed line new.last plain
  pub later : old.last ≤ new.last
  pub reads : ReadsLine (progress_of old.reader) plain (progress_of new.reader)

-- the line is faulty for this cause, or memory ran out while it was read
pub record FailsTimed (old : TimedReader) (line : List ℕ) (fault : LogFault) : Type 0 where
  pub number : fault.line ≡ (progress_of old.reader).number
  pub cause : TellsCause (timed_entry old.last (progress_of old.reader).names (progress_of old.reader).number
      (line_words line)) fault.cause
