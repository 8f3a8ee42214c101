-- What the lines of an I/O log say, and the first faulty one.
use Rattle.std.specs.Prelude.{◌≡◌, ℕ, ◌+◌, Bool, true, false, List, [], ◌∷◌, ◌++◌, map, length, fold, filter_map, count_by, if◌then◌else◌}
use Rattle.std.specs.Prelude.{Option, Some, None, IsSomeAnd, MatchOption, Result, Ok, codes}
use Rattle.std.specs.Str.{bytes_eq}
use Rattle.tag_lines.specs.Lines.{lines_of, line_words}
use Rattle.loop_device.specs.declared.fault.LogCause.{LogCause}
use Rattle.loop_device.specs.declared.fault.LogCause.TheVariants.{NoHeader, OtherVersion}
use Rattle.loop_device.specs.declared.fault.LogFault.{LogFault}
use Rattle.loop_device.specs.declared.io.Io.{Io}
use Rattle.loop_device.specs.declared.io.Log.{Log}
use Rattle.loop_device.specs.declared.log_line.Entry.{Entry}
use Rattle.loop_device.specs.declared.log_line.Entry.TheVariants as entries
use Rattle.loop_device.specs.LogLines.{names_of, entry_of, names_after, TellsCause}

-- the first line of a log
abbrev pub version_2 : List ℕ
version_2 = codes "fio version 2 iolog"

-- the first line of a log with times
abbrev pub version_3 : List ℕ
version_3 = codes "fio version 3 iolog"

-- the lines after the header
abbrev pub body_of : List ℕ → List (List ℕ) → Option (List (List ℕ))
body_of header [] = None
body_of header (line ∷ lines) = if bytes_eq line header then Some lines else None

-- why a first line is not the header: it is that of the other version, or of no log
abbrev pub line_cause : List ℕ → List ℕ → LogCause
line_cause other line = if bytes_eq line other then OtherVersion else NoHeader

-- the same of a text, which may have no lines
abbrev pub header_cause : List ℕ → List (List ℕ) → LogCause
header_cause other [] = NoHeader
header_cause other (line ∷ lines) = line_cause other line

-- what each line says, if these names are known before the first line, which has this number
abbrev pub entries_of : List (List ℕ) → ℕ → List (List ℕ) → List (Result Entry LogCause)
entries_of names number [] = []
entries_of names number (line ∷ lines) =
    entry_of names number (line_words line) ∷ entries_of (names_after names (line_words line)) (number + 1) lines

-- the names that are known after the lines
abbrev pub names_in : List (List ℕ) → List (List ℕ) → List (List ℕ)
names_in names lines = fold (λ known line. names_after known (line_words line)) names lines

-- the I/O line of an entry, if it is one
abbrev pub io_in : Entry → Option Io
io_in entries.Name = None
io_in entries.Wait = None
io_in (entries.Io io) = Some io

-- the entry is a wait
abbrev pub is_wait : Entry → Bool
is_wait entries.Name = false
is_wait entries.Wait = true
is_wait (entries.Io io) = false

-- no line is faulty, and the log has the names, the I/O lines and the waits of all lines
pub record Says (lines : List (List ℕ)) (log : Log) : Type 0 where
  pub entries : List Entry
  pub said : entries_of [] 2 lines ≡ map Ok entries
  pub names : names_of log.names.items ≡ names_in [] lines
  pub ios : log.ios.items ≡ filter_map io_in entries
  pub waits : log.waits ≡ count_by is_wait entries

-- no line before this one is faulty, and this one is, for this cause, or memory ran out while it was read
pub record IsFaultOf (lines : List (List ℕ)) (fault : LogFault) : Type 0 where
  pub before : List Entry
  pub said : Result Entry LogCause
  pub rest : List (Result Entry LogCause)
  pub parts : entries_of [] 2 lines ≡ map Ok before ++ said ∷ rest
  pub number : fault.line ≡ length before + 2
  pub cause : TellsCause said fault.cause

-- the log that a text describes
abbrev pub IsLogOf : List ℕ → Log → Type 0
IsLogOf text log = IsSomeAnd (body_of version_2 (lines_of text)) (λ lines. Says lines log)

-- why a text is not a log: it has no header, or a line after the header is faulty
abbrev pub IsLogFault : List ℕ → LogFault → Type 0
IsLogFault text fault = MatchOption (body_of version_2 (lines_of text))
    (fault ≡ record { line = 1; cause = header_cause version_3 (lines_of text) }) (λ lines. IsFaultOf lines fault)
