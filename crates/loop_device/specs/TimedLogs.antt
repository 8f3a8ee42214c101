-- I/O logs with times: what is left without them, and the first faulty line.
use Rattle.std.specs.Prelude.{◌≡◌, ℕ, ◌+◌, ◌≤◌, ◌<◌, ◌^◌, List, [], ◌∷◌, ◌++◌, map, length, fold, nat_lt, if◌then◌else◌}
use Rattle.std.specs.Prelude.{Option, Some, None, IsSomeAnd, MatchOption, Result, Ok, Err}
use Rattle.std.specs.List.{AllPairs}
use Rattle.tag_lines.specs.declared.fault.Misfit.TheVariants.{EmptyWord, WordCount}
use Rattle.tag_lines.specs.Lines.{lines_of, line_words, number_below}
use Rattle.loop_device.specs.declared.fault.LogCause.{LogCause}
use Rattle.loop_device.specs.declared.fault.LogCause.TheVariants.{BadLine, BadNumber, EarlierTime}
use Rattle.loop_device.specs.declared.fault.LogFault.{LogFault}
use Rattle.loop_device.specs.declared.fault.LogNumber.TheVariants.{Time}
use Rattle.loop_device.specs.declared.io.Log.{Log}
use Rattle.loop_device.specs.declared.log_line.Entry.{Entry}
use Rattle.loop_device.specs.LogLines.{entry_of, TellsCause}
use Rattle.loop_device.specs.Logs.{version_2, version_3, body_of, header_cause, entries_of, names_in, Says}

-- the line is a word that spells the time, a blank, and then the line without it
pub record IsTimed (line : List ℕ) (time : ℕ) (plain : List ℕ) : Type 0 where
  pub word : List ℕ
  pub spells : number_below (2 ^ 64) word ≡ Some time
  pub some : 0 < length word
  pub parts : line ≡ word ++ 32 ∷ plain

-- each line has its time, and what is left of it
pub data AreTimed : List (List ℕ) → List ℕ → List (List ℕ) → Type 0 where
  none : AreTimed [] [] []
  timed : {line plain : List ℕ} {time : ℕ} {lines plains : List (List ℕ)} {times : List ℕ} → IsTimed line time plain
      → AreTimed lines times plains → AreTimed (line ∷ lines) (time ∷ times) (plain ∷ plains)

-- no time is less than an earlier one
abbrev pub NeverFall : List ℕ → Type 0
NeverFall times = AllPairs (λ earlier later. earlier ≤ later) times

-- the lines with these times say the log that the lines without them say
pub record SaysTimed (lines : List (List ℕ)) (log : Log) : Type 0 where
  pub times : List ℕ
  pub plain : List (List ℕ)
  pub timed : AreTimed lines times plain
  pub never_fall : NeverFall times
  pub says : Says plain log

-- the last of the times, or 0
abbrev pub last_time : List ℕ → ℕ
last_time times = fold (λ last time. time) 0 times

-- what is wrong with a time behind this one, or what the line says without it
abbrev pub behind : ℕ → Option ℕ → Result Entry LogCause → Result Entry LogCause
behind last None said = Err (BadNumber Time)
behind last (Some time) said = if nat_lt time last then Err EarlierTime else said

-- what the words of a line with a time say, behind a line with this time; the rest is that of a line without
abbrev pub timed_entry : ℕ → List (List ℕ) → ℕ → List (List ℕ) → Result Entry LogCause
timed_entry last names number [] = Err (BadLine EmptyWord)
timed_entry last names number (time ∷ []) = Err (BadLine WordCount)
timed_entry last names number (time ∷ word ∷ more) =
    behind last (number_below (2 ^ 64) time) (entry_of names number (word ∷ more))

-- the lines before this one have times, and say something without them; this one is faulty for this cause, or memory
-- ran out while it was read
pub record IsTimedFaultOf (lines : List (List ℕ)) (fault : LogFault) : Type 0 where
  pub before : List (List ℕ)
  pub line : List ℕ
  pub rest : List (List ℕ)
  pub parts : lines ≡ before ++ line ∷ rest
  pub times : List ℕ
  pub plain : List (List ℕ)
  pub timed : AreTimed before times plain
  pub never_fall : NeverFall times
  pub entries : List Entry
  pub said : entries_of [] 2 plain ≡ map Ok entries
  pub number : fault.line ≡ length before + 2
  pub cause : TellsCause (timed_entry (last_time times) (names_in [] plain) fault.line (line_words line)) fault.cause

-- the log that a text with times describes
abbrev pub IsTimedLogOf : List ℕ → Log → Type 0
IsTimedLogOf text log = IsSomeAnd (body_of version_3 (lines_of text)) (λ lines. SaysTimed lines log)

-- why a text is no log with times: it has no header, or a line after the header is faulty
abbrev pub IsTimedLogFault : List ℕ → LogFault → Type 0
IsTimedLogFault text fault = MatchOption (body_of version_3 (lines_of text))
    (fault ≡ record { line = 1; cause = header_cause version_2 (lines_of text) }) (λ lines. IsTimedFaultOf lines fault)
