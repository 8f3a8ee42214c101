-- Progress in reading an I/O log.
use Rattle.std.specs.Prelude.{◌≡◌, ℕ, ◌+◌, List, [], ◌∷◌, ◌++◌, filter_map, count_by, Ok}
use Rattle.tag_lines.specs.Lines.{line_words}
use Rattle.loop_device.specs.declared.fault.LogFault.{LogFault}
use Rattle.loop_device.specs.declared.io.Io.{Io}
use Rattle.loop_device.specs.declared.log_line.Entry.{Entry}
use Rattle.loop_device.specs.declared.log_reader.Reader.{Reader}
use Rattle.loop_device.specs.LogLines.{names_of, entry_of, names_after, TellsCause}
use Rattle.loop_device.specs.Logs.{io_in, is_wait}

-- the number of the next line, and the names, the I/O lines and the waits of the lines before it
pub record Progress : Type 0 where
  pub number : ℕ
  pub names : List (List ℕ)
  pub ios : List Io
  pub waits : ℕ

-- the progress of a reader
abbrev pub progress_of : Reader → Progress
progress_of r = record { number = r.number; names = names_of r.names.items; ios = r.ios.items; waits = r.waits }

-- the line is not faulty, and was read
pub record ReadsLine (old : Progress) (line : List ℕ) (new : Progress) : Type 0 where
  pub entry : Entry
  pub said : entry_of old.names old.number (line_words line) ≡ Ok entry
  pub number : new.number ≡ old.number + 1
  pub names : new.names ≡ names_after old.names (line_words line)
  pub ios : new.ios ≡ old.ios ++ filter_map io_in (entry ∷ [])
  pub waits : new.waits ≡ old.waits + count_by is_wait (entry ∷ [])

-- the line is faulty for this cause, or memory ran out while it was read
pub record Fails (old : Progress) (line : List ℕ) (fault : LogFault) : Type 0 where
  pub number : fault.line ≡ old.number
  pub cause : TellsCause (entry_of old.names old.number (line_words line)) fault.cause
