-- What the reader has given when reading ended.
use Rattle.std.specs.Prelude.{◌≡◌, ◌↔◌, ℕ, ◌<◌, ◌≤◌, Bool, true, false, List, length, Option, Result, Ok, Err}
use Rattle.std.specs.Io.KnownBytes.{Consumes}
use Rattle.tag_lines.specs.declared.lines.TheConstants.{MAX_INPUT}
use Rattle.tag_runs.specs.declared.fault.RunFault.{RunFault}
use Rattle.tag_runs.specs.declared.fault.RunFault.TheVariants.{Memory, Read, Write, TooLong}

-- the reader gave these bytes, at most `MAX_INPUT` of them
pub record ReadsAll (before after : Option (List ℕ)) (bytes : List ℕ) : Type 0 where
  pub consumed : Consumes before after bytes
  pub short : length bytes ≤ MAX_INPUT

-- the reader gave some bytes before the fault, more than `MAX_INPUT` exactly if the fault is `TooLong`
pub record StopsReading (fault : RunFault) (before after : Option (List ℕ)) : Type 0 where
  pub taken : List ℕ
  pub consumed : Consumes before after taken
  pub too_long : (fault ≡ TooLong) ↔ (MAX_INPUT < length taken)

-- the fault is that of the reader
abbrev pub is_read : RunFault → Bool
is_read Memory = false
is_read Read = true
is_read Write = false
is_read TooLong = false

-- the outcome is a fault of the reader
abbrev pub is_read_fault : {A : Type 0} → Result A RunFault → Bool
is_read_fault (Ok value) = false
is_read_fault (Err fault) = is_read fault
