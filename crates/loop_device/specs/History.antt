-- What a store has carried out.
use Rattle.std.specs.Prelude.{◌≡◌, ℕ, ◌+◌, ◌-◌, ◌/◌, ◌≤◌, ◌⊎◌, Bool, true, false, ◌&&◌, ◌==◌, nat_le, nat_lt, List, [], ◌∷◌, ◌++◌, if◌then◌else◌}
use Rattle.loop_device.specs.declared.io.Io.{Io}
use Rattle.loop_device.specs.declared.io.Done.{Done}
use Rattle.loop_device.specs.declared.io.IoKind.{IoKind}
use Rattle.loop_device.specs.declared.io.IoKind.TheVariants.{Read, Write, Trim, Sync, Datasync}

-- the line, with what it answered
abbrev pub done_of : Io → ℕ → Done
done_of io stamp = record { io = io; stamp = stamp }

-- the first sector that the line covers, if its length isn't 0
abbrev pub first_sector : Io → ℕ
first_sector io = io.offset / 512

-- the last one
abbrev pub last_sector : Io → ℕ
last_sector io = (io.offset + io.length - 1) / 512

-- the line covers this sector of this name
abbrev pub covers : Io → ℕ → ℕ → Bool
covers io name sector = io.name == name && nat_lt 0 io.length && nat_le (first_sector io) sector
    && nat_le sector (last_sector io)

-- lines of this kind leave a stamp
abbrev pub leaves_stamp : IoKind → Bool
leaves_stamp Read = false
leaves_stamp Write = true
leaves_stamp Trim = true
leaves_stamp Sync = false
leaves_stamp Datasync = false

-- the line leaves a stamp on this sector of this name
abbrev pub stamps_sector : ℕ → ℕ → Done → Bool
stamps_sector name sector d = leaves_stamp d.io.kind && covers d.io name sector

-- the stamp of a sector after these lines, if it had the given stamp before
abbrev pub stamp_after : ℕ → List Done → ℕ → ℕ → ℕ
stamp_after stamp [] name sector = stamp
stamp_after stamp (d ∷ later) name sector =
    stamp_after (if stamps_sector name sector d then d.io.line else stamp) later name sector

-- the stamp of a sector: the number of the last write or trim line that covers it, or 0 if there is none
abbrev pub stamp_of : List Done → ℕ → ℕ → ℕ
stamp_of history name sector = stamp_after 0 history name sector

-- the greatest stamp of the sectors that the line covers, 0 if it covers none
pub record IsGreatest (history : List Done) (io : Io) (stamp : ℕ) : Type 0 where
  pub most : (sector : ℕ) → covers io io.name sector ≡ true → stamp_of history io.name sector ≤ stamp
  pub reached : (stamp ≡ 0) ⊎ ((sector : ℕ) × (covers io io.name sector ≡ true)
      × (stamp_of history io.name sector ≡ stamp))

-- what a line of this kind answers after these lines
abbrev pub AnswersAs : IoKind → List Done → Io → ℕ → Type 0
AnswersAs Read history io stamp = IsGreatest history io stamp
AnswersAs Write history io stamp = stamp ≡ io.line
AnswersAs Trim history io stamp = stamp ≡ io.line
AnswersAs Sync history io stamp = stamp ≡ 0
AnswersAs Datasync history io stamp = stamp ≡ 0

-- what the line answers after these lines
abbrev pub Answers : List Done → Io → ℕ → Type 0
Answers history io stamp = AnswersAs io.kind history io stamp

-- each line gave the answer that the lines before it require
abbrev pub IsHistory : List Done → Type 0
IsHistory history = (before : List Done) (d : Done) (after : List Done) → history ≡ before ++ d ∷ after
    → Answers before d.io d.stamp

-- the history has one item more: the line, with what it answers after the items before it
pub record AddsLine (old new : List Done) (io : Io) : Type 0 where
  pub stamp : ℕ
  pub added : new ≡ old ++ done_of io stamp ∷ []
  pub answers : Answers old io stamp
