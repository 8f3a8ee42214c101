-- Where each name's sectors are in the one row, and how the row's stamps relate to a history.
use Rattle.std.specs.Prelude.{◌≡◌, ℕ, ◌+◌, ◌*◌, ◌^◌, ◌<◌, true, nat_lt, List, ◌∷◌, ◌++◌, [], if◌then◌else◌}
use Rattle.loop_device.specs.declared.io.Io.{Io}
use Rattle.loop_device.specs.declared.io.Done.{Done}
use Rattle.loop_device.specs.declared.segments.Segments.{Segments}
use Rattle.loop_device.specs.Segments.{stamp_at, is_sound, IsStampedWithin}
use Rattle.loop_device.specs.History.{first_sector, last_sector, stamp_of, done_of, Answers, IsHistory}

-- the position of a name's sector in the row
abbrev pub key : ℕ → ℕ → ℕ
key name sector = name * 2 ^ 56 + sector

-- the position of the first sector that the line covers
abbrev pub first_key : Io → ℕ
first_key io = key io.name (first_sector io)

-- the position after the last one, or that of the first if the line covers none
abbrev pub end_key : Io → ℕ
end_key io = if nat_lt 0 io.length then key io.name (last_sector io) + 1 else first_key io

-- the numbers of a line fit their types
pub record FitsTypes (io : Io) : Type 0 where
  pub name : io.name < 2 ^ 32
  pub offset : io.offset < 2 ^ 64
  pub length : io.length < 2 ^ 64

-- the row has the stamps of the history
abbrev pub AreStampsOf : List Done → Segments → Type 0
AreStampsOf history stamps =
    (name sector : ℕ) → name < 2 ^ 32 → sector < 2 ^ 56
    → stamp_at (2 ^ 88) stamps (key name sector) ≡ stamp_of history name sector

-- the invariant of a store
pub record IsKept (history : List Done) (stamps : Segments) : Type 0 where
  pub sound : is_sound (2 ^ 88) stamps ≡ true
  pub stamps_are : AreStampsOf history stamps
  pub lawful : IsHistory history

-- the sectors that the line covers have its number as their stamp, and the others are unchanged
abbrev pub LeavesStamp : Segments → Segments → Io → Type 0
LeavesStamp old new io = IsStampedWithin (stamp_at (2 ^ 88) old) (stamp_at (2 ^ 88) new) (2 ^ 88) (first_key io)
    (end_key io) io.line

-- after any history with the old stamps the line answers this, and the new stamps are those of that history plus it
pub record CarriesOut (old new : Segments) (io : Io) (stamp : ℕ) : Type 0 where
  pub sound : is_sound (2 ^ 88) new ≡ true
  pub stamps_are : (history : List Done) → AreStampsOf history old → AreStampsOf (history ++ done_of io stamp ∷ []) new
  pub answers : (history : List Done) → AreStampsOf history old → Answers history io stamp
