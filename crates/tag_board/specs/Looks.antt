-- What lists and counts of busy tags report. They change nothing.
use Rattle.tag_board.specs.Uses.{bit_in, div_ceil, Kind, length, List, Ordinary, Reserved, Shown, true, ℕ}
use Rattle.std.specs.Prelude.{◌≡◌, ◌+◌, ◌-◌, ◌*◌, ◌/◌, ◌<◌, ◌≤◌}
use Rattle.tag_board.specs.AloneSets.{AloneListsBusy, AloneShows, AloneDumps}
use Rattle.tag_board.specs.Replays.{Changes, AsBefore, as_before}
use Rattle.tag_board.specs.States.{State}

-- the number of tags of a set
abbrev pub depth_of : State → Kind → ℕ
depth_of s Ordinary = s.total - s.terms.reserved
depth_of s Reserved = s.terms.reserved

-- the bit of each tag that the caller holds is 1, and each bit past the last tag is 0
pub record ListsBusy (caller : ℕ) (old : State) (bits : List ℕ) (new : State) : Type 0 where
  pub long : length bits ≡ div_ceil old.total 64
  pub held : (tag : ℕ) → (old.part caller).held tag ≡ true → bit_in 64 bits tag ≡ 1
  pub there : (tag : ℕ) → old.total ≤ tag → tag < 64 * length bits → bit_in 64 bits tag ≡ 0
  pub change : Changes caller as_before AsBefore (λ sets. AloneListsBusy sets bits) old new

-- the sizes of a set; its busy tags and those set aside are together at most its depth
pub record Shows (kind : Kind) (caller : ℕ) (old : State) (shown : Shown) (new : State) : Type 0 where
  pub depth : shown.depth ≡ depth_of old kind
  pub bits_per_word : shown.bits_per_word ≡ old.terms.bits kind
  pub map_nr : shown.map_nr ≡ (depth_of old kind + old.terms.bits kind - 1) / old.terms.bits kind
  pub busy : shown.busy + shown.cleared ≤ depth_of old kind
  pub change : Changes caller as_before AsBefore (λ sets. AloneShows kind sets shown) old new

-- a bit for each tag of a set, eight per byte; each bit past the last tag is 0
pub record Dumps (kind : Kind) (caller : ℕ) (old : State) (bytes : List ℕ) (new : State) : Type 0 where
  pub long : length bytes ≡ div_ceil (depth_of old kind) 8
  pub there : (tag : ℕ) → depth_of old kind ≤ tag → bit_in 8 bytes tag ≡ 0
  pub change : Changes caller as_before AsBefore (λ sets. AloneDumps kind sets bytes) old new
