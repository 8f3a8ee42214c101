-- The I/O lines of a log.
use Rattle.std.specs.Prelude.{◌<◌, List}
use Rattle.std.specs.List.{AllPairs}
use Rattle.loop_device.specs.declared.io.Io.{Io}

-- the lines are in ascending order, no two with the same number
abbrev pub LinesAscend : List Io → Type 0
LinesAscend ios = AllPairs (λ a b. a.line < b.line) ios
