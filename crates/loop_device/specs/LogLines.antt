-- The table of lines of an I/O log.
use Rattle.std.specs.Prelude.{◌≡◌, ◌≢◌, ℕ, ◌^◌, List, [], ◌∷◌, ◌++◌, length, map, position, nat_lt, if◌then◌else◌, Vec}
use Rattle.std.specs.Prelude.{Option, Some, None, Result, Ok, Err, codes}
use Rattle.std.specs.Str.{bytes_eq}
use Rattle.std.specs.declared.alloc.Global.{Global}
use Rattle.tag_lines.specs.Lines.{number_below}
use Rattle.loop_device.specs.declared.fault.LogCause.{LogCause}
use Rattle.tag_lines.specs.declared.fault.Misfit.TheVariants.{EmptyWord, WordCount, UnknownCommand}
use Rattle.loop_device.specs.declared.fault.LogCause.TheVariants.{BadLine, BadNumber, UnknownName, TooManyNames, Memory}
use Rattle.loop_device.specs.declared.fault.LogNumber.TheVariants.{Offset, Length}
use Rattle.loop_device.specs.declared.io.IoKind.TheVariants as kinds
use Rattle.loop_device.specs.declared.log_line.Entry.{Entry}
use Rattle.loop_device.specs.declared.log_line.Entry.TheVariants as entries
use Rattle.loop_device.specs.declared.log_line.NameAction.{NameAction}
use Rattle.loop_device.specs.declared.log_line.NameAction.TheVariants.{Add, Open, Close}
use Rattle.loop_device.specs.declared.log_line.RangeAction.{RangeAction}
use Rattle.loop_device.specs.declared.log_line.RangeAction.TheVariants as ranges
use Rattle.loop_device.specs.declared.log_line.TheConstants.{MAX_NAMES}

-- the bytes of each name
abbrev pub names_of : List (Vec ℕ Global) → List (List ℕ)
names_of names = map (λ name. name.items) names

-- the index of a name among the known ones
abbrev pub index_of : List (List ℕ) → List ℕ → Option ℕ
index_of names name = position (λ known. bytes_eq known name) names

-- the action with this name, among those that take only a name
abbrev pub name_action : List ℕ → Option NameAction
name_action action =
    if bytes_eq action (codes "add") then Some Add else
    (if bytes_eq action (codes "open") then Some Open else
    (if bytes_eq action (codes "close") then Some Close else None))

-- the action with this name, among those that take a range of bytes
abbrev pub range_action : List ℕ → Option RangeAction
range_action action =
    if bytes_eq action (codes "read") then Some (ranges.Io kinds.Read) else
    (if bytes_eq action (codes "write") then Some (ranges.Io kinds.Write) else
    (if bytes_eq action (codes "trim") then Some (ranges.Io kinds.Trim) else
    (if bytes_eq action (codes "sync") then Some (ranges.Io kinds.Sync) else
    (if bytes_eq action (codes "datasync") then Some (ranges.Io kinds.Datasync) else
    (if bytes_eq action (codes "wait") then Some ranges.Wait else None)))))

-- the line has neither two words nor four
abbrev pub uncounted : Result Entry LogCause
uncounted = Err (BadLine WordCount)

-- the second word is no action with this many words
abbrev pub unknown : Result Entry LogCause
unknown = Err (BadLine (UnknownCommand 2))

-- a new name is added if there is room for it; only a known name can be opened or closed
abbrev pub name_entry : Option NameAction → Option ℕ → ℕ → Result Entry LogCause
name_entry None index count = unknown
name_entry (Some action) (Some index) count = Ok entries.Name
name_entry (Some Add) None count = if nat_lt count MAX_NAMES then Ok entries.Name else Err TooManyNames
name_entry (Some Open) None count = Err UnknownName
name_entry (Some Close) None count = Err UnknownName

-- an I/O line needs a known name and stores its index; a wait needs none
abbrev pub io_entry : ℕ → RangeAction → ℕ → ℕ → Option ℕ → Result Entry LogCause
io_entry line ranges.Wait offset length index = Ok entries.Wait
io_entry line (ranges.Io kind) offset length None = Err UnknownName
io_entry line (ranges.Io kind) offset length (Some index) =
    Ok (entries.Io (record { line = line; kind = kind; name = index; offset = offset; length = length }))

-- an unknown action is reported before a bad number, and a bad number before an unknown name
abbrev pub range_entry : ℕ → Option RangeAction → Option ℕ → Option ℕ → Option ℕ → Result Entry LogCause
range_entry line None offset length index = unknown
range_entry line (Some action) None length index = Err (BadNumber Offset)
range_entry line (Some action) (Some offset) None index = Err (BadNumber Length)
range_entry line (Some action) (Some offset) (Some length) index = io_entry line action offset length index

-- exactly two numbers
abbrev pub range_words : ℕ → Option RangeAction → List (List ℕ) → Option ℕ → Result Entry LogCause
range_words line action [] index = uncounted
range_words line action (offset ∷ []) index = uncounted
range_words line action (offset ∷ length ∷ []) index =
    range_entry line action (number_below (2 ^ 63) offset) (number_below (2 ^ 63) length) index
range_words line action (offset ∷ length ∷ word ∷ more) index = uncounted

-- what the words of the line with this number say, given the known names; a line with an empty word has no words
abbrev pub entry_of : List (List ℕ) → ℕ → List (List ℕ) → Result Entry LogCause
entry_of names line [] = Err (BadLine EmptyWord)
entry_of names line (name ∷ []) = uncounted
entry_of names line (name ∷ action ∷ []) = name_entry (name_action action) (index_of names name) (length names)
entry_of names line (name ∷ action ∷ word ∷ more) = range_words line (range_action action) (word ∷ more)
    (index_of names name)

-- the names, with this one appended if it is new
abbrev pub with_name : List (List ℕ) → List ℕ → Option ℕ → List (List ℕ)
with_name names name (Some index) = names
with_name names name None = names ++ name ∷ []

-- the names that are known after a line with these words
abbrev pub names_after : List (List ℕ) → List (List ℕ) → List (List ℕ)
names_after names [] = names
names_after names (name ∷ []) = names
names_after names (name ∷ action ∷ []) =
    if bytes_eq action (codes "add") then with_name names name (index_of names name) else names
names_after names (name ∷ action ∷ word ∷ more) = names

-- if the entry is an I/O line, it has this number
abbrev pub IsOfLine : ℕ → Entry → Type 0
IsOfLine number entries.Name = Unit {0}
IsOfLine number entries.Wait = Unit {0}
IsOfLine number (entries.Io io) = io.line ≡ number

-- the cause is why the line is faulty, unless memory ran out
abbrev pub TellsCause : Result Entry LogCause → LogCause → Type 0
TellsCause said cause = cause ≢ Memory → said ≡ Err cause
