-- The table of event lines.
use Rattle.std.specs.Prelude.{ℕ, ◌^◌, List, [], ◌∷◌, if◌then◌else◌, Option, Some, None, Result, Ok, Err, codes}
use Rattle.std.specs.Str.{bytes_eq}
use Rattle.tag_model.specs.declared.event.Event.{Event}
use Rattle.tag_model.specs.declared.event.Event.TheVariants as events
use Rattle.tag_lines.specs.declared.fault.LineFault.{LineFault}
use Rattle.tag_lines.specs.declared.fault.LineFault.TheVariants.{BadLine, BadNumber}
use Rattle.tag_lines.specs.declared.fault.Misfit.TheVariants.{EmptyWord, UnknownCommand}
use Rattle.tag_lines.specs.declared.event_list.Single.{Single}
use Rattle.tag_lines.specs.declared.event_list.Single.TheVariants.{Put, Sweep, Spill, Post, Take}
use Rattle.tag_lines.specs.declared.event_list.Masked.{Masked}
use Rattle.tag_lines.specs.declared.event_list.Masked.TheVariants.{Win, Give, Keep}
use Rattle.tag_lines.specs.Lines.{number_below}

-- the kind of event with this name, among those on one tag or one word
abbrev pub single_of : List ℕ → Option Single
single_of name =
    if bytes_eq name (codes "put") then Some Put else
    (if bytes_eq name (codes "sweep") then Some Sweep else
    (if bytes_eq name (codes "spill") then Some Spill else
    (if bytes_eq name (codes "post") then Some Post else
    (if bytes_eq name (codes "take") then Some Take else None))))

-- the kind of event with this name, among those on a mask
abbrev pub masked_of : List ℕ → Option Masked
masked_of name = if bytes_eq name (codes "win") then Some Win else
    (if bytes_eq name (codes "give") then Some Give else
    (if bytes_eq name (codes "keep") then Some Keep else None))

-- the event of a caller on a tag or a word
abbrev pub single_event : Single → ℕ → ℕ → Event
single_event Put caller on = events.Put caller on
single_event Sweep caller on = events.Sweep caller on
single_event Spill caller on = events.Spill caller on
single_event Post caller on = events.Post caller on
single_event Take caller on = events.Take caller on

-- the event of a caller on a mask of a word
abbrev pub masked_event : Masked → ℕ → ℕ → ℕ → Event
masked_event Win caller word mask = events.Win caller word mask
masked_event Give caller word mask = events.Give caller word mask
masked_event Keep caller word mask = events.Keep caller word mask

-- the first word is no event's name with as many words
abbrev pub unknown : Result Event LineFault
unknown = Err (BadLine (UnknownCommand 1))

-- an unknown name is reported before a bad number
abbrev pub single_line : Option Single → Option ℕ → Option ℕ → Result Event LineFault
single_line None caller on = unknown
single_line (Some kind) None on = Err (BadNumber 2)
single_line (Some kind) (Some caller) None = Err (BadNumber 3)
single_line (Some kind) (Some caller) (Some on) = Ok (single_event kind caller on)

-- the same for an event with a mask
abbrev pub masked_line : Option Masked → Option ℕ → Option ℕ → Option ℕ → Result Event LineFault
masked_line None caller word mask = unknown
masked_line (Some kind) None word mask = Err (BadNumber 2)
masked_line (Some kind) (Some caller) None mask = Err (BadNumber 3)
masked_line (Some kind) (Some caller) (Some word) None = Err (BadNumber 4)
masked_line (Some kind) (Some caller) (Some word) (Some mask) = Ok (masked_event kind caller word mask)

-- the event that the words of a line describe; a line with an empty word counts as having no words
abbrev pub event_of : List (List ℕ) → Result Event LineFault
event_of [] = Err (BadLine EmptyWord)
event_of (name ∷ []) = if bytes_eq name (codes "look") then Ok events.Look else unknown
event_of (name ∷ caller ∷ []) = unknown
event_of (name ∷ caller ∷ on ∷ []) = single_line (single_of name) (number_below (2 ^ 32) caller)
    (number_below (2 ^ 32) on)
event_of (name ∷ caller ∷ word ∷ mask ∷ []) =
    masked_line (masked_of name) (number_below (2 ^ 32) caller) (number_below (2 ^ 32) word)
    (number_below (2 ^ 64) mask)
event_of (name ∷ caller ∷ word ∷ mask ∷ more ∷ rest) = unknown
