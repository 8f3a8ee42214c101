-- The table of the lines of a script, one order per line.
use Rattle.std.specs.Prelude.{ℕ, ◌^◌, ◌<◌, List, [], ◌∷◌, if◌then◌else◌, nat_lt, Option, Some, None, Result, Ok, Err, codes}
use Rattle.std.specs.Str.{bytes_eq}
use Rattle.tag_lines.specs.declared.dialect.Dialect.{Dialect}
use Rattle.tag_lines.specs.declared.dialect.Dialect.TheVariants.{Plain, Shared}
use Rattle.tag_lines.specs.declared.fault.LineFault.{LineFault}
use Rattle.tag_lines.specs.declared.fault.LineFault.TheVariants.{BadLine, BadNumber, NoSuchCaller}
use Rattle.tag_lines.specs.declared.fault.Misfit.TheVariants.{EmptyWord, WordCount, UnknownCommand}
use Rattle.tag_lines.specs.declared.tag_list.TheConstants.{FIRST}
use Rattle.tag_lines.specs.declared.order.Command.{Command}
use Rattle.tag_lines.specs.declared.order.Command.TheVariants as commands
use Rattle.tag_lines.specs.declared.order.Numbered.{Numbered}
use Rattle.tag_lines.specs.declared.order.Numbered.TheVariants.{Shallow, Batch, Clear, Post, Take, Resize}
use Rattle.tag_lines.specs.declared.order.Order.{Order}
use Rattle.tag_lines.specs.Dialects.{only_shared}
use Rattle.tag_lines.specs.Lines.{number_below, numbers_below}

-- the command with this name, among those without an argument
abbrev pub lone_of : Dialect → List ℕ → Option Command
lone_of dialect name =
    if bytes_eq name (codes "get") then Some commands.Get else
    (if bytes_eq name (codes "show") then Some commands.Show else
    (if bytes_eq name (codes "busy") then Some commands.Busy else
    (if bytes_eq name (codes "dump") then Some commands.Dump else
    (if bytes_eq name (codes "get-reserved") then only_shared dialect commands.GetReserved else
    (if bytes_eq name (codes "wait") then only_shared dialect commands.Wait else
    (if bytes_eq name (codes "leave") then only_shared dialect commands.Leave else
    (if bytes_eq name (codes "wakes") then only_shared dialect commands.Wakes else None)))))))

-- the kind of command with this name, among those with a number as their argument
abbrev pub numbered_of : Dialect → List ℕ → Option Numbered
numbered_of dialect name =
    if bytes_eq name (codes "shallow") then Some Shallow else
    (if bytes_eq name (codes "batch") then Some Batch else
    (if bytes_eq name (codes "clear") then Some Clear else
    (if bytes_eq name (codes "post") then only_shared dialect Post else
    (if bytes_eq name (codes "take") then only_shared dialect Take else
    (if bytes_eq name (codes "resize") then only_shared dialect Resize else None)))))

-- the command with this name, among those with the word `reserved` as their argument
abbrev pub reserved_of : Dialect → List ℕ → Option Command
reserved_of dialect name =
    if bytes_eq name (codes "show") then only_shared dialect commands.ShowReserved else
    (if bytes_eq name (codes "dump") then only_shared dialect commands.DumpReserved else None)

-- the command with this name and this argument, which is not a number
abbrev pub worded_of : Dialect → List ℕ → List ℕ → Option Command
worded_of dialect name word = if bytes_eq word (codes "reserved") then reserved_of dialect name else None

-- the command of this kind with this number
abbrev pub numbered_command : Numbered → ℕ → Command
numbered_command Shallow number = commands.Shallow number
numbered_command Batch number = commands.Batch number
numbered_command Clear number = commands.Clear number
numbered_command Post number = commands.Post number
numbered_command Take number = commands.Take number
numbered_command Resize number = commands.Resize number

-- a plain script may use the command
abbrev pub IsPlain : Command → Type 0
IsPlain commands.Get = Unit {0}
IsPlain commands.GetReserved = ⊥
IsPlain (commands.Shallow depth) = Unit {0}
IsPlain (commands.Batch n) = Unit {0}
IsPlain (commands.Clear tag) = Unit {0}
IsPlain (commands.ClearBatch tags) = Unit {0}
IsPlain (commands.Post tag) = ⊥
IsPlain (commands.Take tag) = ⊥
IsPlain commands.Wait = ⊥
IsPlain commands.Leave = ⊥
IsPlain commands.Wakes = ⊥
IsPlain commands.Show = Unit {0}
IsPlain commands.ShowReserved = ⊥
IsPlain commands.Busy = Unit {0}
IsPlain commands.Dump = Unit {0}
IsPlain commands.DumpReserved = ⊥
IsPlain (commands.Resize total) = ⊥

-- a script in the dialect may use the command
abbrev pub IsCommandOf : Dialect → Command → Type 0
IsCommandOf Plain command = IsPlain command
IsCommandOf Shared command = Unit {0}

-- a script in the dialect may use the order's command, and the caller's number is below `callers`
pub record IsOrderOf (dialect : Dialect) (callers : ℕ) (order : Order) : Type 0 where
  pub command : IsCommandOf dialect order.command
  pub caller : order.caller < callers

-- the order, if there is such a caller
abbrev pub ordered : ℕ → ℕ → Command → Result Order LineFault
ordered callers caller command =
    if nat_lt caller callers then Ok (record { caller = caller; command = command }) else Err NoSuchCaller

-- the second word is no command's name with as many words
abbrev pub unknown : Result Order LineFault
unknown = Err (BadLine (UnknownCommand 2))

-- an unknown name is reported before a bad number, and a bad number before an unknown caller
abbrev pub lone_line : ℕ → Option Command → Option ℕ → Result Order LineFault
lone_line callers None caller = unknown
lone_line callers (Some command) None = Err (BadNumber 1)
lone_line callers (Some command) (Some caller) = ordered callers caller command

-- the same for a command with a number
abbrev pub numbered_line : ℕ → Option Numbered → Option ℕ → Option ℕ → Result Order LineFault
numbered_line callers None caller number = unknown
numbered_line callers (Some kind) None number = Err (BadNumber 1)
numbered_line callers (Some kind) (Some caller) None = Err (BadNumber 3)
numbered_line callers (Some kind) (Some caller) (Some number) = ordered callers caller (numbered_command kind number)

-- the same for a list of numbers
abbrev pub listed_line : ℕ → Option ℕ → Result (List ℕ) ℕ → Result Order LineFault
listed_line callers None tags = Err (BadNumber 1)
listed_line callers (Some caller) (Err word) = Err (BadNumber word)
listed_line callers (Some caller) (Ok tags) = ordered callers caller (commands.ClearBatch tags)

-- a command with one argument: the word `reserved` if the command takes it, otherwise a number
abbrev pub word_line : ℕ → Option Command → Option Numbered → Option ℕ → Option ℕ → Result Order LineFault
word_line callers (Some command) kind caller number = lone_line callers (Some command) caller
word_line callers None kind caller number = numbered_line callers kind caller number

-- exactly one argument
abbrev pub one_word_line : Dialect → ℕ → List ℕ → List ℕ → List ℕ → List (List ℕ) → Result Order LineFault
one_word_line dialect callers caller name word [] =
    word_line callers (worded_of dialect name word) (numbered_of dialect name) (number_below (2 ^ 32) caller)
    (number_below (2 ^ 32) word)
one_word_line dialect callers caller name word (next ∷ more) = unknown

-- the order that a line's words describe, by a caller below `callers`; an empty word leaves the line without words
abbrev pub order_of : Dialect → ℕ → List (List ℕ) → Result Order LineFault
order_of dialect callers [] = Err (BadLine EmptyWord)
order_of dialect callers (caller ∷ []) = Err (BadLine WordCount)
order_of dialect callers (caller ∷ name ∷ []) = lone_line callers (lone_of dialect name) (number_below (2 ^ 32) caller)
order_of dialect callers (caller ∷ name ∷ word ∷ more) =
    if bytes_eq name (codes "clear-batch") then listed_line callers (number_below (2 ^ 32) caller)
    (numbers_below (2 ^ 32) FIRST (word ∷ more))
    else one_word_line dialect callers caller name word more
