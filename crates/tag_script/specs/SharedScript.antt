-- The output of a script whose callers share tags.
use Rattle.tag_script.specs.Uses.{false, List, Order, QueueOpenFault, State, ℕ}
use Rattle.std.specs.Prelude.{◌^◌}
use Rattle.refusals.specs.Refusals.{FailsFirst, PassesAll}
use Rattle.tag_pool.specs.declared.options.Options.{Options}
use Rattle.tag_queue.specs.Refusals.{open_checks}
use Rattle.tag_board.specs.Opening.{IsOpen}
use Rattle.tag_script.specs.declared.options.ScriptOptions.{ScriptOptions}
use Rattle.tag_script.specs.Outputs.{IsRun}
use Rattle.tag_script.specs.SharedCommands.{ObeysShared, AreSharedTotals}

-- the options with which the tags are opened
abbrev pub tag_options : ScriptOptions → Options
tag_options o = record {
  depth = o.tags;
  reserved = o.reserved;
  hands = o.callers;
  shift = o.shift;
  by_hands = false;
  round_robin = o.round_robin;
  min_shallow = o.min_shallow;
  life = o.life;
}

-- the first check of an open that fails, where each caller may count the most completions possible: never that of the cap
abbrev pub IsRefusedShared : ScriptOptions → QueueOpenFault → Type 0
IsRefusedShared o = FailsFirst (open_checks (tag_options o) (2 ^ 56))

-- an open passes every check
abbrev pub IsAllowed : ScriptOptions → Type 0
IsAllowed o = PassesAll (open_checks (tag_options o) (2 ^ 56))

-- the output of the orders: the options are allowed, and the orders are answered one after another, from new tags on
pub record IsToldShared (o : ScriptOptions) (orders : List Order) (text : List ℕ) : Type 0 where
  pub first : State
  pub allowed : IsAllowed o
  pub new : IsOpen (tag_options o) (2 ^ 56) first
  pub run : IsRun ObeysShared AreSharedTotals first orders text
