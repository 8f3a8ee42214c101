-- What a subcommand with its options stands for.
use Rattle.std.specs.Prelude.{◌≡◌, ℕ, List, [], Option, Some, codes}
use Rattle.clap.specs.Words.{Row, Text, fault_of, subcommand_of}
use Rattle.tag_runs.specs.Reports.{Reports}
use Rattle.tag_script.specs.declared.ending.Ending.{Ending}
use Rattle.tag_script.specs.Check.{TellsVerdict}
use Rattle.tag_script.specs.Script.{Owed}
use Rattle.tagplay.specs.declared.subcommand.Subcommand.{Subcommand}
use Rattle.tagplay.specs.declared.subcommand.Subcommand.TheVariants.{Script, Check, Play}
use Rattle.tagplay.specs.CommandLine.{command_line}
use Rattle.tagplay.specs.Options.{AreScriptOptions, AreCheckOptions, ArePlayOptions}

-- the name of the subcommand, as it is typed
abbrev pub name_of : Subcommand → List ℕ
name_of (Script options) = codes "script"
name_of (Check options) = codes "check"
name_of (Play options) = codes "play"

-- the outputs that the chosen subcommand may give for an input
abbrev pub owed_by : Subcommand → List ℕ → List ℕ → Ending → Type 0
owed_by (Script options) = Owed options
owed_by (Check options) = TellsVerdict options
owed_by (Play options) = Reports options

-- the options of the subcommand are those that a parse has
abbrev pub HasOptions : List Row → Subcommand → Type 0
HasOptions rows (Script options) = AreScriptOptions rows options
HasOptions rows (Check options) = AreCheckOptions rows options
HasOptions rows (Play options) = ArePlayOptions rows options

-- the subcommand is the one that a parse entered, with the options given there
pub record IsChosen (entered : Option (Text × List Row)) (subcommand : Subcommand) : Type 0 where
  pub rows : List Row
  pub is : entered ≡ Some (name_of subcommand, rows)
  pub options : HasOptions rows subcommand

-- a parse of the words finds no fault, and the subcommand is the one that it enters
pub record Chooses (words : List Text) (subcommand : Subcommand) : Type 0 where
  pub faultless : fault_of command_line words ≡ []
  pub chosen : IsChosen (subcommand_of command_line words) subcommand
