-- What a parse reads of a command that is built a step at a time.
use Rattle.std.proofs.Common.{◌≡◌, ◌∙◌, Bool, false, ◌||◌, ap, ap₂}
use Rattle.clap.specs.Words.{AddsArg, AddsSubcommand, App, Rule, Shape, app_of, rule_of, shape_of, with_rule, with_subcommand}
use Rattle.clap.specs.Simple.{app_of_fields}
use Rattle.clap.specs.declared.builder.arg.Arg.{Arg}
use Rattle.clap.specs.declared.builder.command.Command.{Command}
use Rattle.clap.specs.declared.builder.command.Command.TheOpen.{Command-F}
use Rattle.clap.specs.declared.builder.command.Command.TheViews.{out-Command}

-- a parse reads this of the command, and none of its arguments is global
pub record Reads (command : Command) (app : App) : Type 0 where
  pub is : app_of command ≡ app
  pub local : (out-Command command).has_globals ≡ false

-- a new command
pub begins : (command : Command) (app : App) → app_of command ≡ app → (out-Command command).has_globals ≡ false
    → Reads command app
begins command app is local = record { is = is; local = local }

-- a setting is changed, of which a parse may read something
pub sets : (change : App → App) (old new : Command) (fields : Command-F Command) (app : App) → Reads old app
    → out-Command new ≡ fields → app_of_fields fields ≡ change (app_of old)
    → fields.has_globals ≡ (out-Command old).has_globals → Reads new (change app)
sets change old new fields app reads made is local = record {
  is = ap app_of_fields made ∙ is ∙ ap change reads.is;
  local = ap (λ (f : Command-F Command). f.has_globals) made ∙ local ∙ reads.local;
}

-- an argument is added
pub adds : (old new : Command) (a : Arg) (app : App) (rule : Rule) → Reads old app → AddsArg old a new
    → rule_of a ≡ rule → a.global ≡ false → Reads new (with_rule app rule)
adds old new a app rule reads added is local = record {
  is = added.shape local ∙ ap₂ with_rule reads.is is;
  local = added.globals ∙ ap₂ (λ (x y : Bool). x || y) reads.local local;
}

-- a subcommand is added
pub adds_sub : (old new sub : Command) (app : App) (shape : Shape) → Reads old app
    → AddsSubcommand old sub new → shape_of sub ≡ shape → (out-Command sub).has_globals ≡ false
    → Reads new (with_subcommand app shape)
adds_sub old new sub app shape reads added is local = record {
  is = added.shape local ∙ ap₂ with_subcommand reads.is is;
  local = added.globals ∙ ap₂ (λ (x y : Bool). x || y) reads.local local;
}
