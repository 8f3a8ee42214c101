-- The subcommands are added one at a time.
use Rattle.std.proofs.Common.{refl, true}
use Rattle.std.proofs.lemmas.Result.{IfOk-weaker}
use Rattle.clap.specs.Words.{App}
use Rattle.tagplay.proofs.Building.{adds_sub, begins, sets}
use Rattle.tagplay.proofs.options.command.Goals as goal

-- it has a version
abbrev versioned : App → App
versioned a = record { top = record a.top { has_version = true }; subs = a.subs }

-- one of its subcommands is required
abbrev needing : App → App
needing a = record { top = record a.top { subcommand_required = true }; subs = a.subs }

pub returns : goal.returns
returns c =
    let new = begins c.new.result _ c.new.ensures.app c.new.ensures.local in
    let version = sets versioned c.new.result c.version.result _ _ new c.version.ensures refl refl in
    let about = sets (λ a. a) c.version.result c.about.result _ _ version c.about.ensures refl refl in
    let needs =
    sets needing c.about.result c.subcommand_required.result _ _ about c.subcommand_required.ensures refl refl in
    let script = adds_sub _ _ _ _ _ needs c.in_ok-subcommand.ensures c.in_ok-script_command.ensures.shape
    c.in_ok-script_command.ensures.local in
    let check = adds_sub _ _ _ _ _ script c.in_ok-subcommand-2.ensures c.in_ok-check_command.ensures.shape
    c.in_ok-check_command.ensures.local in
    IfOk-weaker c.subcommand-3.result _ _ (λ command added.
    (adds_sub _ _ _ _ _ check added c.in_ok-play_command.ensures.shape c.in_ok-play_command.ensures.local).is)
    c.subcommand-3.ensures
